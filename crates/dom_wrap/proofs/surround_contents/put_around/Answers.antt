use Rattle.std.proofs.Common.{None}
use Rattle.dom_model.specs.Definitions.{and_then, try_pre_insert, insert_node, try_select}
use Rattle.dom_edit.proofs.KeepsNodesLemmas.{labels-then}
use Rattle.dom_wrap.specs.Outcomes.{MayTake}
use Rattle.dom_wrap.proofs.SurroundingSteps.{Stays, take-first, take-next, insert-passes, parent-passes-there, stays-inserted, passes-inserted, stays-appended, passes-appended, passes-put}
use Rattle.dom_wrap.proofs.surround_contents.put_around.Goals as goal

pub insert_at_start-requires-clause-allowed : goal.insert_at_start-requires-clause-allowed
insert_at_start-requires-clause-allowed c =
    take-first c.args.world.now (insert_node c.args.range c.args.node) (λ v. and_then (try_pre_insert c.args.fragment c.args.node None v) (λ v. try_select c.args.range c.args.node v)) c.requires.allowed

pub insert_checked-requires-clause-node_held : goal.insert_checked-requires-clause-node_held
insert_checked-requires-clause-node_held c =
    let b = c.insert_at_start.new.world in
    let k : Stays c.args.world.now b c.args.range = stays-inserted c.args.world.now b c.requires.whole c.args.range c.args.node c.requires.node_held c.in_ok-insert_at_start.ensures.allowed c.in_ok-insert_at_start.ensures.inserted in
    k.nodes c.args.fragment c.requires.fragment_held

pub insert_checked-requires-clause-allowed : goal.insert_checked-requires-clause-allowed
insert_checked-requires-clause-allowed c =
    let b = c.insert_at_start.new.world in
    let more : MayTake b (λ w. and_then (try_pre_insert c.args.fragment c.args.node None w) (λ v. try_select c.args.range c.args.node v)) =
    take-next c.args.world.now b (insert_node c.args.range c.args.node) (λ v. and_then (try_pre_insert c.args.fragment c.args.node None v) (λ v. try_select c.args.range c.args.node v)) c.requires.allowed c.in_ok-insert_at_start.ensures.inserted in
    let passes = insert-passes b c.args.node c.args.fragment (take-first b (try_pre_insert c.args.fragment c.args.node None) (λ v. try_select c.args.range c.args.node v) more) in
    passes

pub select-requires-clause-held : goal.select-requires-clause-held
select-requires-clause-held c =
    let b = c.insert_at_start.new.world in
    let d = c.insert_checked.new.self in
    let k : Stays c.args.world.now b c.args.range = stays-inserted c.args.world.now b c.requires.whole c.args.range c.args.node c.requires.node_held c.in_ok-insert_at_start.ensures.allowed c.in_ok-insert_at_start.ensures.inserted in
    let more : MayTake b (λ w. and_then (try_pre_insert c.args.fragment c.args.node None w) (λ v. try_select c.args.range c.args.node v)) =
    take-next c.args.world.now b (insert_node c.args.range c.args.node) (λ v. and_then (try_pre_insert c.args.fragment c.args.node None v) (λ v. try_select c.args.range c.args.node v)) c.requires.allowed c.in_ok-insert_at_start.ensures.inserted in
    let passes = insert-passes b c.args.node c.args.fragment (take-first b (try_pre_insert c.args.fragment c.args.node None) (λ v. try_select c.args.range c.args.node v) more) in
    let l : Stays b d c.args.range = stays-appended b d c.insert_at_start.ensures.whole c.args.range c.args.node c.args.fragment (k.nodes c.args.fragment c.requires.fragment_held) passes c.in_ok-insert_checked.ensures.inserted in
    l.live (k.live c.requires.held)

pub select-requires-clause-node_held : goal.select-requires-clause-node_held
select-requires-clause-node_held c =
    let b = c.insert_at_start.new.world in
    let d = c.insert_checked.new.self in
    let k : Stays c.args.world.now b c.args.range = stays-inserted c.args.world.now b c.requires.whole c.args.range c.args.node c.requires.node_held c.in_ok-insert_at_start.ensures.allowed c.in_ok-insert_at_start.ensures.inserted in
    let more : MayTake b (λ w. and_then (try_pre_insert c.args.fragment c.args.node None w) (λ v. try_select c.args.range c.args.node v)) =
    take-next c.args.world.now b (insert_node c.args.range c.args.node) (λ v. and_then (try_pre_insert c.args.fragment c.args.node None v) (λ v. try_select c.args.range c.args.node v)) c.requires.allowed c.in_ok-insert_at_start.ensures.inserted in
    let passes = insert-passes b c.args.node c.args.fragment (take-first b (try_pre_insert c.args.fragment c.args.node None) (λ v. try_select c.args.range c.args.node v) more) in
    let l : Stays b d c.args.range = stays-appended b d c.insert_at_start.ensures.whole c.args.range c.args.node c.args.fragment (k.nodes c.args.fragment c.requires.fragment_held) passes c.in_ok-insert_checked.ensures.inserted in
    l.nodes c.args.node (k.nodes c.args.node c.requires.node_held)

pub select-requires-clause-allowed : goal.select-requires-clause-allowed
select-requires-clause-allowed c =
    let b = c.insert_at_start.new.world in
    let d = c.insert_checked.new.self in
    let k : Stays c.args.world.now b c.args.range = stays-inserted c.args.world.now b c.requires.whole c.args.range c.args.node c.requires.node_held c.in_ok-insert_at_start.ensures.allowed c.in_ok-insert_at_start.ensures.inserted in
    let more : MayTake b (λ w. and_then (try_pre_insert c.args.fragment c.args.node None w) (λ v. try_select c.args.range c.args.node v)) =
    take-next c.args.world.now b (insert_node c.args.range c.args.node) (λ v. and_then (try_pre_insert c.args.fragment c.args.node None v) (λ v. try_select c.args.range c.args.node v)) c.requires.allowed c.in_ok-insert_at_start.ensures.inserted in
    let passes = insert-passes b c.args.node c.args.fragment (take-first b (try_pre_insert c.args.fragment c.args.node None) (λ v. try_select c.args.range c.args.node v) more) in
    let appended = passes-appended b d c.insert_at_start.ensures.whole c.args.range c.args.node c.args.fragment (k.nodes c.args.fragment c.requires.fragment_held) passes c.in_ok-insert_checked.ensures.inserted in
    parent-passes-there d c.args.range c.args.node (take-next b d (try_pre_insert c.args.fragment c.args.node None) (λ v. try_select c.args.range c.args.node v) more appended.follows)

pub returns-clause-put : goal.returns-clause-put
returns-clause-put c =
    let a = c.args.world.now in
    let b = c.insert_at_start.new.world in
    let d = c.insert_checked.new.self in
    let k : Stays c.args.world.now b c.args.range = stays-inserted c.args.world.now b c.requires.whole c.args.range c.args.node c.requires.node_held c.in_ok-insert_at_start.ensures.allowed c.in_ok-insert_at_start.ensures.inserted in
    let more : MayTake b (λ w. and_then (try_pre_insert c.args.fragment c.args.node None w) (λ v. try_select c.args.range c.args.node v)) =
    take-next c.args.world.now b (insert_node c.args.range c.args.node) (λ v. and_then (try_pre_insert c.args.fragment c.args.node None v) (λ v. try_select c.args.range c.args.node v)) c.requires.allowed c.in_ok-insert_at_start.ensures.inserted in
    let passes = insert-passes b c.args.node c.args.fragment (take-first b (try_pre_insert c.args.fragment c.args.node None) (λ v. try_select c.args.range c.args.node v) more) in
    passes-put a b d c.select.new.world c.args.range c.args.node c.args.fragment
    (passes-inserted a b c.requires.whole c.args.range c.args.node c.requires.node_held c.in_ok-insert_at_start.ensures.allowed c.in_ok-insert_at_start.ensures.inserted)
    (passes-appended b d c.insert_at_start.ensures.whole c.args.range c.args.node c.args.fragment (k.nodes c.args.fragment c.requires.fragment_held) passes c.in_ok-insert_checked.ensures.inserted)
    c.select.ensures.selected

pub returns-clause-kept : goal.returns-clause-kept
returns-clause-kept c =
    let b = c.insert_at_start.new.world in
    let d = c.insert_checked.new.self in
    let last = c.select.new.world in
    labels-then c.args.world.now b last c.insert_at_start.ensures.kept (labels-then b d last c.insert_checked.ensures.kept.labelled c.select.ensures.kept)
