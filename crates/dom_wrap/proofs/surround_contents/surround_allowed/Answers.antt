use Rattle.std.proofs.Common.{ℕ, None, sym, subst}
use Rattle.std.proofs.lemmas.Result.{on_ok_weaker}
use Rattle.dom_model.specs.Definitions.{HasNode, extract, replace_all, try_extract}
use Rattle.dom_edit.specs.Whole.{unwatched}
use Rattle.dom_edit.proofs.{FollowsLemmas.keeps-unwatched, KeepsNodesLemmas.labels-then}
use Rattle.dom_wrap.specs.Outcomes.{Passes, MayTake, put_around}
use Rattle.dom_wrap.proofs.{SurroundingRoom.room-extract, SurroundingRoom.room-emptied, SurroundingSteps.Stays, SurroundingSteps.take-next, SurroundingSteps.take-step, SurroundingSteps.take-whole, SurroundingSteps.extract-passes, SurroundingSteps.stays-extracted, SurroundingSteps.fragment-there, SurroundingSteps.stays-emptied, SurroundingSteps.passes-extracted, SurroundingSteps.follows-surrounded}
use Rattle.dom_wrap.proofs.surround_contents.surround_allowed.Goals as goal

pub extract_checked-requires-clause-room : goal.extract_checked-requires-clause-room
extract_checked-requires-clause-room c =
    room-extract c.args.range c.args.node (unwatched c.args.world.now) c.requires.held c.requires.allowed c.requires.room

pub extract_checked-requires-clause-allowed : goal.extract_checked-requires-clause-allowed
extract_checked-requires-clause-allowed c = extract-passes c.args.world.now c.args.range c.args.node c.requires.held c.requires.allowed

pub remove_children-requires-clause-held : goal.remove_children-requires-clause-held
remove_children-requires-clause-held c =
    let k : Stays c.args.world.now c.extract_checked.new.world c.args.range = stays-extracted c.args.world.now c.extract_checked.new.world c.requires.whole c.args.range c.requires.held (extract-passes c.args.world.now c.args.range c.args.node c.requires.held c.requires.allowed) c.in_ok-fragment.ensures.extracted.extracted in
    k.nodes c.args.node c.requires.node_held

pub put_around-requires-clause-held : goal.put_around-requires-clause-held
put_around-requires-clause-held c =
    let b = c.extract_checked.new.world in
    let k : Stays c.args.world.now b c.args.range = stays-extracted c.args.world.now b c.requires.whole c.args.range c.requires.held (extract-passes c.args.world.now c.args.range c.args.node c.requires.held c.requires.allowed) c.in_ok-fragment.ensures.extracted.extracted in
    let l : Stays b c.remove_children.new.world c.args.range = stays-emptied b c.remove_children.new.world c.extract_checked.ensures.whole c.args.range c.args.node c.in_ok-remove_children.ensures.removed in
    l.live (k.live c.requires.held)

pub put_around-requires-clause-node_held : goal.put_around-requires-clause-node_held
put_around-requires-clause-node_held c =
    let b = c.extract_checked.new.world in
    let k : Stays c.args.world.now b c.args.range = stays-extracted c.args.world.now b c.requires.whole c.args.range c.requires.held (extract-passes c.args.world.now c.args.range c.args.node c.requires.held c.requires.allowed) c.in_ok-fragment.ensures.extracted.extracted in
    let l : Stays b c.remove_children.new.world c.args.range = stays-emptied b c.remove_children.new.world c.extract_checked.ensures.whole c.args.range c.args.node c.in_ok-remove_children.ensures.removed in
    l.nodes c.args.node (k.nodes c.args.node c.requires.node_held)

pub put_around-requires-clause-fragment_held : goal.put_around-requires-clause-fragment_held
put_around-requires-clause-fragment_held c =
    let a = c.args.world.now in
    let b = c.extract_checked.new.world in
    let there = fragment-there a b c.requires.whole c.args.range c.requires.held (extract-passes c.args.world.now c.args.range c.args.node c.requires.held c.requires.allowed) c.in_ok-fragment.ensures.extracted.extracted in
    let l : Stays b c.remove_children.new.world c.args.range = stays-emptied b c.remove_children.new.world c.extract_checked.ensures.whole c.args.range c.args.node c.in_ok-remove_children.ensures.removed in
    l.nodes c.in_ok-fragment.fragment (subst (λ (n : ℕ). HasNode b.tree.forest n) (sym c.in_ok-fragment.ensures.extracted.number) there)

pub put_around-requires-clause-allowed : goal.put_around-requires-clause-allowed
put_around-requires-clause-allowed c =
    let a = c.args.world.now in
    let b = c.extract_checked.new.world in
    let r = c.args.range in
    let n = c.args.node in
    let drawn = passes-extracted a b c.requires.whole r c.requires.held (extract-passes a r n c.requires.held c.requires.allowed) c.in_ok-fragment.ensures.extracted.extracted in
    let rest = take-next a b (try_extract r) (λ v. put_around r n a.tree.made (replace_all None n v)) (take-whole a r n c.requires.held c.requires.allowed) drawn.follows in
    subst (λ (fragment : ℕ). MayTake c.remove_children.new.world (put_around r n fragment)) (sym c.in_ok-fragment.ensures.extracted.number)
    (take-step b c.remove_children.new.world (replace_all None n) (put_around r n a.tree.made) rest c.in_ok-remove_children.ensures.removed)

pub put_around-requires-clause-room : goal.put_around-requires-clause-room
put_around-requires-clause-room c =
    let a = c.args.world.now in
    let keeps = c.in_ok-remove_children.ensures.removed.keeps (extract c.args.range (unwatched a)) (c.in_ok-fragment.ensures.extracted.extracted.keeps (unwatched a) (keeps-unwatched a)) in
    room-emptied c.args.range c.args.node (unwatched a) c.requires.held c.requires.allowed c.requires.room c.remove_children.new.world keeps

pub returns-clause-surrounded : goal.returns-clause-surrounded
returns-clause-surrounded c =
    let a = c.args.world.now in
    let b = c.extract_checked.new.world in
    let r = c.args.range in
    let n = c.args.node in
    let last = c.put_around.new.world in
    on_ok_weaker c.put_around.result
    (λ (put : Passes c.remove_children.new.world last (put_around r n c.in_ok-fragment.fragment)).
    follows-surrounded a b c.remove_children.new.world last c.requires.whole r n c.requires.held c.requires.allowed
    (passes-extracted a b c.requires.whole r c.requires.held (extract-passes c.args.world.now c.args.range c.args.node c.requires.held c.requires.allowed) c.in_ok-fragment.ensures.extracted.extracted) c.in_ok-remove_children.ensures.removed
    (subst (λ (fragment : ℕ). Passes c.remove_children.new.world last (put_around r n fragment)) c.in_ok-fragment.ensures.extracted.number put))
    c.put_around.ensures.put

pub returns-clause-kept : goal.returns-clause-kept
returns-clause-kept c =
    let b = c.extract_checked.new.world in
    let d = c.remove_children.new.world in
    let last = c.put_around.new.world in
    labels-then c.args.world.now b last c.extract_checked.ensures.kept (labels-then b d last c.remove_children.ensures.kept c.put_around.ensures.kept)
