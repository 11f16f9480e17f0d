use Rattle.std.proofs.Common.{Option, is_some, ap, sym, ◌∙◌, tests, rules, arith}
use Rattle.std.proofs.lemmas.Grind.{common_steps}
use Rattle.dom_model.specs.Definitions.{Range}
use Rattle.dom_ranges.specs.Tables.{RangeTable}
use Rattle.dom_edit.specs.KeptNodes.{present}
use Rattle.dom_edit.proofs.{RemoveLemmas.held-covered, KeepsNodesLemmas.nodes-ranged, KeepsWatchersLemmas.present-set}
use Rattle.dom_wrap.proofs.InsertedNode.{grown-range, set-done, follows-ended, whole-ended}
use Rattle.dom_wrap.proofs.insert_into_range.end_if_collapsed.Goals as goal

pub set_end-requires-clause-node : goal.set_end-requires-clause-node
set_end-requires-clause-node c =
    let range : Range = record { start = c.ends-start.result.0; end = c.ends-start.result.1 } in
    (grown-range c.args.world.now c.requires.whole c.args.range c.args.end range c.ends-start.ensures.ends c.requires.sound (sym c.if-eq.ensures)).ends.there

pub set_end-requires-clause-covered : goal.set_end-requires-clause-covered
set_end-requires-clause-covered c =
    let range : Range = record { start = c.ends-start.result.0; end = c.ends-start.result.1 } in
    let there = (grown-range c.args.world.now c.requires.whole c.args.range c.args.end range c.ends-start.ensures.ends c.requires.sound (sym c.if-eq.ensures)).ends.there in
    held-covered c.args.world.now c.requires.whole c.args.end.node there

pub returns-then-eq-clause-ended : goal.returns-then-eq-clause-ended
returns-then-eq-clause-ended c =
    let v = c.args.world.now in
    let range : Range = record { start = c.ends-start.result.0; end = c.ends-start.result.1 } in
    let e = c.ends-start.ensures.ends in
    let collapsed = sym c.if-eq.ensures in
    let is = set-done v c.requires.whole c.args.range c.args.end range e c.requires.sound collapsed c.set_end.new.self c.set_end.result c.set_end.ensures.refusal c.set_end.ensures.set in
    rw c.set_end.ensures.kept (follows-ended v c.requires.whole c.args.range c.args.end range e c.set_end.new.self is c.requires.sound collapsed)

pub returns-then-eq-clause-whole : goal.returns-then-eq-clause-whole
returns-then-eq-clause-whole c =
    let v = c.args.world.now in
    let range : Range = record { start = c.ends-start.result.0; end = c.ends-start.result.1 } in
    let e = c.ends-start.ensures.ends in
    let collapsed = sym c.if-eq.ensures in
    let is = set-done v c.requires.whole c.args.range c.args.end range e c.requires.sound collapsed c.set_end.new.self c.set_end.result c.set_end.ensures.refusal c.set_end.ensures.set in
    rw c.set_end.ensures.kept (whole-ended v c.requires.whole c.args.range c.args.end range e c.set_end.new.self is c.requires.sound collapsed)

pub returns-then-eq-clause-kept : goal.returns-then-eq-clause-kept
returns-then-eq-clause-kept c =
    let v = c.args.world.now in
    let range : Range = record { start = c.ends-start.result.0; end = c.ends-start.result.1 } in
    let e = c.ends-start.ensures.ends in
    let is = set-done v c.requires.whole c.args.range c.args.end range e c.requires.sound (sym c.if-eq.ensures) c.set_end.new.self c.set_end.result c.set_end.ensures.refusal c.set_end.ensures.set in
    let set = ap (λ (t : RangeTable). present t.ranges) is ∙ present-set v.ranges.ranges c.args.range _ (ap (λ (o : Option Range). is_some o) e) in
    rw c.set_end.ensures.kept ((nodes-ranged v c.set_end.new.self set).labelled)

pub set_end-requires-clause-stands : goal.set_end-requires-clause-stands
set_end-requires-clause-stands c = grind (arith, common_steps)

pub returns-then-not-holds-clause-ended : goal.returns-then-not-holds-clause-ended
returns-then-not-holds-clause-ended c = search (tests, rules)

pub returns-then-not-holds-clause-whole : goal.returns-then-not-holds-clause-whole
returns-then-not-holds-clause-whole c = search (tests, rules)

pub returns-else-eq-clause-ended : goal.returns-else-eq-clause-ended
returns-else-eq-clause-ended c = search (tests, rules)

pub returns-else-eq-clause-whole : goal.returns-else-eq-clause-whole
returns-else-eq-clause-whole c = search (tests, rules)
