-- One after another is finished.
use Rattle.std.proofs.Common.{◌<◌, ◌≤◌, [], ◌∷◌, ◌++◌, length, arith, ⊎_elim}
use Rattle.std.proofs.lemmas.Bool.{cases_lt, false≢true}
use Rattle.dom_edit.proofs.KeepsNodesLemmas.{labels-then}
use Rattle.dom_edit.specs.OlderNodes.{AreNewer}
use Rattle.dom_content.specs.Paths.{numbers_of_copies}
use Rattle.dom_content.proofs.{StillHeldLemmas.labels-none, AreNewerLemmas.front-newer, AreNewerLemmas.last-newer, PathSteps.closing-first, PathSteps.closing-last, PathSteps.closing-room, PathSteps.closing-next, PathSteps.closing-end, PathSteps.no_partials, PathSteps.fewer}
use Rattle.dom_content.proofs.partially_contained.close_all.Goals as goal

pub loop-partial-init : goal.loop-partial-init
loop-partial-init c = record {
  closing = closing-first c.args.world.now c.args.moves c.args.partials.items c.requires.whole c.requires.may c.requires.room;
  kept = labels-none c.args.world.now;
  left = λ still a h newer l. (newer, l);
}

pub close_partial-requires-clause-whole : goal.close_partial-requires-clause-whole
close_partial-requires-clause-whole c = c.loop-partial.invariant.closing.whole

pub close_partial-requires-clause-may : goal.close_partial-requires-clause-may
close_partial-requires-clause-may c =
    closing-last c.args.world.now c.loop-partial.world c.args.moves c.args.partials.items c.pop.new.self.items c.in-Some.partial (rw c.in-Some.ensures.items at c.loop-partial.invariant.closing)

pub close_partial-requires-clause-room : goal.close_partial-requires-clause-room
close_partial-requires-clause-room c =
    closing-room c.args.world.now c.loop-partial.world c.args.moves c.args.partials.items c.pop.new.self.items c.in-Some.partial (rw c.in-Some.ensures.items at c.loop-partial.invariant.closing)

pub loop-partial-smaller : goal.loop-partial-smaller
loop-partial-smaller c = rw c.in-Some.ensures.items (fewer c.pop.new.self.items c.in-Some.partial)

pub loop-partial-preserved : goal.loop-partial-preserved
loop-partial-preserved c = record {
  closing = closing-next c.args.world.now c.loop-partial.world c.args.moves c.args.partials.items c.pop.new.self.items c.in-Some.partial (rw c.in-Some.ensures.items at c.loop-partial.invariant.closing)
      c.close_partial.new.world c.in_ok-close_partial.ensures.closed c.in_ok-close_partial.ensures.stays c.in_ok-close_partial.ensures.whole;
  kept = labels-then c.args.world.now c.loop-partial.world c.close_partial.new.world c.loop-partial.invariant.kept c.in_ok-close_partial.ensures.kept;
  left = λ still a h newer l.
      let k = c.loop-partial.invariant.left still a h newer l in
      let all : AreNewer a (numbers_of_copies (c.pop.new.self.items ++ c.in-Some.partial ∷ [])) = rw c.in-Some.ensures.items at k.0 in
      (front-newer a c.pop.new.self.items c.in-Some.partial all, c.in_ok-close_partial.ensures.left still a h (last-newer a c.pop.new.self.items c.in-Some.partial all) k.1);
}

pub returns-clause-closed : goal.returns-clause-closed
returns-clause-closed c =
    let empty =
    ⊎_elim
    (λ (lt : 0 < length c.loop-partial.partials.items). absurd (false≢true (c.in_default.ensures.variant.1 lt)))
    (λ (le : length c.loop-partial.partials.items ≤ 0). no_partials c.loop-partial.partials.items (omega arith))
    (cases_lt 0 (length c.loop-partial.partials.items)) in
    closing-end c.args.world.now c.loop-partial.world c.args.moves c.args.partials.items (rw empty at c.loop-partial.invariant.closing)

pub returns-clause-stays : goal.returns-clause-stays
returns-clause-stays c = c.loop-partial.invariant.closing.still

pub returns-clause-whole : goal.returns-clause-whole
returns-clause-whole c = c.loop-partial.invariant.closing.whole

pub returns-in_err-close_partial-clause-left : goal.returns-in_err-close_partial-clause-left
returns-in_err-close_partial-clause-left c still a h newer l =
    let k = c.loop-partial.invariant.left still a h newer l in
    let all : AreNewer a (numbers_of_copies (c.pop.new.self.items ++ c.in-Some.partial ∷ [])) = rw c.in-Some.ensures.items at k.0 in
    c.close_partial.ensures.left still a h (last-newer a c.pop.new.self.items c.in-Some.partial all) k.1

pub returns-clause-left : goal.returns-clause-left
returns-clause-left c still a h newer l = (c.loop-partial.invariant.left still a h newer l).1
