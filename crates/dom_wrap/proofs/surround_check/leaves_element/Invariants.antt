-- None of those that were passed is left, so what is told of those to come is told of all.
use Rattle.std.proofs.Common.{◌≡◌}
use Rattle.std.specs.List.{list_any}
use Rattle.dom_model.specs.Definitions.{children_of}
use Rattle.dom_edit.specs.Whole.{unwatched}
use Rattle.dom_edit.proofs.IsAmongLemmas.{AreAmong}
use Rattle.dom_wrap.specs.SurroundRefusal.{is_left_element}
use Rattle.dom_wrap.proofs.surround_check.leaves_element.Given as goal

abbrev pub invariant-loop-child : goal.invariant-loop-child
invariant-loop-child l =
    let all = children_of l.world.tree.forest l.fn.parent in
    let left = is_left_element (unwatched l.world) (record { start = l.fn.start; end = l.fn.end }) in
    record {
      told : list_any left all ≡ list_any left l.child-iterator;
      within : AreAmong l.child-iterator all;
    }
