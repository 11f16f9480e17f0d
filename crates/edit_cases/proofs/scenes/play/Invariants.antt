-- The world is whole before each row.
use Rattle.dom_edit.specs.Whole.{IsWhole}
use Rattle.edit_cases.proofs.scenes.play.Given as goal

abbrev pub invariant-loop-row : goal.invariant-loop-row
invariant-loop-row g l = IsWhole l.stage
