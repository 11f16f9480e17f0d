use Rattle.std.proofs.Common.{◌≡◌, drop}
use Rattle.dom_model.specs.Definitions.{closes_instruction}
use Rattle.dom_session.proofs.Instructions.{closes_after}
use Rattle.dom_session.proofs.node_creation.closes_instruction.Given as goal

abbrev pub invariant-loop-unit : goal.invariant-loop-unit
invariant-loop-unit l = closes_instruction l.units ≡ closes_after l.after_question_mark (drop l.unit-index l.units)
