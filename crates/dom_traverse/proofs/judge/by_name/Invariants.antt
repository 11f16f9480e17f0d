-- What is known of the rules that were passed decides, and else the rest does.
use Rattle.std.proofs.Common.{◌≡◌, ℕ, List, drop}
use Rattle.dom_model.specs.Definitions.{ruled}
use Rattle.dom_traverse.specs.FilterRules.{known_or}
use Rattle.dom_traverse.proofs.judge.by_name.Given as goal

abbrev pub invariant-loop-rule : goal.invariant-loop-rule
invariant-loop-rule l = (name : List ℕ) → ruled l.rules name ≡ known_or l.verdicts (ruled (drop l.rule-index l.rules) name) name
