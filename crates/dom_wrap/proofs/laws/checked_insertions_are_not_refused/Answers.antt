use Rattle.std.proofs.Common.{ap}
use Rattle.dom_model.specs.Definitions.{refusal_in}
use Rattle.dom_model.proofs.RangesAndContents.InsertAllowed.{insert-allowed, insert-done}
use Rattle.dom_wrap.proofs.laws.checked_insertions_are_not_refused.Goals as goal

pub returns : goal.returns
returns c = record {
  check = λ w sound n there p start passes. insert-allowed w sound n there p start passes;
  steps = λ w sound n there p start passes r. ap refusal_in (insert-done w sound n there p start passes r).1;
}
