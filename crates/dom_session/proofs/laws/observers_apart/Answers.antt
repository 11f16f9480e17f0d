use Rattle.dom_model.proofs.Erasure.{ErasedObservers.observers-apart, ErasedDiscards.observers-alike}
use Rattle.dom_session.proofs.laws.observers_apart.Goals as goal

pub returns : goal.returns
returns c = record { without_discard = λ erased b cs d. observers-apart erased b cs d; with_discard = λ erased b cs a. observers-alike erased b cs a }
