use Rattle.dom_model.proofs.Erasure.{ErasedWatchers.watchers-apart, ErasedDiscards.watchers-alike}
use Rattle.dom_session.proofs.laws.watchers_apart.Goals as goal

pub returns : goal.returns
returns c = record { without_discard = λ b cs r d. watchers-apart b cs r d; with_discard = λ b cs r a. watchers-alike b cs r a }
