-- The listeners of the first keys are one, or there is none.
use Rattle.std.proofs.Common.{◌≡◌, ℕ, Bool, true, take, IfSome}
use Rattle.std.specs.List.{AllByRecursion}
use Rattle.dom_observe.specs.{Names.given_name, Registrations.at, Registrations.HasRegistration, Interested.listeners}
use Rattle.dom_observe.proofs.IsOnlyLemmas.{AreAlone}
use Rattle.dom_observe.proofs.queue_record.only_listener.Given as goal

abbrev pub invariant-loop-key : goal.invariant-loop-key
invariant-loop-key l = record {
  alone : AreAlone l.only (listeners (at l.registrations) l.question.what l.question.target (given_name l.question.name) (take l.key-index l.standing));
  known : IfSome l.only (λ only. (p : ℕ → Bool) → AllByRecursion (HasRegistration (at l.registrations) p) l.standing → p only.0 ≡ true);
}
