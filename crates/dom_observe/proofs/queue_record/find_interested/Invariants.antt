-- The listeners of the first keys are noted.
use Rattle.std.proofs.Common.{◌≡◌, ℕ, [], Bool, nat_eq, take}
use Rattle.std.specs.{List.AllByRecursion, Map.keys_of}
use Rattle.indexmap.specs.IndexMap.{get, IsUnique}
use Rattle.dom_model.specs.Definitions.{with_all_last}
use Rattle.dom_observe.specs.{Invariant.AllThere, Names.given_name, Registrations.at, Registrations.HasRegistration, Interested.listeners, Interested.flag_of}
use Rattle.dom_observe.proofs.queue_record.find_interested.Given as goal

abbrev pub invariant-loop-key : goal.invariant-loop-key
invariant-loop-key l = record {
  heard : (p : ℕ) → get nat_eq l.heard p ≡ flag_of p (listeners (at l.registrations) l.question.what l.question.target (given_name l.question.name) (take l.key-index l.standing));
  order : keys_of l.heard.entries ≡ with_all_last [] (keys_of (listeners (at l.registrations) l.question.what l.question.target (given_name l.question.name) (take l.key-index l.standing)));
  known : (there : ℕ → Bool) → AllByRecursion (HasRegistration (at l.registrations) there) l.standing → AllThere there (keys_of l.heard.entries);
  unique : IsUnique nat_eq l.heard;
}
