-- The node has the transient registrations of the first keys, and their origins are noted; what stands under the keys themselves stays.
use Rattle.std.proofs.Common.{◌≡◌, ℕ, Bool, List, take, false}
use Rattle.std.specs.List.{AllByRecursion}
use Rattle.dom_observe.specs.{Watchers.on, NodeOrder.MayComeLast, Invariant.AreRegistered, Invariant.IsIndexed, Roster.lasting_by, Roster.passing_by, Roster.queues_by, QueuedNodes.names_one, QueuedNodes.NamesNone, Origins.NotesIfAny, Registrations.at, Registrations.found, Registrations.HasRegistration, Registrations.AllStand, Registrations.HaveSources, Registrations.Agree, Registrations.with_added_transients}
use Rattle.dom_observe.proofs.transient_registrations.add_each_transient.Given as goal

abbrev pub invariant-loop-key : goal.invariant-loop-key
invariant-loop-key l = record {
  noted : NotesIfAny (at l.registrations) (on l.node l.registrations.lists) l.origins.noted;
  standing : AllByRecursion (λ k. at l.registrations k ≡ at l.initial.registrations k) l.standing;
  has : (n : ℕ) → found l.registrations (on n l.registrations.lists)
      ≡ with_added_transients l.node (found l.initial.registrations (take l.key-index l.standing)) n (found l.initial.registrations (on n l.initial.registrations.lists));
  nodes : MayComeLast l.node l.initial.registrations.lists l.registrations.lists;
  stands : (there : ℕ → Bool) → AllByRecursion (HasRegistration (at l.initial.registrations) there) l.standing → AllStand (at l.initial.registrations) there l.initial.registrations.lists → AllStand (at l.registrations) there l.registrations.lists;
  names : (p : ℕ → Bool) → p l.node ≡ false → AllByRecursion (λ key. names_one p (at l.initial.registrations key) ≡ false) l.standing → NamesNone p (at l.initial.registrations) l.initial.registrations.lists → NamesNone p (at l.registrations) l.registrations.lists;
  indexed : (lasts : List (List ℕ)) (there : ℕ → Bool) → AllByRecursion (HasRegistration (at l.initial.registrations) there) l.standing
      → IsIndexed (at l.initial.registrations) lasts (passing_by l.initial.roster) l.initial.fleeting.keys there
      → IsIndexed (at l.registrations) lasts (passing_by l.roster) l.fleeting.keys there;
  sources : HaveSources (at l.initial.registrations) → HaveSources (at l.registrations);
  agree : Agree (at l.initial.registrations) → Agree (at l.registrations);
  lasting : lasting_by l.roster ≡ lasting_by l.initial.roster;
  queues : queues_by l.roster ≡ queues_by l.initial.roster;
  sound : AreRegistered l.registrations;
}
