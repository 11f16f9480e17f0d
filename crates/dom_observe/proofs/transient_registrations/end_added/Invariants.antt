-- The registrations that are left begin as those at the start, and the last ones are transient.
use Rattle.std.proofs.Common.{◌≡◌, ◌≢◌, ℕ, Bool, true, List, length, take, drop, is_some}
use Rattle.std.specs.List.{AllByRecursion}
use Rattle.dom_model.specs.Definitions.{Registration}
use Rattle.dom_observe.specs.{Watchers.on, NodeOrder.MayComeLast, Invariant.AreRegistered, Invariant.IsIndexed, Roster.lasting_by, Roster.passing_by, Roster.queues_by, Roster.is_there, QueuedNodes.NamesNone, Registrations.at, Registrations.found, Registrations.AllStand, Registrations.HaveKeys, Registrations.HaveSources, Registrations.Agree}
use Rattle.dom_observe.proofs.transient_registrations.end_added.Given as goal

abbrev pub invariant-added : goal.invariant-added
invariant-added l = record {
  sound : AreRegistered l.registrations;
  stand : AllStand (at l.registrations) (is_there l.roster) l.registrations.lists;
  passing : AllByRecursion (λ (r : Registration). is_some r.source ≡ true) (drop l.count (found l.registrations (on l.node l.registrations.lists)));
  kept : take l.count (found l.registrations (on l.node l.registrations.lists)) ≡ take l.count (found l.initial.registrations (on l.node l.initial.registrations.lists));
  nodes : (before : List (ℕ × List ℕ)) → HaveKeys before → length (on l.node before) ≡ l.count → MayComeLast l.node before l.initial.registrations.lists → MayComeLast l.node before l.registrations.lists;
  elsewhere : (n : ℕ) → n ≢ l.node → found l.registrations (on n l.registrations.lists) ≡ found l.initial.registrations (on n l.initial.registrations.lists);
  all_stand : (there : ℕ → Bool) → AllStand (at l.initial.registrations) there l.initial.registrations.lists → AllStand (at l.registrations) there l.registrations.lists;
  names : (p : ℕ → Bool) → NamesNone p (at l.initial.registrations) l.initial.registrations.lists → NamesNone p (at l.registrations) l.registrations.lists;
  indexed : (lasts : List (List ℕ)) (some : List ℕ) (there : ℕ → Bool) → IsIndexed (at l.initial.registrations) lasts (passing_by l.initial.roster) some there → IsIndexed (at l.registrations) lasts (passing_by l.roster) some there;
  sources : HaveSources (at l.initial.registrations) → HaveSources (at l.registrations);
  agree : Agree (at l.initial.registrations) → Agree (at l.registrations);
  lasting : lasting_by l.roster ≡ lasting_by l.initial.roster;
  queues : queues_by l.roster ≡ queues_by l.initial.roster;
}

abbrev pub decreases-added : goal.decreases-added
decreases-added l = length (on l.node l.registrations.lists)
