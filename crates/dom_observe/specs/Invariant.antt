-- What the code keeps of observers, as the definitions speak of it, and what holds of it at all times.
use Rattle.std.specs.Prelude.{◌≡◌, ℕ, ◌≤◌, Bool, true, false, List, [], map, slice_index_or, Option, is_some, nat_eq}
use Rattle.std.specs.List.{AllByRecursion, IsDistinct}
use Rattle.std.specs.Map.{keys_of}
use Rattle.dom_model.specs.PlainLists.Lists.{hits, among}
use Rattle.dom_model.specs.Worlds.World as model
use Rattle.dom_model.specs.MutationObservers.Record.{Record}
use Rattle.dom_observe.specs.Registrations.{Registered, at, found, lasts_for, passes_for, AllStand, HaveKeys, AreListedByNode, Owned, Ordered}
use Rattle.dom_observe.specs.Turns.{Rising}
use Rattle.dom_observe.specs.Watchers.{on, queue_at, records_at}

-- no node has a key twice
abbrev pub PlacedOnce : List (ℕ × List ℕ) → Type 0
PlacedOnce lists = (n key : ℕ) → hits key (on n lists) ≤ 1

-- each node is listed once, and with a key; it has the keys of the registrations on it, each once, and no others, and they stand by their turns
pub record AreRegistered (r : Registered) : Type 0 where
  pub unique : IsDistinct nat_eq (keys_of r.lists)
  pub full : HaveKeys r.lists
  pub placed : AreListedByNode (at r) r.lists
  pub once : PlacedOnce r.lists
  pub rising : Rising r.rows r.lists

-- each node with the registrations on it
abbrev pub registered_nodes : Registered → List (ℕ × List model.Registration)
registered_nodes r = map (λ e. (e.0, found r e.1)) r.lists

-- whether an observer is there: it has a queue
abbrev pub has_queue : List (Option (List Record)) → ℕ → Bool
has_queue queues o = is_some (queue_at queues o)

-- each of these is there, by a test
abbrev pub AllThere : (ℕ → Bool) → List ℕ → Type 0
AllThere there os = AllByRecursion (λ o. there o ≡ true) os

-- each key has a registration on its node, of an observer that is there; the pending observers are there
pub record HoldsInvariant (r : Registered) (queues : List (Option (List Record))) (pending : List ℕ) : Type 0 where
  pub are : AreRegistered r
  pub stand : AllStand (at r) (has_queue queues) r.lists
  pub there : AllThere (has_queue queues) pending

-- the observers that were taken from the pending ones and not told since are there, and what waits, waits for a pending one or for one of those
pub record IsAwaited (queues : List (Option (List Record))) (pending untold : List ℕ) : Type 0 where
  pub there : AllThere (has_queue queues) untold
  pub waiting : (o : ℕ) → among o pending ≡ false → among o untold ≡ false → records_at queues o ≡ []

-- the observers that are not among these have no keys
abbrev pub HaveNone : List ℕ → List (List ℕ) → Type 0
HaveNone fleeting lists = (o : ℕ) → among o fleeting ≡ false → slice_index_or lists o [] ≡ []

-- no list has a key twice
abbrev pub HaveOnce : List (List ℕ) → Type 0
HaveOnce lists = (i key : ℕ) → hits key (slice_index_or lists i []) ≤ 1

-- Each observer has the keys of its registrations, lasting and transient ones apart, each once, and no others. Those of transient ones stand by the
-- nodes that these come from. Only some observers have transient ones, all of whom are there.
pub record IsIndexed (under : ℕ → Option model.Registration) (lasts passes : List (List ℕ)) (some : List ℕ) (there : ℕ → Bool) : Type 0 where
  pub lasting : Owned lasts_for under lasts
  pub passing : Owned passes_for under passes
  pub lasting_once : HaveOnce lasts
  pub passing_once : HaveOnce passes
  pub passing_ordered : Ordered under passes
  pub fleeting : HaveNone some passes
  pub known : AllThere there some
