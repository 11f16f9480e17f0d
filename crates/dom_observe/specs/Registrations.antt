-- The registrations in the code's table, as those of the definitions, by their keys and by the nodes that they stand on.
use Rattle.std.specs.Prelude.{◌≡◌, ◌≢◌, ◌⊎◌, [], ◌∷◌, ◌++◌, ℕ, ◌==◌, ◌<◌, ◌≤◌, ⊤, Bool, not, ◌&&◌, ◌||◌, List, map, filter, filter_map, take, drop, Option, option_map, None, Some, is_none, is_some, slice_index_or, unwrap_or, nat_eq, if◌then◌else◌, false, true}
use Rattle.std.specs.Option.{option_map_or}
use Rattle.std.specs.List.{AllByRecursion, insert, list_any}
use Rattle.std.specs.Map.{lookup}
use Rattle.slab.specs.Slab.{Slab, get}
use Rattle.dom_model.specs.declared.RecordType.{RecordType}
use Rattle.dom_model.specs.Worlds.World as model
use Rattle.dom_model.specs.PlainLists.Lists.{among}
use Rattle.dom_model.specs.MutationObservers.Observing.{transient_of}
use Rattle.dom_model.specs.MutationObservers.Records.{is_registered, is_transient_from, is_transient_of, type_passes}
use Rattle.dom_observe.specs.Keys.{Keys}
use Rattle.dom_observe.specs.Watchers.{on}
use Rattle.dom_observe.specs.declared.registration.Registration.{Registration}
use Rattle.dom_observe.specs.declared.registration.EndedRegistrations.{EndedRegistrations}
use Rattle.dom_observe.specs.declared.registration.EndedRegistrations.TheVariants.{Transient, Of, From, TransientOf}
use Rattle.dom_observe.specs.declared.registration.Lifetime.{Lifetime}
use Rattle.dom_observe.specs.declared.registration.Lifetime.TheVariants.{Lasting, Passing}
use Rattle.dom_observe.specs.declared.registration.Ending.{Ending}

abbrev pub plain : Registration → model.Registration
plain r = record { node = r.node; observer = r.observer; options = r.options.value; source = r.source }

-- a mutation of this type, target and name interests the observer by the registration
abbrev pub concerns : RecordType → ℕ → Option (List ℕ) → model.Registration → Bool
concerns what target name r = ((r.node == target) || r.options.subtree) && type_passes what name r.options

-- a step leaves the registration
abbrev pub spares : EndedRegistrations → model.Registration → Bool
spares Transient r = is_none r.source
spares (Of o) r = not (r.observer == o)
spares (From o n) r = not (is_transient_from o n r)
spares (TransientOf o) r = not (is_transient_of o r)

-- by key what is registered, as the code keeps it, none where a key was given up; and by node the keys of the registrations on it, in their order
pub record Registered : Type 0 where
  pub rows : List (Option Registration)
  pub lists : List (ℕ × List ℕ)

-- the registration under a key
abbrev pub at : Registered → ℕ → Option model.Registration
at r key = option_map plain (slice_index_or r.rows key None)

-- the registrations under keys, in their order
abbrev pub found : Registered → List ℕ → List model.Registration
found r keys = filter_map (at r) keys

-- the same in the code's table
abbrev pub in_table : Slab Registration → ℕ → Option model.Registration
in_table table key = option_map plain (get table key)

-- the keys that each node has
abbrev pub listed : List (ℕ × Keys) → List (ℕ × List ℕ)
listed entries = map (λ e. (e.0, e.1.items)) entries

-- what a table and the keys of nodes stand for
abbrev pub registered_view : Slab Registration → List (ℕ × Keys) → Registered
registered_view table entries = record { rows = table.slots; lists = listed entries }

-- what a step leaves of what stood under a key
abbrev pub unless_ended : EndedRegistrations → Option model.Registration → Option model.Registration
unless_ended ended None = None
unless_ended ended (Some r) = if spares ended r then Some r else None

-- a table, as what stands under each key

-- something stands under the key
abbrev pub is_live : (ℕ → Option model.Registration) → ℕ → Bool
is_live under key = is_some (under key)

abbrev pub AllLive : (ℕ → Option model.Registration) → List ℕ → Type 0
AllLive under keys = AllByRecursion (λ key. is_live under key ≡ true) keys

-- the observer's registration on the node stands under the key
abbrev pub own_at : (ℕ → Option model.Registration) → ℕ → ℕ → ℕ → Bool
own_at under o n key = option_map_or (is_registered o n) (under key) false

abbrev pub with_new_options : model.Options → model.Registration → model.Registration
with_new_options options r = record r { options = options }

-- a registration of an observer that is there, by a test, stands under the key
pub record HasRegistration (under : ℕ → Option model.Registration) (there : ℕ → Bool) (key : ℕ) : Type 0 where
  pub registration : model.Registration
  pub is : under key ≡ Some registration
  pub observer : there registration.observer ≡ true

-- and it is on the node
pub record StandsOn (under : ℕ → Option model.Registration) (there : ℕ → Bool) (n key : ℕ) : Type 0 where
  pub registration : model.Registration
  pub is : under key ≡ Some registration
  pub observer : there registration.observer ≡ true
  pub node : registration.node ≡ n

-- so does each key that a node has
abbrev pub AllStand : (ℕ → Option model.Registration) → (ℕ → Bool) → List (ℕ × List ℕ) → Type 0
AllStand under there lists = (n : ℕ) → AllByRecursion (StandsOn under there n) (on n lists)

-- each node that is listed has a key
abbrev pub HaveKeys : List (ℕ × List ℕ) → Type 0
HaveKeys lists = (n : ℕ) (keys : List ℕ) → lookup (nat_eq n) lists ≡ Some keys → keys ≢ []

-- a node has those of its keys that stay, and the others have theirs; and it is told whether the node is left without any
pub record KeysLeft (n : ℕ) (stays : ℕ → Bool) (lists lists' : List (ℕ × List ℕ)) (is_bare : Bool) : Type 0 where
  pub kept : (m : ℕ) → on m lists' ≡ (if m == n then filter stays (on m lists) else on m lists)
  pub others : (m : ℕ) → m ≢ n → lookup (nat_eq m) lists' ≡ lookup (nat_eq m) lists
  pub bare : is_bare ≡ true → on n lists' ≡ []
  pub some : is_bare ≡ false → (keys : List ℕ) → lookup (nat_eq n) lists' ≡ Some keys → keys ≢ []

-- each node has its keys under which something is left
abbrev pub Swept : Registered → Registered → Type 0
Swept old new = (n : ℕ) → on n new.lists ≡ filter (is_live (at new)) (on n old.lists)

-- what stands under a key is a registration on the node; a lasting one of the observer; a transient one of it
abbrev pub is_on_node : ℕ → Option model.Registration → Bool
is_on_node n o = option_map_or (λ (r : model.Registration). r.node == n) o false

abbrev pub lasts_for : ℕ → Option model.Registration → Bool
lasts_for i o = option_map_or (λ (r : model.Registration). (r.observer == i) && is_none r.source) o false

abbrev pub passes_for : ℕ → Option model.Registration → Bool
passes_for i o = option_map_or (λ (r : model.Registration). (r.observer == i) && is_some r.source) o false

-- each node has the keys of the registrations on it, and no others
abbrev pub AreListedByNode : (ℕ → Option model.Registration) → List (ℕ × List ℕ) → Type 0
AreListedByNode under lists = (n key : ℕ) → among key (on n lists) ≡ is_on_node n (under key)

-- each observer has the keys of its registrations of a kind, and no others
abbrev pub Owned : (ℕ → Option model.Registration → Bool) → (ℕ → Option model.Registration) → List (List ℕ) → Type 0
Owned kind under lists = (i key : ℕ) → among key (slice_index_or lists i []) ≡ kind i (under key)

-- the observer's registration on the node stands under a key
pub record Observes (under : ℕ → Option model.Registration) (o n : ℕ) : Type 0 where
  pub key : ℕ
  pub own : own_at under o n key ≡ true

-- the source of each transient registration stands: its observer's registration on that node
abbrev pub HaveSources : (ℕ → Option model.Registration) → Type 0
HaveSources under = (key : ℕ) (r : model.Registration) (n : ℕ) → under key ≡ Some r → r.source ≡ Some n → Observes under r.observer n

-- a registration is the observer's; where none is named, it is
abbrev pub is_by : Option ℕ → model.Registration → Bool
is_by None r = true
is_by (Some i) r = r.observer == i

-- of an observer, or of every one where none is named, those that last, or the transient ones
abbrev pub of_kind : Lifetime → Option ℕ → Option model.Registration → Bool
of_kind Lasting whose o = option_map_or (λ r. is_by whose r && is_none r.source) o false
of_kind Passing whose o = option_map_or (λ r. is_by whose r && is_some r.source) o false

-- what stands under a key ends: it is one of these, and the step does not leave it
abbrev pub goes : Ending → Option model.Registration → Bool
goes e None = false
goes e (Some r) = of_kind e.lifetime e.observer (Some r) && not (spares e.ended r)

abbrev pub unless_ending : Ending → Option model.Registration → Option model.Registration
unless_ending e o = if goes e o then None else o

-- what stands under a key is as before, or what is left of it
abbrev pub Between : Ending → Option model.Registration → Option model.Registration → Type 0
Between e before after = (after ≡ before) ⊎ (after ≡ unless_ending e before)

-- the node of a registration that ends
abbrev pub ending_node : Ending → Option model.Registration → Option ℕ
ending_node e None = None
ending_node e (Some r) = if goes e (Some r) then Some r.node else None

-- the registration under the key has subtree
abbrev pub deep_at : (ℕ → Option model.Registration) → ℕ → Bool
deep_at under key = option_map_or (λ (r : model.Registration). r.options.subtree) (under key) false

-- a registration came in last among those of its node, under a key that was vacant
pub record Added (under : ℕ → Option model.Registration) (lists : List (ℕ × List ℕ)) (r : model.Registration) (under' : ℕ → Option model.Registration)
    (lists' : List (ℕ × List ℕ)) : Type 0 where
  pub key : ℕ
  pub vacant : under key ≡ None
  pub here : under' key ≡ Some r
  pub others : (other : ℕ) → other ≢ key → under' other ≡ under other
  pub keys : (n : ℕ) → on n lists' ≡ on n lists ++ (if n == r.node then key ∷ [] else [])

-- its key came in at a place among several
pub record NewKey (under : ℕ → Option model.Registration) (r : model.Registration) (under' : ℕ → Option model.Registration) (place : ℕ) (keys keys' : List ℕ) : Type 0 where
  pub key : ℕ
  pub vacant : under key ≡ None
  pub here : under' key ≡ Some r
  pub others : (other : ℕ) → other ≢ key → under' other ≡ under other
  pub put : keys' ≡ insert keys place key

-- where a registration comes from: a transient one from its source, a lasting one from its node
abbrev pub origin : model.Registration → ℕ
origin r = unwrap_or r.source r.node

-- the same of what stands under a key
abbrev pub origin_at : (ℕ → Option model.Registration) → ℕ → ℕ
origin_at under key = option_map_or origin (under key) 0

-- what stands under a key comes from no lower node than what stands under those ahead of it
abbrev pub ByOrigin : (ℕ → Option model.Registration) → List ℕ → Type 0
ByOrigin under [] = ⊤
ByOrigin under (k ∷ keys) = AllByRecursion (λ j. origin_at under k ≤ origin_at under j) keys × ByOrigin under keys

-- so it is with the keys of each observer
abbrev pub Ordered : (ℕ → Option model.Registration) → List (List ℕ) → Type 0
Ordered under lists = (i : ℕ) → ByOrigin under (slice_index_or lists i [])

-- ahead of the place is what comes from lower nodes, and behind it the rest
pub record IsFirstFrom (under : ℕ → Option model.Registration) (n : ℕ) (keys : List ℕ) (place : ℕ) : Type 0 where
  pub ahead : AllByRecursion (λ k. origin_at under k < n) (take place keys)
  pub behind : AllByRecursion (λ k. n ≤ origin_at under k) (drop place keys)

-- behind the place is what comes from higher nodes, and ahead of it the rest
pub record IsPast (under : ℕ → Option model.Registration) (n : ℕ) (keys : List ℕ) (place : ℕ) : Type 0 where
  pub ahead : AllByRecursion (λ k. origin_at under k ≤ n) (take place keys)
  pub behind : AllByRecursion (λ k. n < origin_at under k) (drop place keys)

-- a transient registration of the observer, which comes from the node, stands under the key
abbrev pub from_at : (ℕ → Option model.Registration) → ℕ → ℕ → ℕ → Bool
from_at under o n key = option_map_or (is_transient_from o n) (under key) false

-- a node with these keys gets a transient registration from another: that has subtree, and none of its observer and origin is there yet
abbrev pub gives_transient : (ℕ → Option model.Registration) → List ℕ → model.Registration → Bool
gives_transient under own r = r.options.subtree && not (list_any (from_at under r.observer (origin r)) own)

abbrev pub transient_of_any : (ℕ → Option model.Registration) → List ℕ → ℕ → Option model.Registration → Option model.Registration
transient_of_any under own node None = None
transient_of_any under own node (Some r) = if gives_transient under own r then Some (transient_of node r) else None

abbrev pub transient_under : (ℕ → Option model.Registration) → List ℕ → ℕ → ℕ → Option model.Registration
transient_under under own node key = transient_of_any under own node (under key)

-- the registrations of a node, with a transient one of another where that has subtree, once for each observer and origin
abbrev pub with_transient : ℕ → List model.Registration → model.Registration → List model.Registration
with_transient node rs s = if s.options.subtree && not (list_any (is_transient_from s.observer (origin s)) rs) then rs ++ transient_of node s ∷ [] else rs

abbrev pub with_transients_of : ℕ → List model.Registration → List model.Registration → List model.Registration
with_transients_of node rs [] = rs
with_transients_of node rs (s ∷ ss) = with_transients_of node (with_transient node rs s) ss

-- the registrations of a node n, with transient ones of others where it is the node that leaves
abbrev pub with_added_transients : ℕ → List model.Registration → ℕ → List model.Registration → List model.Registration
with_added_transients node standing n rs = if node == n then with_transients_of node rs standing else rs

-- An observer is registered on a node under one key at most, lasting or from one source; and what stands of an observer from one origin has the same
-- options.
pub record Agree (under : ℕ → Option model.Registration) : Type 0 where
  pub options : ℕ → ℕ → model.Options
  pub alike : (key : ℕ) (r : model.Registration) → under key ≡ Some r → r.options ≡ options r.observer (origin r)
  pub one : (key other : ℕ) (r s : model.Registration) → under key ≡ Some r → under other ≡ Some s
      → r.node ≡ s.node → r.observer ≡ s.observer → r.source ≡ s.source → other ≡ key
