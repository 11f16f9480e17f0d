-- Items by number, each at a node or waiting, found by way of places that nodes share.
use Rattle.std.specs.Prelude.{◌≡◌, ℕ, ◌+◌, ◌-◌, ◌%◌, ◌<◌, ◌≤◌, true, List, length, map, replicate, slice_index_or, Option, Some, None, ◌⊎◌}
use Rattle.dom_chains.specs.Keyed.{Keyed}

-- the node of an item, none where it waits or there is no such item
abbrev pub node_in : List (Option ℕ) → ℕ → Option ℕ
node_in nodes e = slice_index_or nodes e None

-- an item is at its node, or waits
abbrev pub StandsOrWaits : {A : Type 0} → (A → ℕ) → A → Option ℕ → Type 0
StandsOrWaits at x o = (o ≡ None) ⊎ (o ≡ Some (at x))

-- each of them does
pub record StandOrWait {A : Type 0} (at : A → ℕ) (xs : List A) (nodes : List (Option ℕ)) : Type 0 where
  pub long : length nodes ≡ length xs
  pub each : (k : ℕ) (x : A) → k < length xs → StandsOrWaits at (slice_index_or xs k x) (node_in nodes k)

-- where none waits
abbrev pub all_standing : {A : Type 0} → (A → ℕ) → List A → List (Option ℕ)
all_standing at xs = map (λ x. Some (at x)) xs

-- the place for a node among so many; the first is for items that wait
abbrev pub bucket_of : ℕ → Option ℕ → ℕ
bucket_of count None = 0
bucket_of count (Some n) = 1 + n % (count - 1)

-- a node behind its place
abbrev pub at_place : ℕ → Option ℕ → ℕ × Option ℕ
at_place count o = (bucket_of count o, o)

abbrev pub spread_over : ℕ → List (Option ℕ) → List (ℕ × Option ℕ)
spread_over count nodes = map (at_place count) nodes

-- the nodes of items that are behind their places
abbrev pub item_nodes : List (ℕ × Option ℕ) → List (Option ℕ)
item_nodes items = map (λ (it : ℕ × Option ℕ). it.1) items

-- each item is at the place for its node, and there are more places than items, but no more than 32 bits tell apart
pub record AreSpread (nodes : List (Option ℕ)) (c : Keyed (Option ℕ)) : Type 0 where
  pub placed : c.items ≡ spread_over (length c.covered) nodes
  pub covered : c.covered ≡ replicate (length c.covered) true
  pub few : length nodes ≤ length c.covered - 1
  pub told : length c.covered ≤ 4294967296
