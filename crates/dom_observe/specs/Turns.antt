-- The turns of registrations: on each node, those that came in later have the higher ones.
use Rattle.std.specs.Prelude.{◌≡◌, ℕ, ◌<◌, ◌⊎◌, List, [], ◌∷◌, Option, None, ⊤, slice_index_or}
use Rattle.std.specs.Option.{option_map_or}
use Rattle.std.specs.List.{AllByRecursion}
use Rattle.slab.specs.Slab.{Slab, get}
use Rattle.dom_observe.specs.declared.registration.Registration.{Registration}
use Rattle.dom_observe.specs.Watchers.{on}

-- the turn of the registration under a key
abbrev pub turn_at : Slab Registration → ℕ → ℕ
turn_at table key = option_map_or (λ (r : Registration). r.turn) (get table key) 0

-- each key has a lower turn than those behind it
abbrev pub Rises : (ℕ → ℕ) → List ℕ → Type 0
Rises turn [] = ⊤
Rises turn (k ∷ keys) = AllByRecursion (λ j. turn k < turn j) keys × Rises turn keys

-- so it is with the keys of each node
abbrev pub Rising : List (Option Registration) → List (ℕ × List ℕ) → Type 0
Rising slots lists = (n : ℕ) → Rises (λ k. option_map_or (λ (r : Registration). r.turn) (slice_index_or slots k None) 0) (on n lists)

-- what stood under each key still stands there, or nothing does
abbrev pub Fewer : Slab Registration → Slab Registration → Type 0
Fewer old new = (key : ℕ) → (get new key ≡ get old key) ⊎ (get new key ≡ None)
