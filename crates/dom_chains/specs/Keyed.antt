-- Items with their keys, and which keys are covered: what callers see of chains.
use Rattle.std.specs.Prelude.{◌≡◌, ℕ, ◌-◌, ◌==◌, Bool, true, false, if◌then◌else◌, List, ◌++◌, length, map, replicate, slice_get, slice_index_or, Option, Some, option_map, refl}
use Rattle.std.specs.Coded.{Coded, code_by, coded×, coded_list, coded_bool, coded_ℕ}

-- the items by number, each with its key; which keys are covered, since only they may have items; and how many more items have room
pub record Keyed (T : Type 0) : Type 0 where
  pub items : List (ℕ × T)
  pub covered : List Bool
  pub room : ℕ

abbrev pub keyed_code : {T : Type 0} → Coded T → Coded (Keyed T)
keyed_code {T} c =
    code_by (List (ℕ × T) × (List Bool × ℕ)) (coded× (coded_list (coded× coded_ℕ c)) (coded× (coded_list coded_bool) coded_ℕ)) (λ k. (k.items, (k.covered, k.room))) (λ p. record { items = p.0; covered = p.1.0; room = p.1.1 }) (λ _. refl)

-- whether a key is covered, by a list that says it of each key; a key past its end is not
abbrev pub covers : List Bool → ℕ → Bool
covers covered key = slice_index_or covered key false

-- the keys below `made` of which the list says nothing are covered; the others stay as they are
abbrev pub covered_to : ℕ → List Bool → List Bool
covered_to made covered = covered ++ replicate (made - length covered) true

module _ {T : Type 0} where
  -- the key of an item; none past the last
  abbrev pub key_at : List (ℕ × T) → ℕ → Option ℕ
  key_at items id = option_map (λ (it : ℕ × T). it.0) (slice_get items id)

  -- the keys of all items
  abbrev pub keys_of : List (ℕ × T) → List ℕ
  keys_of items = map (λ (it : ℕ × T). it.0) items

  -- a change of the items of one key
  abbrev pub on_key : ℕ → (ℕ × T → ℕ × T) → ℕ × T → ℕ × T
  on_key key change it = if it.0 == key then change it else it

  -- whether an item has a key, and a test says yes of it
  abbrev pub passes_at : ℕ → (T → Bool) → ℕ × T → Bool
  passes_at key says it = if it.0 == key then says it.1 else false

  -- each item of a key may be changed, and has a covered key then
  abbrev pub CanChange : (ℕ × T → Type 0) → (ℕ × T → ℕ × T) → ℕ → List (ℕ × T) → List Bool → Type 0
  CanChange CanTake changed key items covered =
      (id : ℕ) (it : ℕ × T) → slice_get items id ≡ Some it → it.0 ≡ key → CanTake it × (covers covered (changed it).0 ≡ true)
