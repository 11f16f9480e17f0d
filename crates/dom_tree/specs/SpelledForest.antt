-- What the slots spell: a forest, told by the entries at its numbers.
use Rattle.std.specs.Prelude.{◌≡◌, ℕ, zero, suc, ◌≤◌, ◌<◌, ◌^◌, List, [], ◌∷◌, length, map, slice_index_or, Option, Some, None, IsSome, option_map}
use Rattle.dom_model.specs.Forests.Arena.{Arena, Entry, entry_at, held}
use Rattle.dom_model.specs.Forests.Lies.{Lies}
use Rattle.dom_model.specs.Forests.Forest.{Node, Forest, empty, node, tops, occurs, size, IsRising, KindsFit}

-- the number before the rest, where it has no parent
abbrev pub root_under : Option ℕ → ℕ → List ℕ → List ℕ
root_under None n rest = n ∷ rest
root_under (Some p) n rest = rest

-- the slot of a number, in a table
abbrev pub slot_in : List (Option ℕ) → ℕ → Option ℕ
slot_in table n = slice_index_or table n None

-- the slot of a number that may be none
abbrev pub slot_for : List (Option ℕ) → Option ℕ → Option ℕ
slot_for table None = None
slot_for table (Some n) = slot_in table n

module _ {X : Type 0} where
  -- the number of an entry's node; 0 where there is none
  abbrev pub number_in : Option (Entry (Node X)) → ℕ
  number_in None = 0
  number_in (Some e) = e.value.number

  -- the number of the node in a slot
  abbrev pub number_in_slot : (ℕ → Option (Entry (Node X))) → ℕ → ℕ
  number_in_slot at slot = number_in (at slot)

  -- an entry with numbers in place of slots
  abbrev pub renumbered : (ℕ → Option (Entry (Node X))) → Entry (Node X) → Entry (Node X)
  renumbered at e = record { value = e.value; parent = option_map (number_in_slot at) e.parent; children = map (number_in_slot at) e.children }

  abbrev pub entry_in_slot : (ℕ → Option (Entry (Node X))) → Option ℕ → Option (Entry (Node X))
  entry_in_slot at None = None
  entry_in_slot at (Some slot) = option_map (renumbered at) (at slot)

  -- the entry of a number
  abbrev pub by_number : (ℕ → Option (Entry (Node X))) → (ℕ → Option ℕ) → ℕ → Option (Entry (Node X))
  by_number at slot_of n = entry_in_slot at (slot_of n)

  -- each number's slot holds the node of that number, and each held slot is its number's
  pub record IsTabled (at : ℕ → Option (Entry (Node X))) (slot_of : ℕ → Option ℕ) : Type 0 where
    pub named : (n slot : ℕ) → slot_of n ≡ Some slot → IsSome (at slot) × (number_in_slot at slot ≡ n)
    pub listed : (slot : ℕ) → IsSome (at slot) → slot_of (number_in_slot at slot) ≡ Some slot

  -- the entries spell the forest, and no more
  pub record Spells (made : ℕ) (at : ℕ → Option (Entry (Node X))) (f : Forest X) : Type 0 where
    pub placed : Lies at None f
    pub counted : (n : ℕ) → occurs n f ≡ held (at n)
    pub rising : IsRising 0 (tops f)
    pub fits : size f ≤ made
    pub below : (n : ℕ) → made ≤ n → held (at n) ≡ 0

  abbrev pub grown_node : Option (Entry (Node X)) → (List ℕ → Forest X) → Forest X → Forest X
  grown_node None deeper rest = rest
  grown_node (Some e) deeper rest = node e.value (deeper e.children) rest

  abbrev pub grown_list : (ℕ → Option (Entry (Node X))) → (List ℕ → Forest X) → List ℕ → Forest X
  grown_list at deeper [] = empty
  grown_list at deeper (n ∷ ns) = grown_node (at n) deeper (grown_list at deeper ns)

  -- the trees of the numbers, no deeper than the fuel
  abbrev pub grown : ℕ → (ℕ → Option (Entry (Node X))) → List ℕ → Forest X
  grown zero at ns = empty
  grown (suc fuel) at ns = grown_list at (grown fuel at) ns

  abbrev pub root_first : Option (Entry (Node X)) → ℕ → List ℕ → List ℕ
  root_first None n rest = rest
  root_first (Some e) n rest = root_under e.parent n rest

  -- the roots among `count` numbers from `low`
  abbrev pub roots_from : ℕ → ℕ → (ℕ → Option (Entry (Node X))) → List ℕ
  roots_from low zero at = []
  roots_from low (suc count) at = root_first (at low) low (roots_from (suc low) count at)

  -- the forest that the entries of the numbers below `made` spell
  abbrev pub forest_of : ℕ → (ℕ → Option (Entry (Node X))) → Forest X
  forest_of made at = grown (suc made) at (roots_from 0 made at)

  -- the entries by number, through a table
  abbrev pub numbered : Arena (Node X) → List (Option ℕ) → ℕ → Option (Entry (Node X))
  numbered a table = by_number (entry_at a) (slot_in table)

  -- the forest that a store and a table show
  abbrev pub shown : Arena (Node X) → List (Option ℕ) → Forest X
  shown a table = forest_of (length table) (numbered a table)

  -- what a tree keeps of its store, its table and its count of nodes
  pub record IsKept (a : Arena (Node X)) (table : List (Option ℕ)) (live : ℕ) : Type 0 where
    pub spelled : Spells (length table) (numbered a table) (shown a table)
    pub tabled : IsTabled (entry_at a) (slot_in table)
    pub alive : live ≡ size (shown a table)
    pub kinds : KindsFit None (shown a table)
    pub small : length table < 2 ^ 32
