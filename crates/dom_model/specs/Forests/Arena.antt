-- Linked slots: what a store of linked nodes shows to the layers above it.
-- A slot that is held has a value, a parent or none, and a list of children. A free slot is handed out again, the one taken last first.
use Rattle.std.specs.Prelude.{◌≡◌, ℕ, ◌+◌, nat_lt, if◌then◌else◌, List, [], ◌∷◌, ◌++◌, length, slice_index_or, slice_set, Option, Some, None, IsSome, option_map}
use Rattle.dom_model.specs.PlainLists.Lists.{hits, is_number, after, before, entered, left_out}

-- what stands in a held slot
pub record Entry (T : Type 0) : Type 0 where
  pub value : T
  pub parent : Option ℕ
  pub children : List ℕ

-- the slots by number, and the free ones, the one taken last first
pub record Arena (T : Type 0) : Type 0 where
  pub slots : List (Option (Entry T))
  pub free : List ℕ

-- the slot that the next value gets: the free one taken last, or else the next new number
abbrev pub next_from : List ℕ → ℕ → ℕ
next_from [] n = n
next_from (i ∷ rest) n = i

-- the number is the optional one: 1, else 0
abbrev pub names : Option ℕ → ℕ → ℕ
names p n = if is_number p n then 1 else 0

module _ {T : Type 0} where
  abbrev pub parent_in : Option (Entry T) → Option ℕ
  parent_in None = None
  parent_in (Some e) = e.parent

  abbrev pub children_in : Option (Entry T) → List ℕ
  children_in None = []
  children_in (Some e) = e.children

  -- 1 for an entry, 0 for none
  abbrev pub held : Option (Entry T) → ℕ
  held None = 0
  held (Some e) = 1

  -- the children list that a node with this parent stands in; a root stands in none
  abbrev pub list_under : (ℕ → Option (Entry T)) → Option ℕ → List ℕ
  list_under at None = []
  list_under at (Some p) = children_in (at p)

  abbrev pub siblings_in : (ℕ → Option (Entry T)) → ℕ → List ℕ
  siblings_in at n = list_under at (parent_in (at n))

  abbrev pub next_in : (ℕ → Option (Entry T)) → ℕ → Option ℕ
  next_in at n = after n (siblings_in at n)

  abbrev pub previous_in : (ℕ → Option (Entry T)) → ℕ → Option ℕ
  previous_in at n = before n (siblings_in at n)

  abbrev pub with_value : T → Entry T → Entry T
  with_value v e = record e { value = v }

  abbrev pub with_parent : Option ℕ → Entry T → Entry T
  with_parent p e = record e { parent = p }

  abbrev pub with_children : List ℕ → Entry T → Entry T
  with_children c e = record e { children = c }

  -- a node alone: no parent, no child
  abbrev pub alone : T → Entry T
  alone v = record { value = v; parent = None; children = [] }

  abbrev pub no_slots : Arena T
  no_slots = record { slots = []; free = [] }

  abbrev pub entry_at : Arena T → ℕ → Option (Entry T)
  entry_at a n = slice_index_or a.slots n None

  abbrev pub IsHeld : Arena T → ℕ → Type 0
  IsHeld a n = IsSome (entry_at a n)

  abbrev pub next_slot : Arena T → ℕ
  next_slot a = next_from a.free (length a.slots)

  abbrev pub added_from : List ℕ → List (Option (Entry T)) → T → Arena T
  added_from [] slots v = record { slots = slots ++ Some (alone v) ∷ []; free = [] }
  added_from (i ∷ rest) slots v = record { slots = slice_set slots i (Some (alone v)); free = rest }

  -- the arena with a value in its next slot, linked to nothing
  abbrev pub added : Arena T → T → Arena T
  added a v = added_from a.free a.slots v

  -- the arena with the entry of a slot changed
  abbrev pub altered : (Entry T → Entry T) → Arena T → ℕ → Arena T
  altered f a n = record a { slots = slice_set a.slots n (option_map f (entry_at a n)) }

  -- the child put among the parent's children, just before `before` or last
  abbrev pub linked : Arena T → ℕ → ℕ → Option ℕ → Arena T
  linked a parent child before =
      altered (λ (e : Entry T). with_children (entered before child e.children) e) (altered (with_parent (Some parent)) a child) parent

  abbrev pub unlinked_from : Option ℕ → Arena T → ℕ → Arena T
  unlinked_from None a child = a
  unlinked_from (Some p) a child =
      altered (λ (e : Entry T). with_children (left_out child e.children) e) (altered (with_parent None) a child) p

  -- the child taken out of its parent's children
  abbrev pub unlinked : Arena T → ℕ → Arena T
  unlinked a child = unlinked_from (parent_in (entry_at a child)) a child

  -- the slot emptied, and the first of the free ones
  abbrev pub taken : Arena T → ℕ → Arena T
  taken a n = record { slots = slice_set a.slots n None; free = n ∷ a.free }

  -- each child names its parent, and stands once in its children and in no other list
  abbrev pub IsLinked : (ℕ → Option (Entry T)) → Type 0
  IsLinked at = (n c : ℕ) → hits c (children_in (at n)) ≡ names (parent_in (at c)) n

  -- the slot stands under `top`, or is it
  pub data StandsUnder (at : ℕ → Option (Entry T)) (top : ℕ) : ℕ → Type 0 where
    itself : StandsUnder at top top
    below : {n p : ℕ} → parent_in (at n) ≡ Some p → StandsUnder at top p → StandsUnder at top n

  -- what every store of linked nodes keeps
  pub record IsSound (a : Arena T) : Type 0 where
    pub linked : IsLinked (entry_at a)
    -- the free slots are those that are not held, each once
    pub freed : (n : ℕ) → hits n a.free + held (entry_at a n) ≡ (if nat_lt n (length a.slots) then 1 else 0)
