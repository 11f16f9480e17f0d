-- What a store shows that is asked by places: an arena, and where each slot's node lies. A place stands for the slot whose place it is.
use Rattle.std.specs.Prelude.{◌≡◌, ℕ, suc, if◌then◌else◌, List, [], ◌∷◌, slice_index_or, Option, Some, None, IsSome, option_map}
use denote.RawPtr.{Ptr}
use Rattle.dom_model.specs.Forests.Arena.{Arena, Entry, entry_at, parent_in, children_in, next_in, previous_in, IsHeld, StandsUnder, linked, unlinked}
use Rattle.dom_links.specs.LinkSteps.{leads_to}

pub record Placed (T : Type 0) : Type 0 where
  pub arena : Arena T
  -- by slot; none where the slot is free
  pub places : List (Option Ptr)

-- how many stand ahead of the first that leads to p
abbrev pub index_of : List (Option Ptr) → Ptr → ℕ
index_of [] p = 0
index_of (o ∷ os) p = if leads_to o p then 0 else suc (index_of os p)

module _ {T : Type 0} where
  -- where the node of a slot lies
  abbrev pub place_at : Placed T → ℕ → Option Ptr
  place_at s n = slice_index_or s.places n None

  -- the slot that a place stands for
  abbrev pub slot_of : Placed T → Ptr → ℕ
  slot_of s p = index_of s.places p

  abbrev pub slots_of : Placed T → Option Ptr → Option ℕ
  slots_of s o = option_map (slot_of s) o

  -- what stands in the slot of a place
  abbrev pub entry_behind : Placed T → Ptr → Option (Entry T)
  entry_behind s p = entry_at s.arena (slot_of s p)

  -- the slots of its parent, of its children, and of the siblings after and before it
  abbrev pub parent_at : Placed T → Ptr → Option ℕ
  parent_at s p = parent_in (entry_behind s p)

  abbrev pub children_at : Placed T → Ptr → List ℕ
  children_at s p = children_in (entry_behind s p)

  abbrev pub next_at : Placed T → Ptr → Option ℕ
  next_at s p = next_in (entry_at s.arena) (slot_of s p)

  abbrev pub previous_at : Placed T → Ptr → Option ℕ
  previous_at s p = previous_in (entry_at s.arena) (slot_of s p)

  abbrev pub HasParent : Placed T → Ptr → Type 0
  HasParent s p = IsSome (parent_at s p)

  abbrev pub HasNoParent : Placed T → Ptr → Type 0
  HasNoParent s p = parent_at s p ≡ None

  -- it is one of the children of what stands at `parent`
  abbrev pub IsChildOf : Placed T → Ptr → Ptr → Type 0
  IsChildOf s parent p = parent_at s p ≡ Some (slot_of s parent)

  -- it stands under what stands at `top`, or is it
  abbrev pub IsUnder : Placed T → Ptr → Ptr → Type 0
  IsUnder s top p = StandsUnder (entry_at s.arena) (slot_of s top) (slot_of s p)

  -- the arena with the child put among the parent's children, just before `before` or last
  abbrev pub linked_at : Placed T → Ptr → Ptr → Option Ptr → Arena T
  linked_at s parent child before =
      linked s.arena (slot_of s parent) (slot_of s child) (slots_of s before)

  -- the arena with the child taken out of its parent's children
  abbrev pub unlinked_at : Placed T → Ptr → Arena T
  unlinked_at s child = unlinked s.arena (slot_of s child)

  -- the place is that of a held node: its slot is held, and has this place
  pub record IsPlaced (s : Placed T) (p : Ptr) : Type 0 where
    pub held : IsHeld s.arena (slot_of s p)
    pub lies : place_at s (slot_of s p) ≡ Some p

  -- a place stands in s' for the slot for which it stands in s
  pub record StaysPlaced (s s' : Placed T) (p : Ptr) : Type 0 where
    pub placed : IsPlaced s' p
    pub slot : slot_of s' p ≡ slot_of s p

  abbrev pub KeepsPlaces : Placed T → Placed T → Type 0
  KeepsPlaces s s' = (p : Ptr) → IsPlaced s p → StaysPlaced s s' p

  -- but for the place of the slot n
  abbrev pub KeepsPlacesBut : ℕ → Placed T → Placed T → Type 0
  KeepsPlacesBut n s s' = (p : Ptr) → IsPlaced s p → ¬ (slot_of s p ≡ n) → StaysPlaced s s' p
