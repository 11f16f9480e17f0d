-- A child and the siblings after it, as what goes over children has them: by place, and by number.
use Rattle.std.specs.Prelude.{ℕ, List, [], map, Option, Some, None, IsSome}
use Rattle.std.specs.Option.{ForSome}
use denote.RawPtr.{Ptr}
use Rattle.dom_model.specs.PlainLists.Lists.{from_first}
use Rattle.dom_model.specs.Forests.Arena.{Arena, Entry, entry_at, parent_in, siblings_in}
use Rattle.dom_links.specs.Placed.{Placed, slots_of, IsPlaced}
use Rattle.dom_tree.specs.SpelledForest.{number_in_slot}
use Rattle.dom_tree.specs.Slots.{Kept, nodes_alone}

module _ {T : Type 0} where
  -- the slot that is given has a parent
  abbrev pub HasParent : (ℕ → Option (Entry T)) → Option ℕ → Type 0
  HasParent at slot = ForSome slot (λ s. IsSome (parent_in (at s)))

  -- a slot and those of the siblings after it; nothing where no slot is given
  abbrev pub slots_from : (ℕ → Option (Entry T)) → Option ℕ → List ℕ
  slots_from at None = []
  slots_from at (Some s) = from_first s (siblings_in at s)

module _ {X : Type 0} where
  -- a link leads to a node that has a parent, or nowhere
  pub record IsChild (s : Placed (Kept X)) (link : Option Ptr) : Type 0 where
    pub placed : ForSome link (IsPlaced s)
    pub child : HasParent (entry_at s.arena) (slots_of s link)

  -- the numbers of the nodes in slots
  abbrev pub slot_numbers_from : Arena (Kept X) → Option ℕ → List ℕ
  slot_numbers_from a slot = map (number_in_slot (entry_at (nodes_alone a))) (slots_from (entry_at a) slot)

  -- the numbers of the node that a link leads to, and of the siblings after it
  abbrev pub numbers_from : Placed (Kept X) → Option Ptr → List ℕ
  numbers_from s link = slot_numbers_from s.arena (slots_of s link)
