-- A table from numbers to places, beside a store that is asked by places.
use Rattle.std.specs.Prelude.{◌≡◌, ℕ, Bool, List, map, Option, IsSome}
use Rattle.std.specs.Option.{ForSome}
use denote.RawPtr.{Ptr}
use Rattle.dom_pages.specs.Numbered.{item_at}
use Rattle.dom_model.specs.Forests.Arena.{Arena, entry_at}
use Rattle.dom_links.specs.Placed.{Placed, slot_of, slots_of, IsPlaced}
use Rattle.dom_tree.specs.SpelledForest.{number_in_slot}
use Rattle.dom_tree.specs.Slots.{Kept, nodes_alone, IsTree}
use Rattle.dom_tree.specs.CachedIndices.{IsWritten, IsNumbered}
use Rattle.dom_tree.specs.Blocks.{AreBlocked, IsInBlocks, IsRenumbered}
use Rattle.dom_tree.specs.declared.tallies.Tally.{Tally}
use Rattle.dom_tree.specs.Tallies.{AreTallied}

module _ {X : Type 0} where
  -- the slots of the places in a table
  abbrev pub slots_in : Placed (Kept X) → List (Option Ptr) → List (Option ℕ)
  slots_in s table = map (slots_of s) table

  -- the number of the node at a place
  abbrev pub called : Placed (Kept X) → Ptr → ℕ
  called s p = number_in_slot (entry_at (nodes_alone s.arena)) (slot_of s p)

  -- the same places, with another arena
  abbrev pub with_arena : Arena (Kept X) → Placed (Kept X) → Placed (Kept X)
  with_arena a s = record s { arena = a }

  -- a link leads to the place of a slot, or nowhere where no slot is given
  pub record Leads (s : Placed (Kept X)) (link : Option Ptr) (to : Option ℕ) : Type 0 where
    pub slot : slots_of s link ≡ to
    pub placed : ForSome link (IsPlaced s)

  -- each place of the table is one of the store's
  abbrev pub ArePlaced : Placed (Kept X) → List (Option Ptr) → Type 0
  ArePlaced s table = (n : ℕ) → ForSome (item_at table n) (IsPlaced s)

  -- the table has a place of the store's for a number
  pub record IsListed (s : Placed (Kept X)) (table : List (Option Ptr)) (n : ℕ) : Type 0 where
    pub there : IsSome (item_at table n)
    pub placed : ForSome (item_at table n) (IsPlaced s)

  -- what a tree keeps
  pub record IsSeated (s : Placed (Kept X)) (table : List (Option Ptr)) (live : ℕ) (strays : Bool) (blocks : List (ℕ × List ℕ)) (tallies : List (ℕ × Tally)) : Type 0 where
    pub tree : IsTree s.arena (slots_in s table) live strays
    pub placed : ArePlaced s table
    pub blocked : AreBlocked (entry_at s.arena) blocks
    pub tallied : AreTallied (entry_at (nodes_alone s.arena)) tallies

  -- the same places, and the indices of a parent's children written from one of them on and ahead of another
  pub record AreWritten (old new : Placed (Kept X)) (parent : Ptr) (from until : ℕ) (tell : ℕ → ℕ) : Type 0 where
    pub written : IsWritten old.arena new.arena (slot_of old parent) from until tell
    pub places : new.places ≡ old.places

  -- the same places, and a child's index known
  pub record AreNumbered (old new : Placed (Kept X)) (parent child : Ptr) : Type 0 where
    pub numbered : IsNumbered old.arena new.arena (slot_of old parent) (slot_of old child)
    pub places : new.places ≡ old.places

  -- the same places, and the children of one in blocks
  pub record AreInBlocks (old new : Placed (Kept X)) (parent : Ptr) : Type 0 where
    pub blocks : IsInBlocks old.arena new.arena (slot_of old parent)
    pub places : new.places ≡ old.places

  -- the same places, and the indices kept in another way
  pub record AreRenumbered (old new : Placed (Kept X)) (blocks : List (ℕ × List ℕ)) : Type 0 where
    pub renumbered : IsRenumbered old.arena new.arena blocks
    pub places : new.places ≡ old.places
