-- A root put among a parent's children by their places.
-- DOM Standard, "Mutation algorithms" (insert).
use Rattle.std.specs.Prelude.{◌≡◌, ℕ, ◌<◌, ◌^◌, List, length, Option, MatchOption}
use denote.RawPtr.{Ptr}
use Rattle.dom_model.specs.Forests.Arena.{entry_at}
use Rattle.dom_links.specs.Placed.{Placed, slot_of, slots_of, children_at, linked_at}
use Rattle.dom_tree.specs.Slots.{Kept, nodes_alone}
use Rattle.dom_tree.specs.CachedIndices.{numbered_put}
use Rattle.dom_tree.specs.Blocks.{raised, counts_in, counts_but, block_put, blocked_put}
use Rattle.dom_tree.specs.declared.tallies.Tally.{Tally}
use Rattle.dom_tree.specs.Tallies.{tally_in, tally_put}
use Rattle.dom_tree.specs.Places.{with_arena}

module _ {X : Type 0} where
  -- the child was counted in a block of its parent's, where the siblings stand in blocks
  abbrev pub IsBlockedAt : (old numbered new : Placed (Kept X)) (blocks blocks' : List (ℕ × List ℕ)) (parent child : Ptr) (before : Option Ptr) → Type 0
  IsBlockedAt old numbered new blocks blocks' parent child before =
      MatchOption (block_put (entry_at old.arena) (slot_of old parent) (slots_of old before))
      ((new ≡ numbered) × (blocks' ≡ blocks))
      (λ block. (new ≡ with_arena (blocked_put numbered.arena (slot_of numbered parent) (slot_of numbered child) block) numbered)
      × ((p : ℕ) → counts_in blocks' p ≡ counts_but (slot_of numbered parent) (raised (counts_in blocks (slot_of numbered parent)) block) blocks p))

  -- the child was linked, then numbered, and then counted in a block and among its parent's children
  pub record IsPutAt (old new : Placed (Kept X)) (blocks blocks' : List (ℕ × List ℕ)) (tallies tallies' : List (ℕ × Tally)) (parent child : Ptr) (before : Option Ptr) : Type 0 where
    pub linked : Placed (Kept X)
    pub is_linked : linked.arena ≡ linked_at old parent child before
    pub same_places : linked.places ≡ old.places
    pub numbered : Placed (Kept X)
    pub is_numbered : numbered ≡ with_arena (numbered_put linked.arena (slot_of linked parent) (slot_of linked child) (slots_of linked before)) linked
    pub few : length (children_at linked parent) < 2 ^ 32
    pub blocked : IsBlockedAt old numbered new blocks blocks' parent child before
    pub tallied : (p : ℕ) → tally_in tallies' p ≡ tally_put (entry_at (nodes_alone old.arena)) tallies (slot_of old parent) (slot_of old child) p
