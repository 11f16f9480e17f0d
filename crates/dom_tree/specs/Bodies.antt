-- A node's body, and the clause of one that is borrowed from a place.
use Rattle.std.specs.Borrow.{Lends, MutBor, Fml, RattleType}
use denote.RawPtr.{Ptr}
use Rattle.dom_model.specs.Forests.Arena.{Entry, with_value, altered}
use Rattle.dom_model.specs.Forests.Forest.{Node}
use Rattle.dom_links.specs.Placed.{Placed, slot_of}
use Rattle.dom_links.specs.contracts.store.Store as store
use Rattle.dom_tree.specs.Places.{with_arena}
use Rattle.dom_tree.specs.Slots.{Kept}
use Rattle.dom_tree.specs.contracts.item.Item as item

-- the node with another body
abbrev pub with_body : {X : Type 0} → X → Node X → Node X
with_body w x = record x { body = w }

abbrev pub with_body_in : {X : Type 0} → X → Entry (Kept X) → Entry (Kept X)
with_body_in w e = with_value (record e.value { node = with_body w e.value.node }) e

-- the store with another body at a place
abbrev pub bodied_at : {X : Type 0} → Placed (Kept X) → Ptr → X → Placed (Kept X)
bodied_at s p w = with_arena (altered (with_body_in w) s.arena (slot_of s p)) s

-- the store ends with the body at p set to the last value behind r
abbrev pub lends_item_body : (T : RattleType) → MutBor (Placed (Kept T.Denot)) → Ptr → MutBor T.Denot → Fml
lends_item_body T s p r = Lends (store.the_row (item.the_row T)) T s r (bodied_at s.now p)
