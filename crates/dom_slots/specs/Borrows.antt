-- What slotted items end as, once a `&mut` to one of them has ended.
use Rattle.std.specs.Prelude.{ℕ, slice_set}
use Rattle.std.specs.Borrow.{Fml, RattleType, MutBor, Lends}
use Rattle.dom_slots.specs.Slotted.{SlottedItems}
use Rattle.dom_slots.specs.contracts.numbered_items.NumberedItems.{the_row}

-- the same with w as the item in slot k
abbrev pub with_item_at_slot : {T : Type 0} → SlottedItems T → ℕ → T → SlottedItems T
with_item_at_slot s k w = record { slots = s.slots; items = slice_set s.items k w; room = s.room }

abbrev pub lends_in_slot : (T : RattleType) → MutBor (SlottedItems T.Denot) → ℕ → MutBor T.Denot → Fml
lends_in_slot T s k r = Lends (the_row T) T s r (with_item_at_slot s.now k)
