-- What a pool and a store end as, once a `&mut` to a node or a value has ended.
use Rattle.std.specs.Prelude.{ℕ}
use Rattle.std.specs.Borrow.{Fml, RattleType, MutBor, Lends}
use denote.RawPtr.{Ptr}
use Rattle.dom_model.specs.Forests.Arena.{altered, with_value}
use Rattle.dom_links.specs.Cells.{put}
use Rattle.dom_links.specs.declared.pool.Pool.{Pool}
use Rattle.dom_links.specs.contracts.pool.Pool.{the_row}
use Rattle.dom_links.specs.Placed.{Placed, slot_of}
use Rattle.dom_links.specs.declared.store.Store.{Store}
use Rattle.dom_links.specs.contracts.store.Store.{the_row as store_row}
use Rattle.dom_links.specs.declared.links.Links.{Links}
use Rattle.dom_links.specs.contracts.links.Links.{the_row as links_row}

-- the same pool with w as the value of the node at p
abbrev pub with_cell : {N : Type 0} → Pool N → Ptr → N → Pool N
with_cell s p w = record { mark = s.mark; cells = put p w s.cells }

abbrev pub lends_item : (R : RattleType) → MutBor (Pool R.Denot) → Ptr → MutBor R.Denot → Fml
lends_item R s p r = Lends (the_row R) R s r (with_cell s.now p)

-- the same arena with another value at the slot n
abbrev pub lends_value : (R : RattleType) → MutBor (Links R.Denot) → ℕ → MutBor R.Denot → Fml
lends_value R s n r = Lends (links_row R) R s r (λ (w : R.Denot). altered (with_value w) s.now n)

-- the same store with another value in the node at p
abbrev pub revalued_at : {T : Type 0} → Placed T → Ptr → T → Placed T
revalued_at s p w = record { arena = altered (with_value w) s.arena (slot_of s p); places = s.places }

abbrev pub lends_placed : (R : RattleType) → MutBor (Store R.Denot) → Ptr → MutBor R.Denot → Fml
lends_placed R s p r = Lends (store_row R) R s r (revalued_at s.now p)
