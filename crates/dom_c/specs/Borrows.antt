-- How a handle ends once its session is lent.
use Rattle.std.specs.Prelude.{Some}
use Rattle.std.specs.Borrow.{Lends, MutBor, Fml}
use Rattle.dom_c.specs.contracts.stored_state.StoredState.{the_row as kept_row}
use Rattle.dom_c.specs.declared.session_slot.SessionSlot.{SessionSlot}
use Rattle.dom_c.specs.contracts.session_slot.SessionSlot.{the_row}

abbrev pub with_kept : SessionSlot → kept_row.Denot → SessionSlot
with_kept h s = record { at = h.at; kept = Some s }

abbrev pub lends_kept : MutBor SessionSlot → MutBor kept_row.Denot → Fml
lends_kept h r = Lends the_row kept_row h r (with_kept h.now)
