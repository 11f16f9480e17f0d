-- What a handle owns.
use mir.Syntax.{Ty}
use base.Fml.{Fml, ftrue}
use denote.RawPtr.{Ptr}
use Rattle.std.specs.Prelude.{Option, Some, None}
use Rattle.std.specs.contracts.impls.GlobalAllocator.TheImpl.{ghosts}
use Rattle.std_alloc.specs.Box.Ownership.{box_owns}
use Rattle.dom_c.specs.contracts.stored_state.StoredState.{the_row}

-- the right to free a block of the C library
abbrev pub state_block : Ty → Ptr → Fml
state_block = ghosts.dealloc_token (record { memory = record { seal = tt } })

-- what a contract says of a session
abbrev pub StateValue : Type 0
StateValue = the_row.Denot

-- a session on the heap, or nothing
abbrev pub held : Ptr → Option StateValue → Fml
held p None = ftrue
held p (Some s) = box_owns state_block the_row p s
