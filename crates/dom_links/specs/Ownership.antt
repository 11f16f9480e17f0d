-- What a pool of nodes of the row R owns and lends: the value of each cell at its place, and the right to free its block.
use Rattle.std.specs.Prelude.{List, [], ◌∷◌}
use mir.Syntax.{Ty}
use base.Fml.{Lft, Fml, ftrue, fsep}
use denote.RattleType.{RattleType}
use denote.Sharing.{nothing, beside}
use denote.RawPtr.{Ptr}
use denote.Struct.Lending.{lent_at}
use Rattle.std.specs.contracts.impls.GlobalAllocator.TheImpl.{ghosts}
use Rattle.std_alloc.specs.Box.Ownership.{box_owns}

-- the right to free a block at p for a value of this type
abbrev pub chunk : Ty → Ptr → Fml
chunk = ghosts.dealloc_token (record { memory = record { seal = tt } })

module _ (R : RattleType) where
  abbrev pub cell_owns : Ptr × R.Denot → Fml
  cell_owns c = box_owns chunk R c.0 c.1

  abbrev pub cells_own : List (Ptr × R.Denot) → Fml
  cells_own [] = ftrue
  cells_own (c ∷ cs) = fsep (cell_owns c) (cells_own cs)

  abbrev pub cells_lent : List (Ptr × R.Denot) → Lft → Fml
  cells_lent [] = nothing
  cells_lent (c ∷ cs) = beside (lent_at R c.0 c.1) (cells_lent cs)
