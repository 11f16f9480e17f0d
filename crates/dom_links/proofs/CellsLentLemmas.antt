-- A `&` to a pool lends each node at its place. Assumes `Logic`.
use mathlib.Core.List.{List, [], ◌∷◌}
use seplogic.Ra.Ura.{Ura}
use base.Fml.{Lft, Incl, ftrue}
use types.Logic.{Logic}
use denote.RattleType.{RattleType, RowLaws}
use denote.Param.Laws.{Laws}
use denote.RawPtr.{Ptr, lies_at}
use base.Fraction.{full_share}
use mir.Raw.{raw}
use denote.Memory.{lone}
use denote.Sharing.{ShrLaws}
use denote.SharingLaws.{beside_shr_laws, nothing_shr_laws}
use denote.Shares.{Shares-less}
use denote.Struct.Lending.{Lends, lent_at, lent_at_shr_laws, Lends-lies, Lends-first, Lends-both, Lends-nothing}
use Rattle.dom_links.specs.Ownership.{chunk, cell_owns, cells_own, cells_lent}

pub cells_lent_laws : (R : RattleType) (L : RowLaws R) (cs : List (Ptr × R.Denot)) → ShrLaws (cells_lent R cs)
cells_lent_laws R L [] = nothing_shr_laws
cells_lent_laws R L (c ∷ cs) = beside_shr_laws _ _ (lent_at_shr_laws R L c.0 c.1) (cells_lent_laws R L cs)

module _ {M : Type 1} {𝓤 : Ura M} (𝓛 : Logic 𝓤) (l : Lft) (R : RattleType) (L : Laws R) (inc : Incl l R.lives) where
  Lends-cell : (c : Ptr × R.Denot) → Lends 𝓛 (cell_owns R c) (lent_at R c.0 c.1) l
  Lends-cell c = Lends-first 𝓛 (lies_at R full_share c.0 c.1) (chunk (raw (lone R.mir)) c.0) (lent_at R c.0 c.1) l
      (Lends-lies 𝓛 R l c.0 c.1 (Shares-less 𝓛 R R.lives l inc (L.shares 𝓛) c.1))

  pub Lends-cells : (cs : List (Ptr × R.Denot)) → Lends 𝓛 (cells_own R cs) (cells_lent R cs) l
  Lends-cells [] = Lends-nothing 𝓛 ftrue l
  Lends-cells (c ∷ cs) = Lends-both 𝓛 (cell_owns R c) (cells_own R cs) (lent_at R c.0 c.1) (cells_lent R cs) l (Lends-cell c) (Lends-cells cs)
