-- What the walks of a pool share. Assumes `Logic`.
--     El, args           the row of a node, and what a call passes for it
--     heap               the allocator whose blocks the pool owns
--     word_had, word_made, mark_made      a value of one pointer, and one of no bytes
--     says_both, says_three      an `ensures` of two facts, and of three
--     value_in, value_out, tells          a node by value is one machine value, of its type
--     cells_cut, cells_glue, cell_seen    one cell is taken out of the others, and put back
--     fresh              a node's room lies apart from every cell
use mathlib.Core.Path.{◌≡◌, refl, sym, subst, ◌∙◌}
use mathlib.Core.Bool.{true, false}
use Prim.Native.Nat.{ℕ, ◌<◌}
use native.Mathlib.Omega.{arith}
use mathlib.Core.List.{List, [], ◌∷◌, ◌++◌}
use seplogic.Ra.Ura.{Ura}
use base.Fraction.{full_share}
use mir.Raw.{raw as bare}
use mir.Syntax.{Ty, Args, given, a_type}
use mir.Val.{Val, vstruct, vcons, vnil, of_list}
use base.Logic.{SProp, ent, sep, emp, ex, guard, via, never, never_e, fst∗, snd∗, id⊢}
use base.Fml.{Fml, Lft, fat, froom}
use prog.Memory.{size}
use prog.Model.{Model}
use prog.RawLaws.{size-raw}
use types.Logic.{Logic, sem}
use contract.Monad.{fact, fact_i, fact_use}
use types.Kit.{Item, Goal, Seq, Step, step, mean, prop, ‵, raw, some, given as if_so, ◌⊛◌, ◌$◌, ◌∵◌, !, qed, by, move, keep, drop, use0, use1, use2, pick, learn, split, check, show, frame, fsplit, fjoin, fpick, fpack, feq_i, feq_l, rewrite, done}
use denote.RattleType.{RattleType, Valss}
use denote.Laws.{Typed, Is, shows}
use denote.Memory.{part_at}
use denote.Param.{param, layout, layouts}
use denote.Param.Laws.{Laws, param_laws}
use denote.RawPtr.{Ptr, RawPtr, block_ptr, null_ptr, ptr_val, lies_at, room_for}
use denote.Shadow.{makes_shadow}
use denote.Steps.{nothing, peeks}
use borrow.Table.OneValue.{part_in, part_out}
use denote.Struct.Struct.{Shape, Struct, within}
use denote.Struct.Owning.{shape}
use denote.Struct.Lending.{lent_at}
use Rattle.core.proofs.alloc.Calls.{Al}
use Rattle.std.specs.contracts.alloc.Global as heap-type
use Rattle.std.proofs.alloc.Global.TheLaws as heap-laws
use Rattle.std.specs.contracts.impls.GlobalAllocator.TheImpl.{ghosts}
use Rattle.std.proofs.Common.{cond, Some, None}
use Rattle.std_alloc.proofs.RcSteps.{Good, word}
use Rattle.dom_links.specs.{Cells.same_ptr, Cells.look, Ownership.cell_owns, Ownership.cells_own, Ownership.cells_lent}
use Rattle.dom_links.specs.contracts.pool.Pool as P-type
use Rattle.dom_links.specs.contracts.pool.NodePtr as N-type
use Rattle.dom_links.proofs.CellsLemmas.{same_ptr_eq}

pub record El : Type 2 where
  pub row : RattleType
  pub laws : Laws row

-- its tables of methods are named by no step
abbrev pub heap : Al
heap = record { row = heap-type.the_row; laws = heap-laws.the_row_laws; g = ghosts; d = given 0; drops = given 0 }

module _ (E : El) where
  abbrev pub args : Args
  args = layouts (a_type ∷ []) (E.row, tt)

  abbrev pub R : RattleType
  R = param 0 E.row

  abbrev pub Item' : Type 0
  Item' = E.row.Denot

  abbrev pub Pr : RattleType
  Pr = P-type.the_row R

  abbrev pub Np : RattleType
  Np = N-type.the_row R

  -- the pool's own field, which takes no bytes
  abbrev pub Mark : RattleType
  Mark = Struct (shape (P-type.the_type R))

abbrev one_field : Shape
one_field = record { name = []; args = []; types = []; fields = RawPtr ∷ [] }

abbrev pub Word : RattleType
Word = Struct one_field

abbrev pub mark : Val
mark = vstruct (vcons (vstruct vnil) vnil)

pub mark_made : (E : El) {M : Type 1} {𝓤 : Ura M} (𝓛 : Logic 𝓤) → ent 𝓤 (emp 𝓤) (sem 𝓛 ((Mark E).own_val (tt, tt) (mark ∷ [])))
mark_made E 𝓛 = makes_shadow 𝓛 ((Mark E).own_val (tt, tt) (mark ∷ [])) (λ vss. (tt, ((λ uss. (tt, tt)), tt))) ((vstruct vnil ∷ [], tt), (refl, ((tt, (refl, tt)), tt)))

module _ {M : Type 1} {𝓤 : Ura M} {𝓛 : Logic 𝓤} {K : Type 0} {Γ : List (Item 𝓤)} {G : Goal 𝓤 𝓛.H} where
  pub word_had : K → (c : Ptr) (vs : List Val) → (vs ≡ word c ∷ [] → Seq K 𝓛 Γ G) → Seq K 𝓛 (‵ (Word.own_val (c, tt) vs) ∷ Γ) G
  word_had t c vs k = fpick t (λ vss. fsplit t $ feq_l t (λ ev. fsplit t $ feq_l t (λ e. drop t $ k (subst (λ (ws : List Val). vs ≡ vstruct (of_list (ws ++ [])) ∷ []) e ev))))

  pub word_made : K → (c : Ptr) → Step K 𝓛 (‵ (Word.own_val (c, tt) (word c ∷ [])) ∷ Γ) G Γ G
  word_made t c = step (λ s.
      nothing t $ feq_i t (List Val) (ptr_val c ∷ []) (ptr_val c ∷ []) refl $ fjoin t $ feq_i t (List Val) (word c ∷ []) (word c ∷ []) refl $ fjoin t $
      fpack t (Valss (RawPtr ∷ [])) (within one_field (c, tt) (word c ∷ [])) (ptr_val c ∷ [], tt) $ s)

module _ {M : Type 1} {𝓤 : Ura M} (𝓛 : Logic 𝓤) (R : RattleType) where
  pub cells_cut : (xs : List (Ptr × R.Denot)) (c : Ptr × R.Denot) (ys : List (Ptr × R.Denot))
      → ent 𝓤 (sem 𝓛 (cells_own R (xs ++ c ∷ ys))) (sep 𝓤 (sem 𝓛 (cell_owns R c)) (sem 𝓛 (cells_own R (xs ++ ys))))
  cells_cut [] c ys = id⊢ 𝓤 _
  cells_cut (x ∷ xs) c ys = qed 𝓛 (‵ (cells_own R (x ∷ xs ++ c ∷ ys)) ∷ []) ∵ fsplit ! $ move ! (1 ∷ []) $
      use1 𝓛 (‵ (cell_owns R c) ⊛ ‵ (cells_own R (xs ++ ys))) (cells_cut xs c ys) $ split ! $ move ! (2 ∷ 1 ∷ []) $ fjoin ! $ move ! (1 ∷ []) $ done !

  pub cells_glue : (xs : List (Ptr × R.Denot)) (c : Ptr × R.Denot) (ys : List (Ptr × R.Denot))
      → ent 𝓤 (sep 𝓤 (sem 𝓛 (cell_owns R c)) (sem 𝓛 (cells_own R (xs ++ ys)))) (sem 𝓛 (cells_own R (xs ++ c ∷ ys)))
  cells_glue [] c ys = id⊢ 𝓤 _
  cells_glue (x ∷ xs) c ys = qed 𝓛 (‵ (cell_owns R c) ∷ ‵ (cells_own R (x ∷ xs ++ ys)) ∷ []) ∵ move ! (1 ∷ []) $ fsplit ! $ move ! (2 ∷ 1 ∷ []) $
      use2 𝓛 (‵ (cells_own R (xs ++ c ∷ ys))) (cells_glue xs c ys) $ move ! (1 ∷ 0 ∷ []) $ fjoin ! $ done !

  pub cell_seen : (κ : Lft) (xs : List (Ptr × R.Denot)) (c : Ptr × R.Denot) (ys : List (Ptr × R.Denot))
      → ent 𝓤 (sem 𝓛 (cells_lent R (xs ++ c ∷ ys) κ)) (sem 𝓛 (lent_at R c.0 c.1 κ))
  cell_seen κ [] c ys = fst∗ 𝓤 _ (sem 𝓛 (cells_lent R ys κ))
  cell_seen κ (x ∷ xs) c ys = via 𝓤 _ (snd∗ 𝓤 (sem 𝓛 (lent_at R x.0 x.1 κ)) _) (cell_seen κ xs c ys)

module _ {M : Type 1} {𝓤 : Ura M} {𝓛 : Logic 𝓤} {K : Type 0} {Γ : List (Item 𝓤)} where
  pub says_both : K → {φ ψ : Type 0} {P : SProp 𝓤} → φ → ψ → Step K 𝓛 Γ (prop P) Γ (prop (sep 𝓤 P (sep 𝓤 (fact 𝓤 φ) (fact 𝓤 ψ))))
  says_both t {φ} {ψ} {P} x y = step (λ s. record {
    prf = via 𝓤 P s.prf (qed 𝓛 (raw P ∷ []) {P = sep 𝓤 P (sep 𝓤 (fact 𝓤 φ) (fact 𝓤 ψ))} (
        frame ! $ use0 𝓛 (raw (fact 𝓤 ψ)) (fact_i 𝓤 ψ (emp 𝓤) y) $ use0 𝓛 (raw (fact 𝓤 φ)) (fact_i 𝓤 φ (emp 𝓤) x) $ done !));
  })

  pub says_three : K → {φ ψ χ : Type 0} {P : SProp 𝓤} → φ → ψ → χ → Step K 𝓛 Γ (prop P) Γ (prop (sep 𝓤 P (sep 𝓤 (fact 𝓤 φ) (sep 𝓤 (fact 𝓤 ψ) (fact 𝓤 χ)))))
  says_three t {φ} {ψ} {χ} {P} x y z = step (λ s. record {
    prf = via 𝓤 P s.prf (qed 𝓛 (raw P ∷ []) {P = sep 𝓤 P (sep 𝓤 (fact 𝓤 φ) (sep 𝓤 (fact 𝓤 ψ) (fact 𝓤 χ)))} (
        frame ! $ use0 𝓛 (raw (fact 𝓤 χ)) (fact_i 𝓤 χ (emp 𝓤) z) $ use0 𝓛 (raw (fact 𝓤 ψ)) (fact_i 𝓤 ψ (emp 𝓤) y) $ use0 𝓛 (raw (fact 𝓤 φ)) (fact_i 𝓤 φ (emp 𝓤) x) $ done !));
  })

module _ {M : Type 1} {𝓤 : Ura M} {𝓛 : Logic 𝓤} {K : Type 0} {Γ : List (Item 𝓤)} {G : Goal 𝓤 𝓛.H} where
  -- a fact that two entries show is learned, and they stay
  pub knows : K → {i j : Item 𝓤} (φ : Type 0) → ent 𝓤 (sep 𝓤 (mean 𝓛 i) (mean 𝓛 j)) (fact 𝓤 φ) → (φ → Seq K 𝓛 (i ∷ j ∷ Γ) G) → Seq K 𝓛 (i ∷ j ∷ Γ) G
  knows t {i} {j} φ h k =
      let shown : Seq K 𝓛 (i ∷ j ∷ Γ) (prop (fact 𝓤 φ)) = use2 𝓛 (raw (fact 𝓤 φ)) h $ keep t (0 ∷ []) $ done t in
      record { prf = fact_use 𝓤 φ shown.prf (λ x. (k x).prf) }

module _ (Y : RattleType) (L : Laws Y) {M : Type 1} {𝓤 : Ura M} (𝓛 : Logic 𝓤) where
  open 𝓛 use {H}

  pub value_out : (x : Y.Denot) (b o : ℕ) → ent 𝓤 (sem 𝓛 (part_at (param 0 Y) full_share x b o)) (ex 𝓤 (λ (v : Val). guard 𝓤 (Good (layout Y) v) (sep 𝓤 (H.at full_share (layout Y) b o v) (sem 𝓛 (Y.own_val x (v ∷ []))))))
  value_out x b o = qed 𝓛 (‵ (part_at (param 0 Y) full_share x b o) ∷ []) ∵
      use1 𝓛 (some (λ (v : Val). ‵ (fat full_share (layout Y) b o v) ⊛ ‵ (Y.own_val x (v ∷ [])))) (part_out 𝓛 (param 0 Y) refl full_share x b o) $ pick ! (λ v. split ! $ move ! (1 ∷ []) $
      peeks ! (param 0 Y) (Is (param 0 Y)) (shows 𝓛 (param 0 Y)) x (v ∷ []) (λ p.
      show ! (λ (w : Val). guard 𝓤 (Good (layout Y) w) (sep 𝓤 (H.at full_share (layout Y) b o w) (sem 𝓛 (Y.own_val x (w ∷ []))))) v $ check ! (((param_laws 0 Y L).lawful 𝓛).typed x (v ∷ []) p).0 $ move ! (1 ∷ 0 ∷ []) $ done !))

  pub value_in : (x : Y.Denot) (b o : ℕ) (v : Val) → ent 𝓤 (sep 𝓤 (H.at full_share (layout Y) b o v) (sem 𝓛 (Y.own_val x (v ∷ [])))) (sem 𝓛 (part_at (param 0 Y) full_share x b o))
  value_in x b o v = part_in 𝓛 (param 0 Y) refl full_share x b o v

alone : (τ : Ty) (vs : List Val) → Typed (τ ∷ []) vs → (v : Val) × ((vs ≡ v ∷ []) × Good τ v)
alone τ [] t = absurd t
alone τ (v ∷ []) t = (v, (refl, t.0))
alone τ (v ∷ w ∷ vs) t = absurd t.1

module _ (Y : RattleType) (L : Laws Y) {M : Type 1} {𝓤 : Ura M} {𝓛 : Logic 𝓤} {K : Type 0} {Γ : List (Item 𝓤)} {G : Goal 𝓤 𝓛.H} where
  pub tells : K → (x : Y.Denot) (vs : List Val) → ((v : Val) → vs ≡ v ∷ [] → Good (layout Y) v → Seq K 𝓛 (‵ (Y.own_val x (v ∷ [])) ∷ Γ) G) → Seq K 𝓛 (‵ (Y.own_val x vs) ∷ Γ) G
  tells t x vs k =
      peeks t (param 0 Y) (Is (param 0 Y)) (shows 𝓛 (param 0 Y)) x vs (λ is.
      let one = alone (layout Y) vs (((param_laws 0 Y L).lawful 𝓛).typed x vs is) in
      rewrite t 0 (λ (us : List Val). ‵ (Y.own_val x us)) one.1.0 refl $ k one.0 one.1.0 one.1.1)

module _ (E : El) {M : Type 1} {𝓤 : Ura M} (𝓛 : Logic 𝓤) (𝓜 : Model 𝓤 𝓛.H) (some_bytes : 0 < size (layout E.row)) where
  abbrev Room : Ptr → Fml
  Room p = room_for (bare (layout E.row)) p

  clash : (p : Ptr) (x : E.row.Denot) → ent 𝓤 (sep 𝓤 (sem 𝓛 (Room p)) (sem 𝓛 (lies_at (R E) full_share p x))) (never 𝓤)
  clash (block_ptr b o) x =
      let τ : Ty = layout E.row in
      let bytes : 0 < size (bare τ) = subst (λ n. 0 < n) (sym (size-raw τ)) some_bytes in
      qed 𝓛 (‵ (froom (bare τ) b o) ∷ ‵ (part_at (R E) full_share x b o) ∷ []) ∵ move ! (1 ∷ []) $
      use1 𝓛 (some (λ (v : Val). if_so (Good τ v) (‵ (fat full_share τ b o v) ⊛ ‵ (E.row.own_val x (v ∷ []))))) (value_out E.row E.laws 𝓛 x b o) $ pick ! (λ v. learn ! (λ g. split ! $
      keep ! (2 ∷ 0 ∷ []) $ by ! (𝓜.room_at (bare τ) τ b o o o full_share v (omega arith, omega (arith, bytes)) (omega arith, omega (arith, some_bytes)))))
  clash null_ptr x = fst∗ 𝓤 (never 𝓤) (never 𝓤)

  apart : (p : Ptr) (c : Ptr × E.row.Denot) → ent 𝓤 (sep 𝓤 (sem 𝓛 (Room p)) (sem 𝓛 (lies_at (R E) full_share c.0 c.1))) (fact 𝓤 (same_ptr c.0 p ≡ false))
  apart p c = (elim (same_ptr c.0 p) as (λ y. same_ptr c.0 p ≡ y → ent 𝓤 (sep 𝓤 (sem 𝓛 (Room p)) (sem 𝓛 (lies_at (R E) full_share c.0 c.1))) (fact 𝓤 (same_ptr c.0 p ≡ false))) [
    | true ↦ λ e. via 𝓤 (never 𝓤) (subst (λ r. ent 𝓤 (sep 𝓤 (sem 𝓛 (Room p)) (sem 𝓛 (lies_at (R E) full_share r c.1))) (never 𝓤)) (sym (same_ptr_eq c.0 p e)) (clash p c.1)) (never_e 𝓤 _)
    | false ↦ λ e. fact_i 𝓤 (same_ptr c.0 p ≡ false) _ e
  ]) refl

  pub fresh : (p : Ptr) (cs : List (Ptr × E.row.Denot)) → ent 𝓤 (sep 𝓤 (sem 𝓛 (Room p)) (sem 𝓛 (cells_own (R E) cs))) (fact 𝓤 (look p cs ≡ None))
  unfolding look
  fresh p [] = fact_i 𝓤 (look p [] ≡ None) _ refl
  fresh p (c ∷ cs) = qed 𝓛 (‵ (Room p) ∷ ‵ (cells_own (R E) (c ∷ cs)) ∷ []) ∵ move ! (1 ∷ []) $ fsplit ! $ fsplit ! $ move ! (3 ∷ 0 ∷ []) $
      knows ! (same_ptr c.0 p ≡ false) (apart p c) (λ here. move ! (0 ∷ 3 ∷ []) $ knows ! (look p cs ≡ None) (fresh p cs) (λ rest.
      by ! (fact_i 𝓤 (look p (c ∷ cs) ≡ None) _ ((λ i. cond (here i) (Some c.1) (look p cs)) ∙ rest))))
