-- `take_vacant` reads the node out, and its block is room again. Assumes `Logic`.
use mathlib.Core.Path.{◌≡◌, refl, sym, ap, subst}
use Prim.Native.Nat.{ℕ}
use mathlib.Core.List.{List, [], ◌∷◌, ◌++◌}
use seplogic.Ra.Ura.{Ura}
use base.Fraction.{full_share}
use mir.Syntax.{Fn, named}
use mir.Raw.{raw as bare}
use mir.MapTy.{inst_fn}
use mir.Val.{Val, vptr}
use base.Logic.{SProp, ent, sep, never, id⊢}
use base.Fml.{Lft, GName, Share, ftrue, fat, froom, flft, fobs, fbor}
use prog.Wp.{Env, Calls, Loops, WpFn, Tables}
use types.Logic.{Logic}
use contract.Monad.{fact}
use contract.Running.{tables, tables_of}
use sound.WpLaws.{WpFn-mono}
use types.SemTy.{Body as Borrowed}
use denote.Builtin.{RefMutOf}
use denote.Exit.{yes, no}
use denote.Memory.{lone, mem}
use denote.Param.{layout}
use denote.RattleType.{RattleType, owns}
use denote.Ref.{MutBor, MutRef}
use denote.Signature.{plain}
use denote.Triple.Carry.{spared}
use denote.Triple.Clauses.{Clauses, Ended, closing}
use denote.Triple.Entry.{on_entry}
use denote.Triple.Spec.{Meets, triple_of}
use denote.Triple.Table.{entered, run_framed}
use Rattle.core.proofs.alloc.Calls.{Goes-blank, Fits, handle_tells}
use Rattle.std_alloc.proofs.{OfVacant.Vacant, OfVacant.vacant_ty, OfVacant.vacant_val, OfVacant.vacant_typed, OfVacant.Vacant-made, RcSteps.Good, RcSteps.word, RcSteps.word-Good, VecSteps.Shapes.after, Pairs.pair_val, Pairs.pair_Typed, Pairs.pair_of, RawLayout.as_raw}
use types.Kit.{Item, ⋆, ‵, ◌⊛◌, some, given, pick, learn, at_ret, ◌$◌, ◌∵◌, !, qed, by, move, keep, use1, use2, split, join, rewrite, fsplit, fsplit3, fjoin, fjoin3, feq_i, feq_l, suffices, frame, done}
use types.Part.{whole, sub, agg}
use types.Run.{look as looks_at, stop, fld, load, of_opd, and_then, no_more, first, blocks, exec, returns, enter}
use types.ByLocal.{alloc_all, pass_all, free_all, look_at, get, get_in, through, sets, sets_last, is, env}
use denote.RawPtr.{Ptr, block_ptr, ptr_val, in_a_block, lies_at}
use denote.Steps.{nothing, opens, closes}
use denote.Struct.Tuple.{Tuple}
use denote.Triple.Walked.{needs, Stays, stay_dropped, stay_ref, walk_of, ends_at, Goes-dropped, Goes-ref, walk_Meets}
use Rattle.std.proofs.Common.{IsSome, Some}
use Rattle.dom_links.specs.{Cells.look, Cells.without, Ownership.chunk, Ownership.cell_owns, Ownership.cells_own, contracts.pool.Pool.take_vacant.Key.name as #self}
use Rattle.dom_links.proofs.{LookLemmas.Found, LookLemmas.found, PoolWalkLemmas.El, PoolWalkLemmas.heap, PoolWalkLemmas.args, PoolWalkLemmas.R, PoolWalkLemmas.Pr, PoolWalkLemmas.Np, PoolWalkLemmas.word_had, PoolWalkLemmas.says_both, PoolWalkLemmas.value_out, PoolWalkLemmas.cells_cut}
use Rattle.dom_links.proofs.pool.Pool.take_vacant.Statement as stated
use Rattle.dom_links.proofs.pool.Pool.take_vacant.Code as code

module _ (E : El) where
  abbrev function : Fn
  function = inst_fn (args E) code.function

  abbrev Room : RattleType
  Room = Vacant heap (R E)

  abbrev Out : RattleType
  Out = Tuple (R E ∷ Room ∷ [])

  abbrev ended : Ended
  ended = record { signature = record { lifetimes = 1; outlives = []; params = RefMutOf (0 ∷ []) tt (plain (λ _. Pr E)) (λ _. tt) ∷ plain (λ _. Np E) ∷ plain (λ _. heap.row) ∷ []; result = plain (λ _. Out) }; kept = (yes, (no, (no, tt))) }

  abbrev stayed : Stays ended.signature.params ended.kept
  stayed = (stay_ref (0 ∷ []) tt (plain (λ _. Pr E)), (stay_dropped (plain (λ _. Np E)) no, (stay_dropped (plain (λ _. heap.row)) no, tt)))

  abbrev Asks : (Pr E).Denot → (Np E).Denot → Type 0
  Asks d node = IsSome (look node.ptr d.cells)

  abbrev Gives0 : (Pr E).Denot → (Np E).Denot → Out.Denot → Type 0
  Gives0 d node r = look node.ptr d.cells ≡ Some r.0

  abbrev Gives1 : (Pr E).Denot → (Np E).Denot → (Pr E).Denot → Type 0
  Gives1 d node new = new.cells ≡ without node.ptr d.cells

  abbrev spec : {M : Type 1} {𝓤 : Ura M} (𝓛 : Logic 𝓤) → Clauses 𝓤 ended
  spec {𝓤 = 𝓤} 𝓛 κs a = record { ghost = Unit {0}; requires = λ _. fact 𝓤 (Asks a.0.now a.1.0); ensures = λ _ r w. sep 𝓤 (fact 𝓤 (Gives0 a.0.now a.1.0 r)) (fact 𝓤 (Gives1 a.0.now a.1.0 w.0.now)) }

module _ (E : El) {M : Type 1} {𝓤 : Ura M} (𝓛 : Logic 𝓤) (C : Calls 𝓤 𝓛.H) (Λ : Loops 𝓤 𝓛.H) (κ : Lft) (q : Share) (rb ro : ℕ) (γ : GName) (d : (Pr E).Denot) (node : (Np E).Denot) (a : heap.row.Denot) (us0 us1 us2 : List Val) where
  open 𝓛 use {H}

  abbrev self : MutBor (Pr E).Denot
  self = record { ref_ptr = (rb, ro); ghost_name = γ; now = d }

  abbrev bound : (walk_of 𝓛 (ended E) (stayed E) (spec E 𝓛)).Ghost
  bound = (((κ, tt), (q, tt), tt, (self, (node, (a, tt))), (us0, (us1, (us2, tt)))), tt)

  abbrev Post : Val → SProp 𝓤
  Post = (walk_of 𝓛 (ended E) (stayed E) (spec E 𝓛)).post bound

  abbrev Left : (Pr E).Denot → (Out E).Denot → Val → List (Item 𝓤)
  Left new r v = ‵ (fobs γ ((Pr E).coded.code new)) ∷ ‵ (fbor κ (Borrowed (mem (Pr E)) rb ro γ)) ∷ ‵ (flft κ q) ∷ ‵ ((Out E).own_val r (v ∷ [])) ∷ []

  exits : us0 ≡ vptr rb ro ∷ [] → (r : (Out E).Denot) (v : Val) (new : (Pr E).Denot) → Gives0 E d node r → Gives1 E d node new → ent 𝓤 (⋆ 𝓛 (Left new r v)) (Post v)
  exits passed r v new g0 g1 =
      qed 𝓛 (Left new r v) ∵
      suffices ! _ (ends_at 𝓛 (ended E) (stayed E) (spec E 𝓛) bound v r (new, (tt, (tt, tt))) (tt, (tt, (tt, tt)))) $ says_both ! g0 g1 $
      nothing ! $ move ! (3 ∷ 0 ∷ []) $ join ! $ frame ! $ feq_i ! (List Val) us0 (vptr rb ro ∷ []) passed $ fjoin3 ! $
      nothing ! $ nothing ! $ fjoin ! $ nothing ! $ fjoin ! $ move ! (1 ∷ 0 ∷ []) $ fjoin ! $ done !

  abbrev Had : Val → List (Item 𝓤)
  Had hv = ‵ (fobs γ ((Pr E).coded.code d)) ∷ ‵ (fbor κ (Borrowed (mem (Pr E)) rb ro γ)) ∷ ‵ (flft κ q) ∷ ‵ (heap.row.own_val a (hv ∷ [])) ∷ []

  walk : us0 ≡ vptr rb ro ∷ [] → Asks E d node → (hv : Val) → Fits heap hv → ent 𝓤 (⋆ 𝓛 (Had hv)) (WpFn 𝓤 H C Λ (function E) (vptr rb ro ∷ word node.ptr ∷ hv ∷ []) Post)
  walk passed asked hv fa =
      let f : Found node.ptr d.cells = found node.ptr d.cells asked in
      let new : (Pr E).Denot = record { mark = d.mark; cells = without node.ptr d.cells } in
      qed 𝓛 (Had hv) ∵ enter ! C Λ (function E) (vptr rb ro ∷ word node.ptr ∷ hv ∷ []) _ $ alloc_all ! (λ l. pass_all ! refl ((tt, tt), (word-Good [] node.ptr, (fa, tt))) $
      let En : Env 𝓤 H = env (function E).locals l in
      opens ! tt (Pr E) {h = d} rb ro (λ vs. move ! (1 ∷ []) $ fsplit ! $ move ! (1 ∷ []) $
      rewrite ! 0 (λ (cs : List (Ptr × E.row.Denot)). ‵ (cells_own (R E) cs)) f.cut refl $
      use1 𝓛 (‵ (cell_owns (R E) (node.ptr, f.item)) ⊛ ‵ (cells_own (R E) (f.before ++ f.after))) (cells_cut 𝓛 (R E) f.before (node.ptr, f.item) f.after) $ split ! $ fsplit ! $
      in_a_block ! node.ptr (λ p. lies_at (R E) full_share p f.item) (id⊢ 𝓤 (never 𝓤)) (λ pb po e.
      rewrite ! 1 (λ (p : Ptr). ‵ (chunk (bare (lone (R E).mir)) p)) e refl $
      use1 𝓛 (some (λ (v : Val). given (Good (layout E.row) v) (‵ (fat full_share (layout E.row) pb po v) ⊛ ‵ (E.row.own_val f.item (v ∷ []))))) (value_out E.row E.laws 𝓛 f.item pb po) $ pick ! (λ v. learn ! (λ gv. split ! $
      let made = vacant_typed heap (R E) hv pb po fa in
      let room : (Room E).Denot = record { ptr = block_ptr pb po; alloc = a } in
      let out : Val = pair_val v (vacant_val hv pb po) in
      let typed = pair_Typed (layout E.row) (vacant_ty heap (R E)) v (vacant_val hv pb po) gv made in
      -- [the node's cell; what it owns; the token; the other cells; the mark; its cell; the open borrow; obs; auth; the handle]
      sets ! (is ! (of_opd ! (get_in ! (fld ! refl (stop !)) (sub ! 0 refl (whole !)))) (ap ptr_val e)) refl (tt, tt) $
      first ! $ blocks ! $ sets_last ! (of_opd ! (load ! (through ! refl (stop !)) (looks_at ! 0 refl))) refl gv $ exec ! C Λ En (after 2 (function E).body) (at_ret En Post) $
      sets ! (of_opd ! (get ! refl)) refl gv $ sets ! (of_opd ! (get ! refl)) refl gv $
      sets ! (agg ! (and_then ! (get ! refl) (and_then ! (get ! refl) (no_more !)))) refl made $
      sets ! (agg ! (and_then ! (get ! refl) (and_then ! (get ! refl) (no_more !)))) refl typed $
      use1 𝓛 (‵ (froom (layout E.row) pb po)) (𝓛.laws.at_room (layout E.row) pb po v) $ as_raw ! (layout E.row) pb po $
      move ! (0 ∷ 2 ∷ 9 ∷ []) $ Vacant-made heap (R E) ! a pb po $ move ! (1 ∷ 0 ∷ []) $
      use2 𝓛 (‵ ((Out E).own_val (f.item, room) (out ∷ []))) (pair_of 𝓛 (R E) (Room E) f.item room v (vacant_val hv pb po)) $
      rewrite ! 1 (λ (cs : List (Ptr × E.row.Denot)). ‵ (cells_own (R E) cs)) (sym f.left) refl $
      move ! (2 ∷ 1 ∷ []) $ fjoin ! $ move ! (2 ∷ 0 ∷ 3 ∷ 4 ∷ 5 ∷ []) $ closes ! tt (Pr E) new vs rb ro $
      returns ! (look_at ! 0 refl) $ free_all ! refl $ keep ! (0 ∷ 1 ∷ 2 ∷ 3 ∷ []) $
      by ! (exits passed (f.item, room) out new f.seen refl))))))

  entry : Asks E d node → ent 𝓤 (on_entry 𝓛 (ended E).signature (κ, tt) (q, tt) (self, (node, (a, tt))) (us0, (us1, (us2, tt)))) (WpFn 𝓤 H C Λ (function E) (us0 ++ (us1 ++ (us2 ++ []))) Post)
  entry asked =
      qed 𝓛 ((‵ (flft κ q) ⊛ ‵ ftrue) ∷ ‵ (owns (MutRef (named 0) κ (Pr E) ∷ Np E ∷ heap.row ∷ []) (self, (node, (a, tt))) (us0, (us1, (us2, tt)))) ∷ []) ∵
      split ! $ move ! (2 ∷ []) $
      fsplit ! $
      fsplit3 ! $ feq_l ! (λ e0.
      move ! (2 ∷ []) $
      fsplit ! $
      word_had ! node.ptr us1 (λ e1.
      fsplit ! $
      handle_tells heap ! a us2 (λ hv e2 fa.
      keep ! (2 ∷ 3 ∷ 4 ∷ 0 ∷ []) $
      by ! (subst (λ (ws : List Val × List Val × List Val). ent 𝓤 (⋆ 𝓛 (Had hv)) (WpFn 𝓤 H C Λ (function E) (ws.0 ++ (ws.1 ++ (ws.2 ++ []))) Post)) (λ j. (sym e0 j, sym e1 j, sym e2 j)) (walk e0 asked hv fa)))))

meets : (E : El) {M : Type 1} {𝓤 : Ura M} (𝓛 : Logic 𝓤) (𝓣 : Tables 𝓤 𝓛.H)
    → Meets 𝓛 (ended E).signature (WpFn 𝓤 𝓛.H 𝓣.C 𝓣.Λ (function E)) (closing 𝓛 (ended E) (spec E 𝓛))
meets E {𝓤 = 𝓤} 𝓛 𝓣 =
    walk_Meets 𝓛 (ended E) (stayed E) (Goes-ref 𝓛 1 0 tt (plain (λ _. Pr E)), (Goes-dropped 𝓛 1 (plain (λ _. Np E)) no (λ κs x f. refl), (Goes-blank 𝓛 1 (plain (λ _. heap.row)) no (λ κs x f. tt), tt))) (spec E 𝓛) (WpFn 𝓤 𝓛.H 𝓣.C 𝓣.Λ (function E)) (WpFn-mono 𝓤 𝓛.H 𝓛.laws 𝓣 (function E))
    (λ z. needs 𝓤 (Asks E z.0.3.0.now z.0.3.1.0) _ (entry E 𝓛 𝓣.C 𝓣.Λ z.0.0.0 z.0.1.0 z.0.3.0.ref_ptr.0 z.0.3.0.ref_ptr.1 z.0.3.0.ghost_name z.0.3.0.now z.0.3.1.0 z.0.3.1.1.0 z.0.4.0 z.0.4.1.0 z.0.4.1.1.0))

pub take_vacant_spec : {M : Type 1} → stated.statement M
unfolding tables_of
take_vacant_spec 𝓤 𝓛 𝓜 𝓡 wired N LN y =
    let E : El = record { row = N; laws = LN } in
    let 𝓣 : Tables 𝓤 𝓛.H = tables_of 𝓤 𝓛.H 𝓜 (tables 𝓤 𝓛.H 𝓜 𝓡 𝓡.env) in
    let k = #self (args E) in
    spared 𝓛 (ended E).signature (𝓡.run (𝓡.env k)) (run_framed 𝓤 𝓛.H 𝓜 𝓡 (𝓡.env k)) 1 (N.lives, tt) (closing 𝓛 (ended E) (spec E 𝓛))
    (entered 𝓤 𝓛.H (triple_of 𝓛 (ended E).signature (closing 𝓛 (ended E) (spec E 𝓛))) 𝓣.C 𝓣.Λ k (function E) (code.unfolded 𝓤 𝓛.H 𝓜 𝓡 wired (N, tt)) (meets E 𝓛 𝓣))
    ((y.0.0, y.0.1, tt, y.0.3, y.0.4), y.1)
