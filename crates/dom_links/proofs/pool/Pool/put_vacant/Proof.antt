-- `put_vacant` writes the node into its room, which lies apart from every cell. Assumes `Logic`.
use mathlib.Core.Path.{◌≡◌, refl, sym, subst}
use Prim.Native.Nat.{ℕ, ◌<◌}
use mathlib.Core.List.{List, [], ◌∷◌, ◌++◌}
use seplogic.Ra.Ura.{Ura}
use base.Fraction.{full_share}
use mir.Syntax.{Fn, named}
use mir.MapTy.{inst_fn}
use mir.Val.{Val, vptr}
use base.Logic.{SProp, ent, sep, via, fst∗}
use base.Fml.{Lft, GName, Share, ftrue, froom, flft, fobs, fbor}
use prog.Wp.{Env, Calls, Loops, WpFn, Tables}
use types.Logic.{Logic, sem}
use contract.Monad.{fact}
use contract.Running.{tables, tables_of}
use sound.WpLaws.{WpFn-mono}
use types.SemTy.{Body as Borrowed}
use denote.Builtin.{RefMutOf}
use denote.Exit.{yes, no}
use denote.Memory.{mem}
use denote.Param.{layout}
use denote.RattleType.{RattleType, owns}
use denote.Ref.{MutBor, MutRef}
use denote.Signature.{plain}
use denote.Triple.Carry.{spared}
use denote.Triple.Clauses.{Clauses, Ended, closing}
use denote.Triple.Entry.{on_entry}
use denote.Triple.Spec.{Meets, triple_of}
use denote.Triple.Table.{entered, run_framed}
use Rattle.core.proofs.alloc.Calls.{Goes-blank, Fits, token}
use Rattle.std_alloc.proofs.{OfVacant.vacant_val, OfVacant.vacant_typed, OfVacant.Vacant-had, RcSteps.Good, RcSteps.word, RcSteps.word-Good, VecSteps.Shapes.after, OfVacant.room_ty, RawLayout.as_written}
use prog.Memory.{size}
use prog.Model.{Model}
use types.Kit.{Item, ⋆, ‵, ◌⊛◌, at_ret, ◌$◌, ◌∵◌, !, qed, by, move, keep, use2, split, join, fsplit, fsplit3, fjoin, fjoin3, feq_i, feq_l, suffices, frame, done}
use types.Part.{whole, sub, agg}
use types.Run.{init, stop, fld, of_opd, and_then, no_more, assigns_last, first, blocks, exec, returns, enter}
use types.ByLocal.{alloc_all, pass_all, free_all, look_at, get, get_in, through, sets, env}
use denote.RawPtr.{Ptr, block_ptr, lies_at, room_for, Testable}
use denote.Steps.{nothing, opens, closes}
use denote.Triple.Walked.{needs, Stays, stay_dropped, stay_ref, walk_of, ends_at, Goes-dropped, Goes-ref, walk_Meets}
use Rattle.std.proofs.Common.{None}
use Rattle.std_alloc.specs.contracts.room.vacant.Vacant as room-type
use Rattle.std.proofs.GlobalToken.{dealloc_token-Testable}
use Rattle.dom_links.specs.{Cells.look, Pointers.IsPlace, contracts.pool.Pool.put_vacant.Key.name as #self}
use Rattle.dom_links.proofs.PoolWalkLemmas.{El, heap, args, R, Pr, Np, word_made, says_three, knows, value_in, tells, fresh}
use Rattle.dom_links.proofs.pool.Pool.put_vacant.Statement as stated
use Rattle.dom_links.proofs.pool.Pool.put_vacant.Code as code

module _ (E : El) where
  abbrev function : Fn
  function = inst_fn (args E) code.function

  abbrev Room : RattleType
  Room = room-type.the_row (R E) heap.row heap.g

  abbrev ended : Ended
  ended = record { signature = record { lifetimes = 1; outlives = []; params = RefMutOf (0 ∷ []) tt (plain (λ _. Pr E)) (λ _. tt) ∷ plain (λ _. Room) ∷ plain (λ _. R E) ∷ []; result = plain (λ _. Np E) }; kept = (yes, (no, (no, tt))) }

  abbrev stayed : Stays ended.signature.params ended.kept
  stayed = (stay_ref (0 ∷ []) tt (plain (λ _. Pr E)), (stay_dropped (plain (λ _. Room)) no, (stay_dropped (plain (λ _. R E)) no, tt)))

  abbrev Asks : Type 0
  Asks = 0 < size (layout E.row)

  abbrev Gives0 : (Pr E).Denot → E.row.Denot → (Np E).Denot → (Pr E).Denot → Type 0
  Gives0 d node r new = new.cells ≡ (r.ptr, node) ∷ d.cells

  abbrev Gives1 : (Pr E).Denot → (Np E).Denot → Type 0
  Gives1 d r = look r.ptr d.cells ≡ None

  abbrev Gives2 : (Np E).Denot → Type 0
  Gives2 r = IsPlace r.ptr

  abbrev spec : {M : Type 1} {𝓤 : Ura M} (𝓛 : Logic 𝓤) → Clauses 𝓤 ended
  spec {𝓤 = 𝓤} 𝓛 κs a = record { ghost = Unit {0}; requires = λ _. fact 𝓤 Asks; ensures = λ _ r w. sep 𝓤 (fact 𝓤 (Gives0 a.0.now a.1.1.0 r w.0.now)) (sep 𝓤 (fact 𝓤 (Gives1 a.0.now r)) (fact 𝓤 (Gives2 r))) }

module _ (E : El) {M : Type 1} {𝓤 : Ura M} (𝓛 : Logic 𝓤) (𝓜 : Model 𝓤 𝓛.H) (C : Calls 𝓤 𝓛.H) (Λ : Loops 𝓤 𝓛.H) (κ : Lft) (q : Share) (rb ro : ℕ) (γ : GName) (d : (Pr E).Denot) (room : (Room E).Denot) (node : E.row.Denot) (us0 us1 us2 : List Val) where
  open 𝓛 use {H}

  abbrev self : MutBor (Pr E).Denot
  self = record { ref_ptr = (rb, ro); ghost_name = γ; now = d }

  abbrev bound : (walk_of 𝓛 (ended E) (stayed E) (spec E 𝓛)).Ghost
  bound = (((κ, tt), (q, tt), tt, (self, (room, (node, tt))), (us0, (us1, (us2, tt)))), tt)

  abbrev Post : Val → SProp 𝓤
  Post = (walk_of 𝓛 (ended E) (stayed E) (spec E 𝓛)).post bound

  abbrev Left : (Pr E).Denot → (Np E).Denot → Val → List (Item 𝓤)
  Left new r v = ‵ (fobs γ ((Pr E).coded.code new)) ∷ ‵ (fbor κ (Borrowed (mem (Pr E)) rb ro γ)) ∷ ‵ (flft κ q) ∷ ‵ ((Np E).own_val r (v ∷ [])) ∷ []

  exits : us0 ≡ vptr rb ro ∷ [] → (r : (Np E).Denot) (v : Val) (new : (Pr E).Denot) → Gives0 E d node r new → Gives1 E d r → Gives2 E r → ent 𝓤 (⋆ 𝓛 (Left new r v)) (Post v)
  exits passed r v new g0 g1 g2 =
      qed 𝓛 (Left new r v) ∵
      suffices ! _ (ends_at 𝓛 (ended E) (stayed E) (spec E 𝓛) bound v r (new, (tt, (tt, tt))) (tt, (tt, (tt, tt)))) $ says_three ! g0 g1 g2 $
      nothing ! $ move ! (3 ∷ 0 ∷ []) $ join ! $ frame ! $ feq_i ! (List Val) us0 (vptr rb ro ∷ []) passed $ fjoin3 ! $
      nothing ! $ nothing ! $ fjoin ! $ nothing ! $ fjoin ! $ move ! (1 ∷ 0 ∷ []) $ fjoin ! $ done !

  abbrev Had : ℕ → ℕ → Val → List (Item 𝓤)
  Had b o v = ‵ (fobs γ ((Pr E).coded.code d)) ∷ ‵ (fbor κ (Borrowed (mem (Pr E)) rb ro γ)) ∷ ‵ (flft κ q) ∷ ‵ (froom (room_ty heap (R E)) b o)
      ∷ ‵ (token heap room.alloc (room_ty heap (R E)) (block_ptr b o)) ∷ ‵ (E.row.own_val node (v ∷ [])) ∷ []

  -- the right to free a block tells that its place may be compared with null
  tested : (p : Ptr) → ent 𝓤 (sep 𝓤 (sem 𝓛 (token heap room.alloc (room_ty heap (R E)) p)) (sem 𝓛 (room_for (room_ty heap (R E)) p))) (fact 𝓤 (Testable p))
  tested p = via 𝓤 _ (fst∗ 𝓤 _ (sem 𝓛 (room_for (room_ty heap (R E)) p))) (dealloc_token-Testable 𝓛 room.alloc (room_ty heap (R E)) p)

  walk : us0 ≡ vptr rb ro ∷ [] → Asks E → (b o : ℕ) (hv v : Val) → Fits heap hv → Good (layout E.row) v
      → ent 𝓤 (⋆ 𝓛 (Had b o v)) (WpFn 𝓤 H C Λ (function E) (vptr rb ro ∷ vacant_val hv b o ∷ v ∷ []) Post)
  walk passed asked b o hv v fa gv =
      let p : Ptr = block_ptr b o in
      let new : (Pr E).Denot = record { mark = d.mark; cells = (p, node) ∷ d.cells } in
      let out : (Np E).Denot = record { ptr = p } in
      qed 𝓛 (Had b o v) ∵ enter ! C Λ (function E) (vptr rb ro ∷ vacant_val hv b o ∷ v ∷ []) _ $ alloc_all ! (λ l. pass_all ! refl ((tt, tt), (vacant_typed heap (R E) hv b o fa, (gv, tt))) $
      let En : Env 𝓤 H = env (function E).locals l in
      move ! (4 ∷ 3 ∷ []) $ knows ! (Testable p) (tested p) (λ test. move ! (2 ∷ 3 ∷ 4 ∷ 1 ∷ 0 ∷ []) $
      opens ! tt (Pr E) {h = d} rb ro (λ vs. move ! (1 ∷ []) $ fsplit ! $ move ! (6 ∷ 1 ∷ []) $
      knows ! (look p d.cells ≡ None) (fresh E 𝓛 𝓜 asked p d.cells) (λ apart. as_written ! (layout E.row) b o $
      -- [the room; the cells; the mark; its cell; the open borrow; obs; auth; the token; what the node owns]
      sets ! (of_opd ! (get_in ! (fld ! refl (stop !)) (sub ! 0 refl (whole !)))) refl (tt, tt) $
      first ! $ blocks ! $ sets ! (of_opd ! (get ! refl)) refl gv $
      assigns_last ! (of_opd ! (get ! refl)) (through ! refl (stop !)) (init ! 0 refl gv) $ exec ! C Λ En (after 2 (function E).body) (at_ret En Post) $
      sets ! (agg ! (and_then ! (get ! refl) (no_more !))) refl (word-Good [] p) $
      move ! (0 ∷ 8 ∷ []) $ use2 𝓛 (‵ (lies_at (R E) full_share p node)) (value_in E.row E.laws 𝓛 node b o v) $
      move ! (0 ∷ 7 ∷ []) $ fjoin ! $ fjoin ! $ move ! (1 ∷ 0 ∷ []) $ fjoin ! $ move ! (1 ∷ 0 ∷ 2 ∷ 3 ∷ 4 ∷ []) $ closes ! tt (Pr E) new vs rb ro $
      word_made ! p $ returns ! (look_at ! 0 refl) $ free_all ! refl $ keep ! (1 ∷ 2 ∷ 3 ∷ 0 ∷ []) $
      by ! (exits passed out (word p) new refl apart (tt, test))))))

  entry : Asks E → ent 𝓤 (on_entry 𝓛 (ended E).signature (κ, tt) (q, tt) (self, (room, (node, tt))) (us0, (us1, (us2, tt)))) (WpFn 𝓤 H C Λ (function E) (us0 ++ (us1 ++ (us2 ++ []))) Post)
  entry asked =
      qed 𝓛 ((‵ (flft κ q) ⊛ ‵ ftrue) ∷ ‵ (owns (MutRef (named 0) κ (Pr E) ∷ Room E ∷ R E ∷ []) (self, (room, (node, tt))) (us0, (us1, (us2, tt)))) ∷ []) ∵
      split ! $ move ! (2 ∷ []) $
      fsplit ! $
      fsplit3 ! $ feq_l ! (λ e0.
      move ! (2 ∷ []) $
      fsplit ! $
      Vacant-had heap (R E) ! room us1 (λ b o hv ep e1 fa.
      move ! (3 ∷ []) $ fsplit ! $
      tells E.row E.laws ! node us2 (λ v e2 gv.
      -- [what the node owns; nothing; the room; the token; the handle; obs; the borrow; the lifetime's token]
      keep ! (5 ∷ 6 ∷ 7 ∷ 2 ∷ 3 ∷ 0 ∷ []) $
      by ! (subst (λ (ws : List Val × List Val × List Val). ent 𝓤 (⋆ 𝓛 (Had b o v)) (WpFn 𝓤 H C Λ (function E) (ws.0 ++ (ws.1 ++ (ws.2 ++ []))) Post)) (λ j. (sym e0 j, sym e1 j, sym e2 j)) (walk e0 asked b o hv v fa gv)))))

meets : (E : El) {M : Type 1} {𝓤 : Ura M} (𝓛 : Logic 𝓤) (𝓜 : Model 𝓤 𝓛.H) (𝓣 : Tables 𝓤 𝓛.H)
    → Meets 𝓛 (ended E).signature (WpFn 𝓤 𝓛.H 𝓣.C 𝓣.Λ (function E)) (closing 𝓛 (ended E) (spec E 𝓛))
meets E {𝓤 = 𝓤} 𝓛 𝓜 𝓣 =
    walk_Meets 𝓛 (ended E) (stayed E) (Goes-ref 𝓛 1 0 tt (plain (λ _. Pr E)), (Goes-blank 𝓛 1 (plain (λ _. Room E)) no (λ κs x f. tt), (Goes-dropped 𝓛 1 (plain (λ _. R E)) no (λ κs x f. refl), tt))) (spec E 𝓛) (WpFn 𝓤 𝓛.H 𝓣.C 𝓣.Λ (function E)) (WpFn-mono 𝓤 𝓛.H 𝓛.laws 𝓣 (function E))
    (λ z. needs 𝓤 (Asks E) _ (entry E 𝓛 𝓜 𝓣.C 𝓣.Λ z.0.0.0 z.0.1.0 z.0.3.0.ref_ptr.0 z.0.3.0.ref_ptr.1 z.0.3.0.ghost_name z.0.3.0.now z.0.3.1.0 z.0.3.1.1.0 z.0.4.0 z.0.4.1.0 z.0.4.1.1.0))

pub put_vacant_spec : {M : Type 1} → stated.statement M
unfolding tables_of
put_vacant_spec 𝓤 𝓛 𝓜 𝓡 wired N LN y =
    let E : El = record { row = N; laws = LN } in
    let 𝓣 : Tables 𝓤 𝓛.H = tables_of 𝓤 𝓛.H 𝓜 (tables 𝓤 𝓛.H 𝓜 𝓡 𝓡.env) in
    let k = #self (args E) in
    spared 𝓛 (ended E).signature (𝓡.run (𝓡.env k)) (run_framed 𝓤 𝓛.H 𝓜 𝓡 (𝓡.env k)) 1 (N.lives, tt) (closing 𝓛 (ended E) (spec E 𝓛))
    (entered 𝓤 𝓛.H (triple_of 𝓛 (ended E).signature (closing 𝓛 (ended E) (spec E 𝓛))) 𝓣.C 𝓣.Λ k (function E) (code.unfolded 𝓤 𝓛.H 𝓜 𝓡 wired (N, tt)) (meets E 𝓛 𝓜 𝓣))
    ((y.0.0, y.0.1, tt, y.0.3, y.0.4), y.1)
