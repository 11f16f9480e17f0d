-- `put` writes the session into its room. Assumes `Logic`.
use Rattle.std.proofs.Common.{◌≡◌, List, [], ◌∷◌, ◌++◌, refl, sym, subst, Some, None}
use base.Fraction.{full_share}
use base.Logic.{SProp, ent, id⊢}
use base.Fml.{ftrue, flft}
use contract.Monad.{fact}
use contract.Running.{tables}
use mir.Syntax.{Ty, named}
use mir.Val.{Val, vptr, vunit}
use prog.Wp.{WpFn}
use types.Kit.{‵, raw, ◌⊛◌, at_ret, ◌$◌, ◌∵◌, !, qed, done, move, keep, drop, use2, split, join, fsplit, fsplit3, fjoin, fjoin3, feq_i, feq_l, rewrite, suffices, frame}
use types.Part.{whole, sub, store_in}
use types.Run.{enter, of_opd, unit_lit, init, stop, fld, first, blocks, exec, returns, assigns, assigns_last}
use types.ByLocal.{alloc_all, pass_all, free_all, look_at, get, get_in, through, sets, env}
use borrow.Table.OneValue.{part_in}
use denote.Exit.{yes}
use denote.Laws.{shows}
use denote.Memory.{cell_at}
use denote.Param.{layout}
use denote.RattleType.{RattleType, owns}
use denote.RawPtr.{Ptr, block_ptr, lies_at}
use denote.Ref.{MutRef}
use denote.Signature.{plain}
use denote.Steps.{nothing, opens, closes, peeks}
use denote.Triple.Walked.{Stays, walk_of, says, ends_at, stay_ref, stay_dropped, Goes-ref}
use Rattle.core.proofs.alloc.Calls.{Goes-blank, handle_tells}
use Rattle.std.proofs.raw_atomic.Walks.{proved_at}
use Rattle.std_alloc.specs.contracts.room.vacant.Vacant as room-type
use Rattle.std_alloc.proofs.{OfVacant.vacant_val, OfVacant.vacant_typed, OfVacant.Vacant-had, RawLayout.as_written, RcSteps.word, VecSteps.Shapes.after}
use Rattle.dom_c.specs.{contracts.stored_state.StoredState.the_row as S, declared.session_slot.SessionSlot.SessionSlot, contracts.session_slot.SessionSlot.the_row as R}
use Rattle.dom_c.specs.contracts.session_slot.SessionSlot.put as f
use Rattle.dom_c.proofs.{HeldLemmas.heap, HeldLemmas.inside, HeldLemmas.field_made, session_slot.SessionSlot.TheLaws.lowers, session_slot.SessionSlot.put.Statement.statement}
use Rattle.dom_c.proofs.session_slot.SessionSlot.put.Code as code

abbrev Room : RattleType
Room = room-type.the_row S heap.row heap.g

abbrev stayed : Stays f.ended.signature.params f.ended.kept
stayed = (stay_ref (0 ∷ []) tt (plain (λ _. R)), (stay_dropped (plain (λ _. Room)) yes, (stay_dropped (plain (λ _. S)) yes, tt)))

pub put_spec : {M : Type 1} → statement M
put_spec 𝓤 𝓛 𝓜 𝓡 wired =
    let c = f.clauses 𝓛 𝓜.mem 𝓡.returns in let W = walk_of 𝓛 f.ended stayed c in let 𝓣 = tables 𝓤 𝓛.H 𝓜 𝓡 𝓡.env in let τ : Ty = layout S in
    proved_at 𝓛 f.ended stayed c 𝓜 𝓡 (Goes-ref 𝓛 1 0 tt (plain (λ _. R)), (Goes-blank 𝓛 1 (plain (λ _. Room)) yes (λ κs x w. tt), (Goes-blank 𝓛 1 (plain (λ _. S)) yes (λ κs x w. tt), tt)))
    f.Key.name code.function (code.unfolded 𝓤 𝓛.H 𝓜 𝓡 wired) (λ z are.
    let κ = z.0.0.0 in let q = z.0.1.0 in let room = z.0.3.1.0 in let x = z.0.3.1.1.0 in let us0 = z.0.4.0 in let us1 = z.0.4.1.0 in let us2 = z.0.4.1.1.0 in
    let rb = z.0.3.0.ref_ptr.0 in let ro = z.0.3.0.ref_ptr.1 in let h = z.0.3.0.now in
    let Post : Val → SProp 𝓤 = W.post z in let Run : List Val → SProp 𝓤 = λ ws. WpFn 𝓤 𝓛.H 𝓣.C 𝓣.Λ code.function ws Post in
    let Cell = λ (ws : List Val). ‵ (cell_at full_share R.mir ws rb ro) in
    qed 𝓛 (((‵ (flft κ q) ⊛ ‵ ftrue) ⊛ ‵ (owns (MutRef (named 0) κ R ∷ Room ∷ S ∷ []) (z.0.3.0, (room, (x, tt))) (us0, (us1, (us2, tt))))) ∷ raw (fact 𝓤 (h.kept ≡ None)) ∷ []) ∵
    move ! (1 ∷ []) $ drop ! $ split ! $ split ! $ move ! (2 ∷ []) $ fsplit ! $ fsplit3 ! $ feq_l ! (λ e0. move ! (2 ∷ []) $ fsplit ! $
    Vacant-had heap S ! room us1 (λ b o hv ep e1 fa. move ! (3 ∷ []) $ fsplit ! $ handle_tells inside ! x us2 (λ v e2 gv.
    -- [what the session owns; nothing; the room; the right to free it; the allocator; obs; the borrow; the token]
    keep ! (5 ∷ 6 ∷ 7 ∷ 2 ∷ 3 ∷ 0 ∷ []) $
    let p : Ptr = block_ptr b o in let given = vptr rb ro ∷ vacant_val hv b o ∷ v ∷ [] in let new : SessionSlot = record { at = p; kept = Some x } in
    suffices ! (Run given) (subst (λ (ws : List Val × List Val × List Val). ent 𝓤 (Run given) (Run (ws.0 ++ (ws.1 ++ (ws.2 ++ []))))) (λ j. (sym e0 j, sym e1 j, sym e2 j)) (id⊢ 𝓤 _)) $
    enter ! 𝓣.C 𝓣.Λ code.function given Post $ alloc_all ! (λ l. pass_all ! refl ((tt, tt), (vacant_typed heap S hv b o fa, (gv, tt))) $
    opens ! tt R {h = h} rb ro (λ us. move ! (1 ∷ []) $ peeks ! R _ (shows 𝓛 R) h us (λ is. fsplit ! $ drop ! $ drop ! $
    rewrite ! 0 Cell (lowers.val_is h us is) refl $ move ! (4 ∷ []) $ as_written ! τ b o $
    -- [the room; the handle's cell; the open borrow; obs; auth; the right to free it; what the session owns]
    sets ! (of_opd ! (get_in ! (fld ! refl (stop !)) (sub ! 0 refl (whole !)))) refl (tt, tt) $
    first ! $ blocks ! $ sets ! (of_opd ! (get ! refl)) refl gv $ assigns_last ! (of_opd ! (get ! refl)) (through ! refl (stop !)) (init ! 0 refl gv) $
    exec ! 𝓣.C 𝓣.Λ (env code.Mir.locals l) (after 2 (code.function).body) (at_ret _ Post) $
    sets ! (of_opd ! (get ! refl)) refl (tt, tt) $
    assigns ! (of_opd ! (get ! refl)) (through ! refl (fld ! refl (stop !))) (store_in ! 1 (sub ! 0 refl (whole !)) (tt, tt)) $
    sets ! (of_opd ! (unit_lit !)) refl (tt, tt) $
    move ! (0 ∷ 6 ∷ []) $ use2 𝓛 (‵ (lies_at S full_share p x)) (part_in 𝓛 S refl full_share x b o v) $
    move ! (0 ∷ 5 ∷ []) $ fjoin ! $ field_made ! p $ fjoin ! $ move ! (1 ∷ 0 ∷ 2 ∷ 3 ∷ 4 ∷ []) $ closes ! tt R new (word p ∷ []) rb ro $
    returns ! (look_at ! 0 refl) $ free_all ! refl $ keep ! (0 ∷ 1 ∷ 2 ∷ []) $
    suffices ! _ (ends_at 𝓛 f.ended stayed c z vunit tt (new, (tt, (tt, tt))) (tt, (tt, (tt, tt)))) $ says ! refl $
    feq_i ! _ (vunit ∷ []) _ refl $ move ! (1 ∷ 2 ∷ 3 ∷ 0 ∷ []) $
    nothing ! $ move ! (3 ∷ 0 ∷ []) $ join ! $ frame ! $ feq_i ! (List Val) us0 (vptr rb ro ∷ []) e0 $ fjoin3 ! $
    nothing ! $ nothing ! $ fjoin ! $ nothing ! $ fjoin ! $ move ! (1 ∷ 0 ∷ []) $ fjoin ! $ done !)))))))
