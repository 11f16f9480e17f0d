-- `take` reads the session out, and its block is room again. Assumes `Logic`.
use Rattle.std.proofs.Common.{List, [], ◌∷◌, ◌++◌, refl, sym, ap, subst, ◌∙◌, Option, None, IsSome}
use base.Fraction.{full_share}
use base.Logic.{SProp, ent, id⊢}
use base.Fml.{ftrue, fat, froom, flft}
use contract.Monad.{fact}
use contract.Running.{tables}
use mir.Raw.{raw as bare}
use mir.Syntax.{Ty, named}
use mir.Val.{Val, vptr}
use prog.Wp.{WpFn}
use types.Kit.{‵, raw, ◌⊛◌, some, given, at_ret, ◌$◌, ◌∵◌, !, qed, done, move, keep, drop, use1, use2, split, join, learn, fsplit, fsplit3, fjoin, fjoin3, feq_i, feq_l, pick, rewrite, suffices, frame}
use types.Part.{whole, sub, look_in, store_in, agg}
use types.Run.{enter, of_opd, lit, load, look as looks_at, stop, fld, first, blocks, exec, returns, and_then, no_more, assigns}
use types.ByLocal.{alloc_all, pass_all, free_all, look_at, get, through, sets, sets_last, env}
use denote.Exit.{yes}
use denote.Laws.{shows}
use denote.Memory.{lone, cell_at}
use denote.Param.{layout}
use denote.RattleType.{RattleType, owns}
use denote.RawPtr.{Ptr, block_ptr, null_ptr, in_a_block, lies_at}
use denote.Ref.{MutRef}
use denote.Signature.{plain}
use denote.Steps.{nothing, opens, closes, heard, peeks}
use denote.Struct.Tuple.{Tuple}
use denote.Triple.Walked.{Stays, walk_of, ends_at, stay_ref, stay_dropped, Goes-ref}
use Rattle.core.proofs.alloc.Calls.{Goes-blank, handle_tells}
use Rattle.std.proofs.raw_atomic.Walks.{proved_at}
use Rattle.std_alloc.proofs.{OfVacant.Vacant, OfVacant.vacant_ty, OfVacant.vacant_val, OfVacant.vacant_typed, OfVacant.Vacant-made, Pairs.pair_val, Pairs.pair_Typed, Pairs.pair_of, RawLayout.as_raw, RcSteps.Good, RcSteps.Ptr-Good, RcSteps.word, VecSteps.Shapes.after}
use Rattle.dom_c.specs.{contracts.stored_state.StoredState.the_row as S, Ownership.state_block, Ownership.held, declared.session_slot.SessionSlot.SessionSlot, contracts.session_slot.SessionSlot.the_row as R}
use Rattle.dom_c.specs.contracts.session_slot.SessionSlot.take as f
use Rattle.dom_c.proofs.{HeldLemmas.what, HeldLemmas.heap, HeldLemmas.says_both, HeldLemmas.value_out, HeldLemmas.field_made, session_slot.SessionSlot.TheLaws.lowers, session_slot.SessionSlot.take.Statement.statement}
use Rattle.dom_c.proofs.session_slot.SessionSlot.take.Code as code

abbrev Room : RattleType
Room = Vacant heap S

abbrev stayed : Stays f.ended.signature.params f.ended.kept
stayed = (stay_ref (0 ∷ []) tt (plain (λ _. R)), (stay_dropped (plain (λ _. heap.row)) yes, tt))

pub take_spec : {M : Type 1} → statement M
take_spec 𝓤 𝓛 𝓜 𝓡 wired =
    let c = f.clauses 𝓛 𝓜.mem 𝓡.returns in let W = walk_of 𝓛 f.ended stayed c in let 𝓣 = tables 𝓤 𝓛.H 𝓜 𝓡 𝓡.env in let τ : Ty = layout S in
    proved_at 𝓛 f.ended stayed c 𝓜 𝓡 (Goes-ref 𝓛 1 0 tt (plain (λ _. R)), (Goes-blank 𝓛 1 (plain (λ _. heap.row)) yes (λ κs x w. tt), tt))
    f.Key.name code.function (code.unfolded 𝓤 𝓛.H 𝓜 𝓡 wired) (λ z are.
    let κ = z.0.0.0 in let q = z.0.1.0 in let a = z.0.3.1.0 in let us0 = z.0.4.0 in let us1 = z.0.4.1.0 in
    let rb = z.0.3.0.ref_ptr.0 in let ro = z.0.3.0.ref_ptr.1 in let h = z.0.3.0.now in
    let Post : Val → SProp 𝓤 = W.post z in let Run : List Val → SProp 𝓤 = λ ws. WpFn 𝓤 𝓛.H 𝓣.C 𝓣.Λ code.function ws Post in
    let Cell = λ (ws : List Val). ‵ (cell_at full_share R.mir ws rb ro) in
    qed 𝓛 (((‵ (flft κ q) ⊛ ‵ ftrue) ⊛ ‵ (owns (MutRef (named 0) κ R ∷ heap.row ∷ []) (z.0.3.0, (a, tt)) (us0, (us1, tt)))) ∷ raw (fact 𝓤 (IsSome h.kept)) ∷ []) ∵
    move ! (1 ∷ []) $ heard ! (IsSome h.kept) (λ asked. let s = what h.kept asked in
    split ! $ split ! $ move ! (2 ∷ []) $ fsplit ! $ fsplit3 ! $ feq_l ! (λ e0. move ! (2 ∷ []) $ fsplit ! $ handle_tells heap ! a us1 (λ hv e1 fa.
    -- [the allocator; nothing; obs; the borrow; the token]
    keep ! (2 ∷ 3 ∷ 4 ∷ 0 ∷ []) $
    suffices ! (Run (vptr rb ro ∷ hv ∷ [])) (subst (λ (ws : List Val × List Val). ent 𝓤 (Run (vptr rb ro ∷ hv ∷ [])) (Run (ws.0 ++ (ws.1 ++ [])))) (λ j. (sym e0 j, sym e1 j)) (id⊢ 𝓤 _)) $
    enter ! 𝓣.C 𝓣.Λ code.function (vptr rb ro ∷ hv ∷ []) Post $ alloc_all ! (λ l. pass_all ! refl ((tt, tt), (fa, tt)) $
    opens ! tt R {h = h} rb ro (λ us. move ! (1 ∷ []) $ peeks ! R _ (shows 𝓛 R) h us (λ is. fsplit ! $ move ! (1 ∷ []) $
    rewrite ! 0 (λ (t : Option S.Denot). ‵ (held h.at t)) s.1 refl $ fsplit ! $
    in_a_block ! h.at (λ p. lies_at S full_share p s.0) (id⊢ 𝓤 _) (λ b o e.
    rewrite ! 1 (λ (p : Ptr). ‵ (state_block (bare (lone S.mir)) p)) e refl $
    use1 𝓛 (some (λ (v : Val). given (Good τ v) (‵ (fat full_share τ b o v) ⊛ ‵ (S.own_val s.0 (v ∷ []))))) (value_out 𝓛 s.0 b o) $ pick ! (λ v. learn ! (λ gv. split ! $
    let made = vacant_typed heap S hv b o fa in let typed = pair_Typed τ (vacant_ty heap S) v (vacant_val hv b o) gv made in
    let room : Room.Denot = record { ptr = block_ptr b o; alloc = a } in let out : Val = pair_val v (vacant_val hv b o) in
    let new : SessionSlot = record { at = null_ptr; kept = None } in
    -- [the session's cell; what it owns; the right to free it; what the fields own; the handle's cell; the open borrow; obs; auth; the allocator]
    rewrite ! 4 Cell (lowers.val_is h us is ∙ ap (λ (p : Ptr). word p ∷ []) e) refl $
    sets ! (of_opd ! (load ! (through ! refl (fld ! refl (stop !))) (look_in ! 4 (sub ! 0 refl (whole !))))) refl (tt, tt) $
    sets ! (of_opd ! (get ! refl)) refl (tt, tt) $
    first ! $ blocks ! $ sets_last ! (of_opd ! (load ! (through ! refl (stop !)) (looks_at ! 0 refl))) refl gv $
    exec ! 𝓣.C 𝓣.Λ (env code.Mir.locals l) (after 3 (code.function).body) (at_ret _ Post) $
    sets ! (of_opd ! (get ! refl)) refl gv $
    assigns ! (of_opd ! (lit ! tt)) (through ! refl (fld ! refl (stop !))) (store_in ! 4 (sub ! 0 refl (whole !)) (Ptr-Good null_ptr)) $
    sets ! (of_opd ! (get ! refl)) refl gv $
    sets ! (agg ! (and_then ! (get ! refl) (and_then ! (get ! refl) (no_more !)))) refl made $
    sets ! (agg ! (and_then ! (get ! refl) (and_then ! (get ! refl) (no_more !)))) refl typed $
    use1 𝓛 (‵ (froom τ b o)) (𝓛.laws.at_room τ b o v) $ as_raw ! τ b o $
    move ! (0 ∷ 2 ∷ 8 ∷ []) $ Vacant-made heap S ! a b o $ move ! (1 ∷ 0 ∷ []) $
    use2 𝓛 (‵ ((Tuple (S ∷ Room ∷ [])).own_val (s.0, room) (out ∷ []))) (pair_of 𝓛 S Room s.0 room v (vacant_val hv b o)) $
    -- [the result; what the fields own; the handle's cell; the open borrow; obs; auth]
    move ! (1 ∷ []) $ drop ! $ nothing ! $ field_made ! null_ptr $ fjoin ! $ move ! (2 ∷ 0 ∷ 3 ∷ 4 ∷ 5 ∷ []) $ closes ! tt R new (word null_ptr ∷ []) rb ro $
    -- [obs; the borrow; the token; the result]
    returns ! (look_at ! 0 refl) $ free_all ! refl $ keep ! (0 ∷ 1 ∷ 2 ∷ 3 ∷ []) $
    suffices ! _ (ends_at 𝓛 f.ended stayed c z out (s.0, room) (new, (tt, tt)) (tt, (tt, tt))) $ says_both ! s.1 refl $
    nothing ! $ move ! (3 ∷ 0 ∷ []) $ join ! $ frame ! $ feq_i ! (List Val) us0 (vptr rb ro ∷ []) e0 $ fjoin3 ! $
    nothing ! $ nothing ! $ fjoin ! $ move ! (1 ∷ 0 ∷ []) $ fjoin ! $ done !))))))))))
