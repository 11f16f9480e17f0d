-- `lend` lends the session, and the handle follows it. Assumes `Logic`.
use Rattle.std.proofs.Common.{◌≡◌, ℕ, List, [], ◌∷◌, refl, sym, ap, ◌∙◌, Option, IsSome}
use seplogic.Ra.Ura.{Ura}
use base.Fraction.{full_share}
use base.Logic.{ent, sep, id⊢}
use base.Fml.{Fml, GName, ftrue, fsep, flft}
use contract.Monad.{fact}
use contract.Running.{tables}
use mir.Raw.{raw as bare}
use mir.Syntax.{named}
use mir.Val.{Val, vptr}
use types.Kit.{‵, raw, ◌⊛◌, some, later, at_ret, ◌$◌, ◌∵◌, !, qed, done, move, keep, use1, split, join, fsplit, fsplit3, fjoin, fjoin3, fpack, pick, await, rewrite, suffices, frame, group}
use types.Logic.{Logic, sem}
use types.Part.{whole, sub, look_in}
use types.Run.{enter, of_opd, addr, load, stop, fld, first, blocks, exec, returns}
use types.ByLocal.{alloc_all, pass_all, free_all, look_at, get, through, sets, sets_last, env}
use denote.Exit.{no}
use denote.Follow.{follows, Part, lends_Part}
use denote.Laws.{shows}
use denote.Memory.{lone, mem, cell_at, part_at, part_of}
use denote.RattleType.{RattleType}
use denote.RawPtr.{Ptr, block_ptr, in_a_block, lies_at}
use denote.Ref.{MutBor, MutRef, mut_vals, mut_Tells}
use denote.Signature.{plain, mut_ref_to}
use denote.Steps.{nothing, opens, heard, peeks}
use denote.Struct.Owning.{shape}
use denote.Struct.Struct.{Struct}
use denote.Triple.Walked.{Stays, walk_of, says, stay_dropped, Goes-spent_ref, ends_at}
use Rattle.std.proofs.raw_atomic.Walks.{proved}
use Rattle.std.proofs.VecSteps.Shapes.{after}
use Rattle.dom_c.specs.{contracts.stored_state.StoredState.the_row as S, Borrows.with_kept, Ownership.state_block, Ownership.held, declared.session_slot.SessionSlot.SessionSlot}
use Rattle.dom_c.specs.contracts.session_slot.SessionSlot as of_slot
use Rattle.dom_c.specs.contracts.session_slot.SessionSlot.lend as f
use Rattle.dom_c.proofs.{HeldLemmas.what, session_slot.SessionSlot.TheLaws.lowers, session_slot.SessionSlot.lend.Statement.statement}
use Rattle.dom_c.proofs.session_slot.SessionSlot.lend.Code as code

abbrev R : RattleType
R = of_slot.the_row

abbrev stayed : Stays f.ended.signature.params f.ended.kept
stayed = (stay_dropped (mut_ref_to (0 ∷ []) tt (plain (λ _. R))) no, tt)

-- all of the handle but its session
abbrev Rest : SessionSlot → List Val → ℕ → ℕ → Fml
Rest h us b o = fsep (state_block (bare (lone S.mir)) h.at) (fsep ((Struct (shape of_slot.the_type)).own_val (h.at, tt) us) (cell_at full_share R.mir us b o))

module _ {M : Type 1} {𝓤 : Ura M} (𝓛 : Logic 𝓤) where
  back : (h : SessionSlot) (us : List Val) (b o b' o' : ℕ) → h.at ≡ block_ptr b' o'
      → (w : S.Denot) → ent 𝓤 (sep 𝓤 (sem 𝓛 ((mem S).own_at w b' o')) (sem 𝓛 (Rest h us b o))) (sem 𝓛 ((mem R).own_at (with_kept h w) b o))
  unfolding part_of
  back h us b o b' o' e w =
      qed 𝓛 (‵ (part_at S full_share w b' o') ∷ ‵ (Rest h us b o) ∷ []) ∵ rewrite ! 0 (λ (p : Ptr). ‵ (lies_at S full_share p w)) (sym e) refl $
      move ! (1 ∷ []) $ fsplit3 ! $ move ! (3 ∷ 0 ∷ []) $ fjoin ! $ move ! (1 ∷ 0 ∷ []) $ fjoin ! $ move ! (1 ∷ 0 ∷ []) $ fjoin ! $
      fpack ! (List Val) (λ vs. fsep (cell_at full_share R.mir vs b o) (R.own_val (with_kept h w) vs)) us $ done !

pub lend_spec : {M : Type 1} → statement M
lend_spec 𝓤 𝓛 𝓜 𝓡 wired =
    let c = f.clauses 𝓛 𝓜.mem 𝓡.returns in let W = walk_of 𝓛 f.ended stayed c in let 𝓣 = tables 𝓤 𝓛.H 𝓜 𝓡 𝓡.env in
    proved 𝓛 f.ended stayed c 𝓜 𝓡 (Goes-spent_ref 𝓛 1 (0 ∷ []) tt (plain (λ _. R)), tt)
    f.Key.name code.function (code.unfolded 𝓤 𝓛.H 𝓜 𝓡 wired)
    (λ κs. (mut_vals, tt)) (λ κs. (mut_Tells (named 0) κs.0 R, tt)) (λ κs qs bounds a _ are.
    let κ = κs.0 in let q = qs.0 in let γ = a.0.ghost_name in let b = a.0.ref_ptr.0 in let o = a.0.ref_ptr.1 in let h = a.0.now in let vs = mut_vals a.0 in
    let y : W.Ghost = ((κs, qs, bounds, a, (vs, tt)), tt) in
    let coded = R.coded.code h in
    qed 𝓛 (((‵ (flft κ q) ⊛ ‵ ftrue) ⊛ ‵ ((MutRef (named 0) κ R).own_val a.0 vs) ⊛ ‵ ftrue) ∷ raw (fact 𝓤 (IsSome h.kept)) ∷ []) ∵
    move ! (1 ∷ []) $ heard ! (IsSome h.kept) (λ asked. let s = what h.kept asked in
    split ! $ split ! $ move ! (2 ∷ []) $ split ! $ keep ! (0 ∷ 2 ∷ []) $
    enter ! _ _ _ _ _ $ alloc_all ! (λ l. pass_all ! refl ((tt, tt), tt) $
    fsplit3 ! $ move ! (1 ∷ 2 ∷ 3 ∷ []) $ opens ! tt R b o (λ us.
    move ! (1 ∷ []) $ peeks ! R _ (shows 𝓛 R) h us (λ is. fsplit ! $ move ! (1 ∷ []) $
    rewrite ! 0 (λ (t : Option S.Denot). ‵ (held h.at t)) s.1 refl $ fsplit ! $
    in_a_block ! h.at (λ p. lies_at S full_share p s.0) (id⊢ 𝓤 _) (λ b' o' e.
    let word = lowers.val_is h us is ∙ ap (λ (p : Ptr). lowers.lowered (record h { at = p }) ∷ []) e in
    let Cell = λ (ws : List Val). ‵ (cell_at full_share R.mir ws b o) in
    let way = back 𝓛 h us b o b' o' e in
    -- [the session; the right to free it; what the fields own; the handle's cell; the open borrow; obs; auth]
    rewrite ! 3 Cell word refl $
    sets ! (of_opd ! (load ! (through ! refl (fld ! refl (stop !))) (look_in ! 3 (sub ! 0 refl (whole !))))) refl (tt, tt) $
    sets ! (of_opd ! (get ! refl)) refl (tt, tt) $
    first ! $ blocks ! $ sets_last ! (addr ! (through ! refl (stop !))) refl (tt, tt) $
    exec ! 𝓣.C 𝓣.Λ (env code.Mir.locals l) (after 3 (code.function).body) (at_ret _ (W.post y)) $
    sets ! (of_opd ! (get ! refl)) refl (tt, tt) $
    rewrite ! 3 Cell (sym word) refl $
    move ! (1 ∷ 2 ∷ 3 ∷ []) $ fjoin3 ! $ move ! (2 ∷ 3 ∷ 4 ∷ 1 ∷ 0 ∷ []) $ group ! 5 $
    use1 𝓛 (later (some (λ (δ : GName). raw (Part 𝓛 R S (with_kept h) (named 0) κ q b o b' o' γ (sem 𝓛 (Rest h us b o)) way s.0 δ))))
    (lends_Part 𝓛 R S (with_kept h) (named 0) κ q b o b' o' γ (sem 𝓛 (Rest h us b o)) way coded coded s.0) $ await ! tt $ pick ! (λ δ.
    returns ! (look_at ! 0 refl) $ free_all ! refl $ keep ! (0 ∷ []) $
    let r : MutBor S.Denot = record { ref_ptr = (b', o'); ghost_name = δ; now = s.0 } in
    use1 𝓛 (‵ ((MutRef (named 0) κ S).own_val r (vptr b' o' ∷ [])) ⊛ ‵ (flft κ q) ⊛ ‵ (follows R S γ δ (with_kept h))) (id⊢ 𝓤 _) $ split ! $ move ! (1 ∷ []) $ split ! $
    -- [the token; how the handle ends; the loan]
    suffices ! _ (ends_at 𝓛 f.ended stayed c y (vptr b' o') r (tt, tt) (tt, tt)) $
    move ! (2 ∷ []) $ nothing ! $ nothing ! $ fjoin ! $ join ! $ nothing ! $ move ! (2 ∷ 0 ∷ []) $ join ! $ join ! $ frame ! $ says ! s.1 $ done !)))))))
