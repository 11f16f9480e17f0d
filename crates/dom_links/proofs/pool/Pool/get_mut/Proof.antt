-- `get_mut` lends one node, and the pool follows it. Assumes `Logic`.
use mathlib.Core.Path.{◌≡◌, refl, sym, subst}
use Prim.Native.Nat.{ℕ}
use mathlib.Core.List.{List, [], ◌∷◌, ◌++◌}
use seplogic.Ra.Ura.{Ura}
use base.Fraction.{full_share}
use mir.Syntax.{Fn, named}
use mir.Raw.{raw as bare}
use mir.MapTy.{inst_fn}
use mir.Val.{Val, vptr}
use base.Logic.{SProp, ent, sep, never, id⊢}
use base.Fml.{Lft, GName, Share, Fml, ftrue, fsep, fat, flft, fobs, fbor}
use prog.Wp.{Env, Calls, Loops, WpFn, Tables}
use types.Logic.{Logic, sem}
use contract.Monad.{fact}
use contract.Running.{tables, tables_of}
use sound.WpLaws.{WpFn-mono}
use types.Kit.{Item, ⋆, ‵, raw, ◌⊛◌, some, later, await, pick, at_ret, ◌$◌, ◌∵◌, !, qed, by, move, keep, use1, use2, split, join, group, rewrite, fsplit, fsplit3, fjoin, fjoin3, fpack, feq_l, suffices, frame, done}
use types.Part.{whole, sub}
use types.Run.{stop, hop, fld, from, of_opd, addr, first, blocks, exec, returns, enter}
use types.ByLocal.{alloc_all, pass_all, free_all, look_at, look_in_at, take_at, give_at, get, sets, sets_last, env}
use types.SemTy.{Body as Borrowed}
use denote.Exit.{no}
use denote.Follow.{follows, Part, lends_Part}
use denote.RattleType.{owns}
use denote.Memory.{lone, mem, cell_at, part_at, part_of}
use denote.Param.{layout}
use denote.RawPtr.{Ptr, block_ptr, in_a_block, lies_at}
use denote.Ref.{MutBor, MutRef}
use denote.Builtin.{RefMutOf}
use denote.Signature.{plain, mut_ref_to}
use denote.Steps.{nothing, opens}
use denote.Triple.Carry.{spared}
use denote.Triple.Clauses.{Clauses, Ended, closing}
use denote.Triple.Entry.{on_entry}
use denote.Triple.Spec.{Meets, triple_of}
use denote.Triple.Table.{entered, run_framed}
use denote.Triple.Walked.{says, needs, Stays, stay_dropped, walk_of, ends_at, Goes-dropped, Goes-spent_ref, walk_Meets}
use Rattle.std.proofs.Common.{IsSome, Some}
use Rattle.std_alloc.proofs.{VecSteps.Shapes.after, RcSteps.word, RcSteps.word-Good}
use Rattle.dom_links.specs.{Cells.look, Borrows.with_cell, Ownership.chunk, Ownership.cell_owns, Ownership.cells_own, contracts.pool.Pool.get_mut.Key.name as #self}
use Rattle.dom_links.proofs.{LookLemmas.Found, LookLemmas.found, PoolWalkLemmas.El, PoolWalkLemmas.args, PoolWalkLemmas.R, PoolWalkLemmas.Pr, PoolWalkLemmas.Np, PoolWalkLemmas.Mark, PoolWalkLemmas.word_had, PoolWalkLemmas.cells_cut, PoolWalkLemmas.cells_glue}
use Rattle.dom_links.proofs.pool.Pool.get_mut.Statement as stated
use Rattle.dom_links.proofs.pool.Pool.get_mut.Code as code

module _ (E : El) where
  abbrev function : Fn
  function = inst_fn (args E) code.function

  abbrev ended : Ended
  ended = record { signature = record { lifetimes = 1; outlives = []; params = RefMutOf (0 ∷ []) tt (plain (λ _. Pr E)) (λ _. tt) ∷ plain (λ _. Np E) ∷ []; result = RefMutOf (0 ∷ []) tt (plain (λ _. R E)) (λ _. tt) }; kept = (no, (no, tt)) }

  abbrev stayed : Stays ended.signature.params ended.kept
  stayed = (stay_dropped (mut_ref_to (0 ∷ []) tt (plain (λ _. Pr E))) no, (stay_dropped (plain (λ _. Np E)) no, tt))

  abbrev Asks : (Pr E).Denot → (Np E).Denot → Type 0
  Asks d node = IsSome (look node.ptr d.cells)

  abbrev Gives : (Pr E).Denot → (Np E).Denot → MutBor E.row.Denot → Type 0
  Gives d node r = look node.ptr d.cells ≡ Some r.now

  abbrev spec : {M : Type 1} {𝓤 : Ura M} (𝓛 : Logic 𝓤) → Clauses 𝓤 ended
  spec {𝓤 = 𝓤} 𝓛 κs a = record { ghost = Unit {0}; requires = λ _. fact 𝓤 (Asks a.0.now a.1.0); ensures = λ _ r w. sep 𝓤 (sem 𝓛 (follows (Pr E) (R E) a.0.ghost_name r.ghost_name (with_cell a.0.now a.1.0.ptr))) (fact 𝓤 (Gives a.0.now a.1.0 r)) }

module _ (E : El) {M : Type 1} {𝓤 : Ura M} (𝓛 : Logic 𝓤) (C : Calls 𝓤 𝓛.H) (Λ : Loops 𝓤 𝓛.H) (κ : Lft) (q : Share) (rb ro : ℕ) (γ : GName) (d : (Pr E).Denot) (node : (Np E).Denot) (us0 us1 : List Val) where
  open 𝓛 use {H, A}

  abbrev self : MutBor (Pr E).Denot
  self = record { ref_ptr = (rb, ro); ghost_name = γ; now = d }

  abbrev bound : (walk_of 𝓛 (ended E) (stayed E) (spec E 𝓛)).Ghost
  bound = (((κ, tt), (q, tt), tt, (self, (node, tt)), (us0, (us1, tt))), tt)

  abbrev Post : Val → SProp 𝓤
  Post = (walk_of 𝓛 (ended E) (stayed E) (spec E 𝓛)).post bound

  abbrev new : E.row.Denot → (Pr E).Denot
  new = with_cell d node.ptr

  module _ (f : Found node.ptr d.cells) (vs : List Val) (b o : ℕ) where
    -- all but the node
    abbrev Rest : Fml
    Rest = fsep (chunk (bare (lone (R E).mir)) node.ptr) (fsep (cells_own (R E) (f.before ++ f.after)) (fsep ((Mark E).own_val (tt, tt) vs) (cell_at full_share (Pr E).mir vs rb ro)))

    back : node.ptr ≡ block_ptr b o
        → (w : E.row.Denot) → ent 𝓤 (sep 𝓤 (sem 𝓛 ((mem (R E)).own_at w b o)) (sem 𝓛 Rest)) (sem 𝓛 ((mem (Pr E)).own_at (new w) rb ro))
    unfolding part_of
    back e w =
        qed 𝓛 (‵ (part_at (R E) full_share w b o) ∷ ‵ Rest ∷ []) ∵ rewrite ! 0 (λ (p : Ptr). ‵ (lies_at (R E) full_share p w)) (sym e) refl $
        move ! (1 ∷ []) $ fsplit3 ! $ move ! (2 ∷ []) $ fsplit ! $ move ! (4 ∷ 2 ∷ []) $ fjoin ! $ move ! (0 ∷ 3 ∷ []) $
        use2 𝓛 (‵ (cells_own (R E) (f.before ++ (node.ptr, w) ∷ f.after))) (cells_glue 𝓛 (R E) f.before (node.ptr, w) f.after) $
        rewrite ! 0 (λ (cs : List (Ptr × E.row.Denot)). ‵ (cells_own (R E) cs)) (sym (f.written w)) refl $
        move ! (1 ∷ 0 ∷ []) $ fjoin ! $ move ! (1 ∷ 0 ∷ []) $ fjoin ! $
        fpack ! (List Val) (λ us. fsep (cell_at full_share (Pr E).mir us rb ro) ((Pr E).own_val (new w) us)) vs $ done !

  exits : (b o : ℕ) (r : MutBor E.row.Denot) → Gives E d node r
      → ent 𝓤 (sep 𝓤 (sem 𝓛 ((MutRef (named 0) κ (R E)).own_val r (vptr b o ∷ []))) (sep 𝓤 (A.lft κ q) (sem 𝓛 (follows (Pr E) (R E) γ r.ghost_name new)))) (Post (vptr b o))
  exits b o r e =
      qed 𝓛 (‵ ((MutRef (named 0) κ (R E)).own_val r (vptr b o ∷ [])) ∷ ‵ (flft κ q) ∷ ‵ (follows (Pr E) (R E) γ r.ghost_name new) ∷ []) ∵
      suffices ! _ (ends_at 𝓛 (ended E) (stayed E) (spec E 𝓛) bound (vptr b o) r (tt, (tt, tt)) (tt, (tt, tt))) $
      nothing ! $ nothing ! $ fjoin ! $ nothing ! $ fjoin ! $ join ! $ nothing ! $ move ! (2 ∷ 0 ∷ []) $ join ! $ join ! $ frame ! $ says ! e $ done !

  abbrev Had : List (Item 𝓤)
  Had = ‵ (fobs γ ((Pr E).coded.code d)) ∷ ‵ (fbor κ (Borrowed (mem (Pr E)) rb ro γ)) ∷ ‵ (flft κ q) ∷ []

  walk : Asks E d node → ent 𝓤 (⋆ 𝓛 Had) (WpFn 𝓤 H C Λ (function E) (vptr rb ro ∷ word node.ptr ∷ []) Post)
  walk asked =
      let f : Found node.ptr d.cells = found node.ptr d.cells asked in
      let code = (Pr E).coded.code d in
      qed 𝓛 Had ∵ enter ! C Λ (function E) (vptr rb ro ∷ word node.ptr ∷ []) _ $ alloc_all ! (λ l. pass_all ! refl ((tt, tt), (word-Good [] node.ptr, tt)) $
      let En : Env 𝓤 H = env (function E).locals l in
      opens ! tt (Pr E) {h = d} rb ro (λ vs. move ! (1 ∷ []) $ fsplit ! $ move ! (1 ∷ []) $
      rewrite ! 0 (λ (cs : List (Ptr × E.row.Denot)). ‵ (cells_own (R E) cs)) f.cut refl $
      use1 𝓛 (‵ (cell_owns (R E) (node.ptr, f.item)) ⊛ ‵ (cells_own (R E) (f.before ++ f.after))) (cells_cut 𝓛 (R E) f.before (node.ptr, f.item) f.after) $ split ! $ fsplit ! $
      in_a_block ! node.ptr (λ p. lies_at (R E) full_share p f.item) (id⊢ 𝓤 (never 𝓤)) (λ pb po e.
      let way = back f vs pb po e in
      -- [the node; its token; the other cells; the mark; its cell; the open borrow; obs; auth]
      take_at ! 2 $ rewrite ! 0 (λ (p : Ptr). ‵ (fat full_share (layout (Np E)) (l 2) 0 (word p))) e refl $ give_at ! 2 $
      first ! $ blocks ! $ sets_last ! (addr ! (from ! (fld ! refl (hop ! (look_in_at ! 2 (sub ! 0 refl (whole !))) (stop !))))) refl (tt, tt) $
      exec ! C Λ En (after 1 (function E).body) (at_ret En Post) $ sets ! (of_opd ! (get ! refl)) refl (tt, tt) $
      move ! (3 ∷ 4 ∷ []) $ fjoin ! $ move ! (2 ∷ 3 ∷ 0 ∷ []) $ fjoin3 ! $ move ! (2 ∷ 3 ∷ 4 ∷ 1 ∷ 0 ∷ []) $ group ! 5 $
      use1 𝓛 (later (some (λ (δ : GName). raw (Part 𝓛 (Pr E) (R E) new (named 0) κ q rb ro pb po γ (sem 𝓛 (Rest f vs pb po)) way f.item δ))))
      (lends_Part 𝓛 (Pr E) (R E) new (named 0) κ q rb ro pb po γ (sem 𝓛 (Rest f vs pb po)) way code code f.item) $ await ! tt $ pick ! (λ δ.
      returns ! (look_at ! 0 refl) $ free_all ! refl $ keep ! (0 ∷ []) $
      by ! (exits pb po (record { ref_ptr = (pb, po); ghost_name = δ; now = f.item }) f.seen)))))

  entry : Asks E d node → ent 𝓤 (on_entry 𝓛 (ended E).signature (κ, tt) (q, tt) (self, (node, tt)) (us0, (us1, tt))) (WpFn 𝓤 H C Λ (function E) (us0 ++ (us1 ++ [])) Post)
  entry asked =
      qed 𝓛 ((‵ (flft κ q) ⊛ ‵ ftrue) ∷ ‵ (owns (MutRef (named 0) κ (Pr E) ∷ Np E ∷ []) (self, (node, tt)) (us0, (us1, tt))) ∷ []) ∵
      split ! $ move ! (2 ∷ []) $
      fsplit ! $
      fsplit3 ! $ feq_l ! (λ e0.
      move ! (2 ∷ []) $
      fsplit ! $
      word_had ! node.ptr us1 (λ e1.
      keep ! (1 ∷ 2 ∷ 3 ∷ []) $
      by ! (subst (λ (ws : List Val × List Val). ent 𝓤 (⋆ 𝓛 Had) (WpFn 𝓤 H C Λ (function E) (ws.0 ++ (ws.1 ++ [])) Post)) (λ j. (sym e0 j, sym e1 j)) (walk asked))))

meets : (E : El) {M : Type 1} {𝓤 : Ura M} (𝓛 : Logic 𝓤) (𝓣 : Tables 𝓤 𝓛.H)
    → Meets 𝓛 (ended E).signature (WpFn 𝓤 𝓛.H 𝓣.C 𝓣.Λ (function E)) (closing 𝓛 (ended E) (spec E 𝓛))
meets E {𝓤 = 𝓤} 𝓛 𝓣 =
    walk_Meets 𝓛 (ended E) (stayed E) (Goes-spent_ref 𝓛 1 (0 ∷ []) tt (plain (λ _. Pr E)), (Goes-dropped 𝓛 1 (plain (λ _. Np E)) no (λ κs x f. refl), tt)) (spec E 𝓛) (WpFn 𝓤 𝓛.H 𝓣.C 𝓣.Λ (function E)) (WpFn-mono 𝓤 𝓛.H 𝓛.laws 𝓣 (function E))
    (λ z. needs 𝓤 (Asks E z.0.3.0.now z.0.3.1.0) _ (entry E 𝓛 𝓣.C 𝓣.Λ z.0.0.0 z.0.1.0 z.0.3.0.ref_ptr.0 z.0.3.0.ref_ptr.1 z.0.3.0.ghost_name z.0.3.0.now z.0.3.1.0 z.0.4.0 z.0.4.1.0))

pub get_mut_spec : {M : Type 1} → stated.statement M
unfolding tables_of
get_mut_spec 𝓤 𝓛 𝓜 𝓡 wired N LN y =
    let E : El = record { row = N; laws = LN } in
    let 𝓣 : Tables 𝓤 𝓛.H = tables_of 𝓤 𝓛.H 𝓜 (tables 𝓤 𝓛.H 𝓜 𝓡 𝓡.env) in
    let k = #self (args E) in
    spared 𝓛 (ended E).signature (𝓡.run (𝓡.env k)) (run_framed 𝓤 𝓛.H 𝓜 𝓡 (𝓡.env k)) 1 (N.lives, tt) (closing 𝓛 (ended E) (spec E 𝓛))
    (entered 𝓤 𝓛.H (triple_of 𝓛 (ended E).signature (closing 𝓛 (ended E) (spec E 𝓛))) 𝓣.C 𝓣.Λ k (function E) (code.unfolded 𝓤 𝓛.H 𝓜 𝓡 wired (N, tt)) (meets E 𝓛 𝓣))
    ((y.0.0, y.0.1, tt, y.0.3, y.0.4), y.1)
