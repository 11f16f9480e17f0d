-- What the walks of a handle share. Assumes `Logic`.
use Rattle.std.proofs.Common.{◌≡◌, ℕ, List, [], ◌∷◌, refl, Option, Some, None, IsSome}
use seplogic.Ra.Ura.{Ura}
use base.Fraction.{full_share}
use base.Logic.{SProp, ent, sep, emp, ex, guard, via}
use base.Fml.{fat}
use contract.Monad.{fact, fact_i}
use mir.Syntax.{given}
use mir.Val.{Val}
use types.Logic.{Logic, sem}
use types.Kit.{Item, Goal, Step, step, prop, ‵, raw, ◌⊛◌, some, ◌$◌, ◌∵◌, !, qed, done, move, use0, use1, pick, split, show, check, frame, fjoin, fpack, feq_i}
use borrow.Table.OneValue.{part_out}
use denote.Laws.{Is, shows}
use denote.Memory.{part_at}
use denote.Param.{layout}
use denote.RattleType.{RattleType, Valss}
use denote.RawPtr.{Ptr, RawPtr, ptr_val}
use denote.Steps.{nothing, peeks}
use denote.Struct.Struct.{Struct, within}
use denote.Struct.Owning.{shape}
use Rattle.core.proofs.alloc.Calls.{Al}
use Rattle.std.proofs.alloc.Global.TheLaws as heap-laws
use Rattle.std.specs.contracts.alloc.Global as heap-type
use Rattle.std.specs.contracts.impls.GlobalAllocator.TheImpl.{ghosts}
use Rattle.std_alloc.proofs.RcSteps.{Good, word}
use Rattle.dom_c.specs.contracts.stored_state.StoredState.{the_row as S}
use Rattle.dom_c.proofs.stored_state.StoredState.TheLaws.{the_row_laws as S-laws}
use Rattle.dom_c.specs.contracts.session_slot.SessionSlot as of_slot

-- what is there
pub what : {X : Type 0} (o : Option X) → IsSome o → (x : X) × (o ≡ Some x)
what None t = cc
what (Some x) t = (x, refl)

-- the allocator, and a session in its place where only its value's words matter
abbrev pub heap : Al
heap = record { row = heap-type.the_row; laws = heap-laws.the_row_laws; g = ghosts; d = given 0; drops = given 0 }

abbrev pub inside : Al
inside = record { row = S; laws = S-laws; g = record { dealloc_token = λ a σ p. base.Fml.ftrue }; d = given 0; drops = given 0 }

-- the handle's own field
abbrev pub Field : RattleType
Field = Struct (shape of_slot.the_type)

module _ {M : Type 1} {𝓤 : Ura M} (𝓛 : Logic 𝓤) where
  open 𝓛 use {H}

  -- a session in memory is one machine value, of its type
  pub value_out : (x : S.Denot) (b o : ℕ) → ent 𝓤 (sem 𝓛 (part_at S full_share x b o)) (ex 𝓤 (λ (v : Val). guard 𝓤 (Good (layout S) v) (sep 𝓤 (H.at full_share (layout S) b o v) (sem 𝓛 (S.own_val x (v ∷ []))))))
  value_out x b o = qed 𝓛 (‵ (part_at S full_share x b o) ∷ []) ∵
      use1 𝓛 (some (λ (v : Val). ‵ (fat full_share (layout S) b o v) ⊛ ‵ (S.own_val x (v ∷ [])))) (part_out 𝓛 S refl full_share x b o) $ pick ! (λ v. split ! $ move ! (1 ∷ []) $
      peeks ! S (Is S) (shows 𝓛 S) x (v ∷ []) (λ p.
      show ! (λ (w : Val). guard 𝓤 (Good (layout S) w) (sep 𝓤 (H.at full_share (layout S) b o w) (sem 𝓛 (S.own_val x (w ∷ []))))) v $ check ! ((S-laws.lawful 𝓛).typed x (v ∷ []) p).0 $ move ! (1 ∷ 0 ∷ []) $ done !))

module _ {M : Type 1} {𝓤 : Ura M} {𝓛 : Logic 𝓤} {K : Type 0} {Γ : List (Item 𝓤)} where
  pub says_both : K → {φ ψ : Type 0} {P : SProp 𝓤} → φ → ψ → Step K 𝓛 Γ (prop P) Γ (prop (sep 𝓤 P (sep 𝓤 (fact 𝓤 φ) (fact 𝓤 ψ))))
  says_both t {φ} {ψ} {P} x y = step (λ s. record {
    prf = via 𝓤 P s.prf (qed 𝓛 (raw P ∷ []) {P = sep 𝓤 P (sep 𝓤 (fact 𝓤 φ) (fact 𝓤 ψ))} (
        frame ! $ use0 𝓛 (raw (fact 𝓤 ψ)) (fact_i 𝓤 ψ (emp 𝓤) y) $ use0 𝓛 (raw (fact 𝓤 φ)) (fact_i 𝓤 φ (emp 𝓤) x) $ done !));
  })

module _ {M : Type 1} {𝓤 : Ura M} {𝓛 : Logic 𝓤} {K : Type 0} {Γ : List (Item 𝓤)} {G : Goal 𝓤 𝓛.H} where
  pub field_made : K → (p : Ptr) → Step K 𝓛 (‵ (Field.own_val (p, tt) (word p ∷ [])) ∷ Γ) G Γ G
  field_made t p = step (λ s.
      nothing t $ feq_i t (List Val) (ptr_val p ∷ []) (ptr_val p ∷ []) refl $ fjoin t $ feq_i t (List Val) (word p ∷ []) (word p ∷ []) refl $ fjoin t $
      fpack t (Valss (RawPtr ∷ [])) (within (shape of_slot.the_type) (p, tt) (word p ∷ [])) (ptr_val p ∷ [], tt) $ s)
