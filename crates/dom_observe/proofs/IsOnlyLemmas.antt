-- Listeners that are all of one observer.
use Rattle.std.proofs.Common.{◌≡◌, ℕ, ◌==◌, ◌||◌, Bool, true, false, if◌then◌else◌, List, [], ◌∷◌, ◌++◌, Option, None, Some, refl, ap, sym, ◌∙◌, subst, unwrap_or, IfSome}
use Rattle.std.specs.Map.{keys_of}
use Rattle.dom_model.specs.Definitions.{with_last, with_all_last}
use Rattle.dom_model.proofs.PlainLists.Numbers.{same_or, same, apart}
use Rattle.dom_observe.specs.Interested.{flag_of, joined_interest, IsOnly}
use Rattle.dom_observe.proofs.InterestedLemmas.{flag-last, keys_of-append, all_last-append, last-there}

-- there is no listener, or all are one
abbrev pub AreAlone : Option (ℕ × Bool) → List (ℕ × Bool) → Type 0
AreAlone None ls = ls ≡ []
AreAlone (Some only) ls = IsOnly only ls

-- who is last already stays so
again : (ps : List ℕ) (o : ℕ) → with_last (with_last ps o) o ≡ with_last ps o
again ps o = ap (λ b. if b then with_last ps o else with_last ps o ++ o ∷ []) (last-there o ps)

-- the first
pub alone-first : (l : ℕ × Bool) → IsOnly l ([] ++ l ∷ [])
alone-first l = record {
  flags = λ p. flag-last p [] l;
  pends = λ ps. refl;
}

-- one more of the same observer
pub alone-more : (only l : ℕ × Bool) (ls : List (ℕ × Bool)) → only.0 ≡ l.0 → IsOnly only ls → IsOnly (only.0, only.1 || l.1) (ls ++ l ∷ [])
alone-more only l ls e h = record {
  flags = λ p. flag-last p ls l
      ∙ ap (λ o. if o == p then Some (unwrap_or (flag_of p ls) false || l.1) else flag_of p ls) (sym e)
      ∙ ap (λ v. if only.0 == p then Some (unwrap_or v false || l.1) else v) (h.flags p)
      ∙ twice (only.0 == p);
  pends = λ ps. ap (with_all_last ps) (keys_of-append ls l) ∙ all_last-append ps (keys_of ls) l.0
      ∙ ap (λ qs. with_last qs l.0) (h.pends ps) ∙ ap (with_last (with_last ps only.0)) (sym e) ∙ again ps only.0;
}
  where
    twice : (b : Bool) → (if b then Some (unwrap_or (if b then Some only.1 else None) false || l.1) else (if b then Some only.1 else None)) ≡ (if b then Some (only.1 || l.1) else None)
    twice true = refl
    twice false = refl

-- one more, by what is joined
pub alone-joined : (so_far : Option (ℕ × Bool)) (l only : ℕ × Bool) (ls : List (ℕ × Bool)) → joined_interest so_far l ≡ Some only → AreAlone so_far ls → AreAlone (Some only) (ls ++ l ∷ [])
alone-joined None l only ls e h =
    let d : l ≡ only = cc e in
    subst (λ k. IsOnly k (ls ++ l ∷ [])) d (subst (λ ks. IsOnly l (ks ++ l ∷ [])) (sym h) (alone-first l))
alone-joined (Some first) l only ls e h = elim (same_or first.0 l.0) [
  | same s t ↦
      let k = rw t at e in
      let d : (first.0, first.1 || l.1) ≡ only = cc k in
      subst (λ k. IsOnly k (ls ++ l ∷ [])) d (alone-more first l ls s h)
  | apart ne t ↦ let k = rw t at e in let d : ⊥ = cc k in absurd d
]

-- who is joined is there where the last is
pub joined-known : (so_far : Option (ℕ × Bool)) (l only : ℕ × Bool) → joined_interest so_far l ≡ Some only → (there : ℕ → Bool) → there l.0 ≡ true → there only.0 ≡ true
joined-known None l only e there h =
    let d : l ≡ only = cc e in
    subst (λ (k : ℕ × Bool). there k.0 ≡ true) d h
joined-known (Some first) l only e there h = elim (same_or first.0 l.0) [
  | same s t ↦
      let k = rw t at e in
      let d : (first.0, first.1 || l.1) ≡ only = cc k in
      subst (λ (k : ℕ × Bool). there k.0 ≡ true) d (subst (λ o. there o ≡ true) (sym s) h)
  | apart ne t ↦ let k = rw t at e in let d : ⊥ = cc k in absurd d
]

pub only-of : (only : Option (ℕ × Bool)) (ls : List (ℕ × Bool)) → AreAlone only ls → IfSome only (λ one. IsOnly one ls)
only-of None ls h = tt
only-of (Some one) ls h = h
