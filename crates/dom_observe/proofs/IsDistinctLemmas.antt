-- Lists in which no registration comes again.
use Rattle.std.proofs.Common.{◌≡◌, ℕ, ◌≤◌, Bool, true, false, ◌||◌, if◌then◌else◌, ◌==◌, ◌+◌, List, [], ◌∷◌, filter_map, Option, None, Some, refl, ap, sym, ◌∙◌, arith}
use Rattle.std.specs.List.{AllByRecursion, IsDistinct, list_any, cons_option}
use Rattle.std.proofs.lemmas.Bool.{true≢false, or_parts}
use Rattle.dom_model.specs.Definitions.{hits, among, Registration}
use Rattle.dom_model.proofs.Forests.{Climbing.among-hits, Listed.hits-itself}
use Rattle.dom_model.proofs.PlainLists.Numbers.{same_or, same, apart}
use Rattle.dom_observe.specs.WithoutRepeats.{same_registration}
use Rattle.dom_observe.proofs.OnceLemmas.{same-is}

pub distinct-none : IsDistinct same_registration []
unfolding IsDistinct
distinct-none = tt

pub distinct-more : (r : Registration) (rs : List Registration) → AllByRecursion (λ s. same_registration r s ≡ false) rs → IsDistinct same_registration rs → IsDistinct same_registration (r ∷ rs)
unfolding IsDistinct
distinct-more r rs apart_all rest = (apart_all, rest)

pub distinct-first : (r : Registration) (rs : List Registration) → IsDistinct same_registration (r ∷ rs) → AllByRecursion (λ s. same_registration r s ≡ false) rs
unfolding IsDistinct
distinct-first r rs d = d.0

pub distinct-rest : (r : Registration) (rs : List Registration) → IsDistinct same_registration (r ∷ rs) → IsDistinct same_registration rs
unfolding IsDistinct
distinct-rest r rs d = d.1

pub all-none : (p : Registration → Bool) (rs : List Registration) → list_any p rs ≡ false → AllByRecursion (λ s. p s ≡ false) rs
all-none p [] h = tt
all-none p (r ∷ rs) h = let f = or_parts (p r) (list_any p rs) h in (f.0, all-none p rs f.1)

-- Keys, none of them twice, under no two of which the same stands.
module _ (u : ℕ → Option Registration) (one : (k j : ℕ) (r : Registration) → u k ≡ Some r → u j ≡ Some r → j ≡ k) where
  -- what is among those under the keys stands under one of them
  under-one : (r : Registration) (keys : List ℕ) → list_any (same_registration r) (filter_map u keys) ≡ true → (k : ℕ) × (among k keys ≡ true) × (u k ≡ Some r)
  under-one r [] h = absurd (true≢false (sym h))
  under-one r (j ∷ keys) h = go (u j) refl h (under-one r keys)
    where
      Under : List ℕ → Type 0
      Under ks = (k : ℕ) × (among k ks ≡ true) × (u k ≡ Some r)

      or_true : (b : Bool) → (if b then true else true) ≡ true
      or_true true = refl
      or_true false = refl

      further : Under keys → Under (j ∷ keys)
      further p = (p.0, ap (λ b. if j == p.0 then true else b) p.1 ∙ or_true (j == p.0), p.2)

      here : (j == j) ≡ true
      here = elim (same_or j j) [ same e t ↦ t | apart ne t ↦ absurd (ne refl) ]

      by : (s : Registration) → u j ≡ Some s → (b : Bool) → same_registration r s ≡ b → (b || list_any (same_registration r) (filter_map u keys)) ≡ true
          → (list_any (same_registration r) (filter_map u keys) ≡ true → Under keys) → Under (j ∷ keys)
      by s e true t g rest = (j, ap (λ b. if b then true else among j keys) here, e ∙ ap (λ q. Some q) (sym (same-is r s t)))
      by s e false t g rest = further (rest g)

      go : (o : Option Registration) → u j ≡ o → list_any (same_registration r) (cons_option o (filter_map u keys)) ≡ true
          → (list_any (same_registration r) (filter_map u keys) ≡ true → Under keys) → Under (j ∷ keys)
      go None e g rest = further (rest g)
      go (Some s) e g rest = by s e (same_registration r s) refl g rest

  pub distinct-keys : (keys : List ℕ) → ((k : ℕ) → hits k keys ≤ 1) → IsDistinct same_registration (filter_map u keys)
  distinct-keys [] once = distinct-none
  distinct-keys (j ∷ keys) once = go (u j) refl (distinct-keys keys fewer)
    where
      fewer : (k : ℕ) → hits k keys ≤ 1
      fewer k = by (j == k) (once k)
        where
          by : (b : Bool) → (if b then 1 else 0) + hits k keys ≤ 1 → hits k keys ≤ 1
          by true h = omega arith
          by false h = omega arith

      absent : (r : Registration) → u j ≡ Some r → (b : Bool) → list_any (same_registration r) (filter_map u keys) ≡ b → b ≡ false
      absent r e true t =
          let p = under-one r keys t in
          let k : p.0 ≡ j = one j p.0 r e p.2 in
          let more = among-hits j keys (ap (λ m. among m keys) (sym k) ∙ p.1) in
          let twice = hits-itself j keys in
          let most = once j in
          absurd (omega (arith, more, twice, most))
      absent r e false t = refl

      go : (o : Option Registration) → u j ≡ o → IsDistinct same_registration (filter_map u keys) → IsDistinct same_registration (cons_option o (filter_map u keys))
      go None e rest = rest
      go (Some r) e rest =
          let none = absent r e (list_any (same_registration r) (filter_map u keys)) refl in
          distinct-more r (filter_map u keys) (all-none (same_registration r) (filter_map u keys) none) rest
