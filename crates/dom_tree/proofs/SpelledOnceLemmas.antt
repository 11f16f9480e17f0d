-- Entries spell one forest at most: the one that grows from them.
use Rattle.std.proofs.Common.{◌≡◌, ℕ, zero, suc, ◌+◌, ◌*◌, ◌<◌, ◌≤◌, List, Option, Some, None, refl, ap, sym, ◌∙◌, arith, ⊎_elim}
use Rattle.std.proofs.lemmas.Bool.{cases_lt}
use Rattle.dom_model.specs.Definitions.{hits, Entry, held, Node, Forest, empty, node, occurs, one_at, size, tops, entry_in, IsRising, Lies}
use Rattle.dom_tree.specs.SpelledForest.{Spells, grown, root_first, root_under, roots_from, forest_of}
use Rattle.dom_model.proofs.PlainLists.{Numbers.same_or, Numbers.same, Numbers.apart, Rising.hits-low, Rising.rising_same}
use Rattle.dom_model.proofs.Forests.{Tops.IsRising-from, Tops.hits-tops, Rooted.rootless, Rooted.rooted, Rooted.rooted-tops, Entries.entry_in-Lies}
use Rattle.dom_tree.proofs.SpellsLemmas.{held_at_most}

hits-root_under : (n low : ℕ) (p : Option ℕ) (ns : List ℕ) → hits n (root_under p low ns) ≡ rootless p * one_at n low + hits n ns
hits-root_under n low None ns = omega arith
hits-root_under n low (Some p) ns = omega arith

module _ {X : Type 0} where
  pub roots_from-rising : (at : (ℕ → Option (Entry (Node X)))) (low count : ℕ) → IsRising low (roots_from low count at)
  roots_from-rising at low zero = tt
  roots_from-rising at low (suc count) = first (at low) (roots_from-rising at (suc low) count)
    where
      under : (p : Option ℕ) → IsRising (suc low) (roots_from (suc low) count at) → IsRising low (root_under p low (roots_from (suc low) count at))
      under None r = (omega arith, r)
      under (Some p) r = IsRising-from (suc low) low _ (omega arith) r

      first : (o : Option (Entry (Node X))) → IsRising (suc low) (roots_from (suc low) count at) → IsRising low (root_first o low (roots_from (suc low) count at))
      first None r = IsRising-from (suc low) low _ (omega arith) r
      first (Some e) r = under e.parent r

  hits-root_first : (n low : ℕ) (o : Option (Entry (Node X))) (ns : List ℕ) → hits n (root_first o low ns) ≡ rooted o * one_at n low + hits n ns
  hits-root_first n low None ns = omega arith
  hits-root_first n low (Some e) ns = hits-root_under n low e.parent ns

  pub hits-roots_from : (at : (ℕ → Option (Entry (Node X)))) (n low count : ℕ) → low ≤ n → n < low + count → hits n (roots_from low count at) ≡ rooted (at n)
  hits-roots_from at n low zero h k = absurd (omega arith)
  hits-roots_from at n low (suc count) h k =
      let s = hits-root_first n low (at low) (roots_from (suc low) count at) in
      elim (same_or low n) [
        | same e t ↦
            let z = hits-low (suc low) n (roots_from (suc low) count at) (roots_from-rising at (suc low) count) (omega arith) in
            let s2 = rw t at s in
            let s3 : hits n (root_first (at low) low (roots_from (suc low) count at)) ≡ rooted (at low) = omega (arith, s2, z) in
            s3 ∙ ap (λ m. rooted (at m)) e
        | apart ne t ↦
            let s2 = rw t at s in
            omega (arith, s2, hits-roots_from at n (suc low) count (omega arith) (omega arith))
      ]

  pub hits-roots_past : (at : (ℕ → Option (Entry (Node X)))) (n low count : ℕ) → low + count ≤ n → hits n (roots_from low count at) ≡ 0
  hits-roots_past at n low zero h = refl
  hits-roots_past at n low (suc count) h =
      let s = hits-root_first n low (at low) (roots_from (suc low) count at) in
      elim (same_or low n) [
        | same e t ↦ absurd (omega arith)
        | apart ne t ↦
            let s2 = rw t at s in
            omega (arith, s2, hits-roots_past at n (suc low) count (omega arith))
      ]

  pub held-none : (o : Option (Entry (Node X))) → held o ≡ 0 → o ≡ None
  held-none None h = refl
  held-none (Some e) h = absurd (omega arith)

  pub roots_from-Spells : (made : ℕ) (at : (ℕ → Option (Entry (Node X)))) (f : Forest X) → Spells made at f → roots_from 0 made at ≡ tops f
  roots_from-Spells made at f s =
      rising_same 0 (roots_from 0 made at) (tops f) (roots_from-rising at 0 made) s.rising alike
    where
      counted : (n : ℕ) → hits n (tops f) ≡ rooted (at n)
      counted n =
          ⊎_elim
          (λ (lt : 0 < occurs n f). rooted-tops at f n s.placed (omega (arith, s.counted n, held_at_most (at n))) lt)
          (λ (le : occurs n f ≤ 0).
          let z : at n ≡ None = held-none (at n) (omega (arith, s.counted n)) in
          rw z (omega (arith, hits-tops n f)))
          (cases_lt 0 (occurs n f))

      alike : (n : ℕ) → hits n (roots_from 0 made at) ≡ hits n (tops f)
      alike n =
          ⊎_elim
          (λ (lt : n < made). hits-roots_from at n 0 made (omega arith) (omega arith) ∙ sym (counted n))
          (λ (le : made ≤ n). hits-roots_past at n 0 made (omega arith) ∙ sym (counted n ∙ ap rooted (held-none (at n) (s.below n le))))
          (cases_lt n made)

  pub grown-Lies : (fuel : ℕ) (at : (ℕ → Option (Entry (Node X)))) (q : Option ℕ) (f : Forest X) → size f < fuel → Lies at q f → grown fuel at (tops f) ≡ f
  grown-Lies zero at q f h l = absurd (omega arith)
  grown-Lies (suc fuel) at q empty h l = refl
  grown-Lies (suc fuel) at q (node x kids rest) h l =
      let a = grown-Lies fuel at (Some x.number) kids (omega arith) l.1 in
      let b = grown-Lies (suc fuel) at q rest (omega arith) l.2 in
      rw (l.0, a, b) refl

  pub forest_of-Spells : (made : ℕ) (at : (ℕ → Option (Entry (Node X)))) (f : Forest X) → Spells made at f → forest_of made at ≡ f
  forest_of-Spells made at f s =
      rw (roots_from-Spells made at f s) (grown-Lies (suc made) at None f (let k = s.fits in omega arith) s.placed)

  pub entry_in-Spells : (made : ℕ) (at : (ℕ → Option (Entry (Node X)))) (f : Forest X) → Spells made at f → (n : ℕ) → entry_in f n ≡ at n
  entry_in-Spells made at f s n = entry_in-Lies at f s.placed s.counted n
