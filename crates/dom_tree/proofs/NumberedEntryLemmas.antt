-- Entries by number, through a table from numbers to slots.
use Rattle.std.proofs.Common.{◌≡◌, ℕ, ◌<◌, ◌==◌, map, Option, Some, None, option_map, IsSome, refl, ap, sym, ◌∙◌, arith}
use Rattle.std.proofs.lemmas.Bool.{ne_eqb, eq-eqb}
use Rattle.dom_model.specs.Definitions.{hits, place_in, Entry, held, names, parent_in, children_in, siblings_in, list_under, next_in, previous_in, IsLinked, Node}
use Rattle.dom_tree.specs.SpelledForest.{number_in_slot, renumbered, entry_in_slot, by_number, IsTabled}
use Rattle.dom_model.proofs.PlainLists.{Numbers.same_or, Numbers.same, Numbers.apart, Mapped.after-map, Mapped.before_from-map, Mapped.place_in-map}
use Rattle.dom_model.proofs.Forests.Changes.{seen, nothing, just}

module _ {X : Type 0} where
  pub held-some : (o : Option (Entry (Node X))) → 0 < held o → IsSome o
  held-some None h = absurd (omega arith)
  held-some (Some e) h = refl

  -- a child is held, and so is a parent
  pub child-held : (at : (ℕ → Option (Entry (Node X)))) → IsLinked at → (s c : ℕ) → 0 < hits c (children_in (at s)) → IsSome (at c)
  child-held at l s c h =
      elim (seen (at c)) [
        | nothing e ↦
            let k : hits c (children_in (at s)) ≡ names (parent_in (at c)) s = l s c in
            absurd (let k2 = rw e at k in omega arith)
        | just a e ↦ rw e refl
      ]

  pub parent-held : (at : (ℕ → Option (Entry (Node X)))) → IsLinked at → (s p : ℕ) → parent_in (at s) ≡ Some p → IsSome (at p)
  parent-held at l s p h =
      elim (seen (at p)) [
        | nothing e ↦
            let k : hits s (children_in (at p)) ≡ names (parent_in (at s)) p = l p s in
            let k2 = rw (e, h) at k in
            absurd (elim (same_or p p) [ same d t ↦ (let k3 = rw t at k2 in omega arith) | apart ne t ↦ ne refl ])
        | just a e ↦ rw e refl
      ]

  pub sibling-held : (at : (ℕ → Option (Entry (Node X)))) → IsLinked at → (s c : ℕ) → 0 < hits c (siblings_in at s) → IsSome (at c)
  sibling-held at l s c h = under (parent_in (at s)) h
    where
      under : (p : Option ℕ) → 0 < hits c (list_under at p) → IsSome (at c)
      under None k = absurd (omega arith)
      under (Some p) k = child-held at l p c k

  -- two held slots of one number are one
  pub one_slot : (at : (ℕ → Option (Entry (Node X)))) (sl : ℕ → Option ℕ) → IsTabled at sl → (x y : ℕ) → IsSome (at x) → IsSome (at y) → number_in_slot at x ≡ number_in_slot at y → x ≡ y
  one_slot at sl t x y hx hy e =
      let a : sl (number_in_slot at x) ≡ Some x = t.listed x hx in
      let b : sl (number_in_slot at y) ≡ Some y = t.listed y hy in
      let c : Some x ≡ Some y = sym a ∙ ap sl e ∙ b in
      cc c

  pub same_test : (at : (ℕ → Option (Entry (Node X)))) (sl : ℕ → Option ℕ) → IsTabled at sl → (x y : ℕ) → IsSome (at x) → IsSome (at y) → (number_in_slot at x == number_in_slot at y) ≡ (x == y)
  same_test at sl t x y hx hy =
      elim (same_or x y) [
        | same e v ↦ eq-eqb (number_in_slot at x) (number_in_slot at y) (ap (number_in_slot at) e) ∙ sym v
        | apart ne v ↦ ne_eqb (number_in_slot at x) (number_in_slot at y) (λ d. ne (one_slot at sl t x y hx hy d)) ∙ sym v
      ]

  pub slot-there : (at : (ℕ → Option (Entry (Node X)))) (sl : ℕ → Option ℕ) (n : ℕ) → IsSome (by_number at sl n) → IsSome (sl n)
  slot-there at sl n h = there (sl n) h
    where
      there : (o : Option ℕ) → IsSome (entry_in_slot at o) → IsSome o
      there None k = k
      there (Some s) k = refl

  pub by_number-slot : (at : (ℕ → Option (Entry (Node X)))) (sl : ℕ → Option ℕ) (n s : ℕ) → sl n ≡ Some s → by_number at sl n ≡ option_map (renumbered at) (at s)
  by_number-slot at sl n s e = rw e refl

  pub parent_in-map : (at : (ℕ → Option (Entry (Node X)))) (o : Option (Entry (Node X))) → parent_in (option_map (renumbered at) o) ≡ option_map (number_in_slot at) (parent_in o)
  parent_in-map at None = refl
  parent_in-map at (Some e) = refl

  pub children_in-map : (at : (ℕ → Option (Entry (Node X)))) (o : Option (Entry (Node X))) → children_in (option_map (renumbered at) o) ≡ map (number_in_slot at) (children_in o)
  children_in-map at None = refl
  children_in-map at (Some e) = refl

  pub siblings_in-map : (at : (ℕ → Option (Entry (Node X)))) (sl : ℕ → Option ℕ) → IsTabled at sl → IsLinked at → (n s : ℕ) → sl n ≡ Some s → siblings_in (by_number at sl) n ≡ map (number_in_slot at) (siblings_in at s)
  siblings_in-map at sl t l n s e =
      rw (by_number-slot at sl n s e, parent_in-map at (at s)) (under (parent_in (at s)) (λ p h. parent-held at l s p h))
    where
      under : (o : Option ℕ) → ((p : ℕ) → o ≡ Some p → IsSome (at p)) → list_under (by_number at sl) (option_map (number_in_slot at) o) ≡ map (number_in_slot at) (list_under at o)
      under None h = refl
      under (Some p) h = ap children_in (by_number-slot at sl (number_in_slot at p) p (t.listed p (h p refl))) ∙ children_in-map at (at p)

  pub next_in-map : (at : (ℕ → Option (Entry (Node X)))) (sl : ℕ → Option ℕ) → IsTabled at sl → IsLinked at → (n s : ℕ) → sl n ≡ Some s → next_in (by_number at sl) n ≡ option_map (number_in_slot at) (next_in at s)
  next_in-map at sl t l n s e =
      let d = t.named n s e in
      let k = after-map (number_in_slot at) s (siblings_in at s) (λ x h. same_test at sl t x s (sibling-held at l s x h) d.0) in
      let k2 = rw d.1 at k in
      rw (siblings_in-map at sl t l n s e) k2

  pub previous_in-map : (at : (ℕ → Option (Entry (Node X)))) (sl : ℕ → Option ℕ) → IsTabled at sl → IsLinked at → (n s : ℕ) → sl n ≡ Some s → previous_in (by_number at sl) n ≡ option_map (number_in_slot at) (previous_in at s)
  previous_in-map at sl t l n s e =
      let d = t.named n s e in
      let k = before_from-map (number_in_slot at) s None (siblings_in at s) (λ x h. same_test at sl t x s (sibling-held at l s x h) d.0) in
      let k2 = rw d.1 at k in
      rw (siblings_in-map at sl t l n s e) k2

  pub place_in-slot : (at : (ℕ → Option (Entry (Node X)))) (sl : ℕ → Option ℕ) → IsTabled at sl → IsLinked at → (n s : ℕ) → sl n ≡ Some s → place_in n (siblings_in (by_number at sl) n) ≡ place_in s (siblings_in at s)
  place_in-slot at sl t l n s e =
      let d = t.named n s e in
      let k = place_in-map (number_in_slot at) s (siblings_in at s) (λ x h. same_test at sl t x s (sibling-held at l s x h) d.0) in
      let k2 = rw d.1 at k in
      rw (siblings_in-map at sl t l n s e) k2
