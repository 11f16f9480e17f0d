-- Ancestors, step by step.
use Rattle.std.proofs.Common.{◌≡◌, ℕ, ◌+◌, ◌<◌, ◌≤◌, true, false, List, [], ◌∷◌, ◌++◌, reverse, Option, Some, None, refl, ap, sym, ◌∙◌, subst, arith, ⊎_elim}
use Rattle.std.proofs.lemmas.{List.reverse-append, Bool.cases_lt, Bool.false≢true, Bool.Decides.nat_tests}
use Rattle.dom_model.specs.Definitions.{hits, among, Entry, parent_in, Node, Forest, empty, node, occurs, one_at, tree_at, ancestors, Lies}
use Rattle.dom_model.proofs.PlainLists.Numbers.{same_or, same, apart}
use Rattle.dom_model.proofs.Forests.Totals.{total-beside, total-tree_at, tree_at-absent}

-- how n stands in f, below `above`: on top, or under another node of f
pub data Climb {X : Type 0} (above : Option ℕ) (parent : Option ℕ) (n : ℕ) (f : Forest X) : Type 0 where
  on_top : parent ≡ above → ancestors n f ≡ n ∷ [] → Climb above parent n f
  under : (q : ℕ) → parent ≡ Some q → 0 < occurs q f → ancestors n f ≡ n ∷ ancestors q f → Climb above parent n f

pub hits-append : (n : ℕ) (xs ys : List ℕ) → hits n (xs ++ ys) ≡ hits n xs + hits n ys
hits-append n [] ys = omega arith
hits-append n (x ∷ xs) ys = omega (arith, hits-append n xs ys)

pub hits-reverse : (n : ℕ) (xs : List ℕ) → hits n (reverse xs) ≡ hits n xs
hits-reverse n [] = refl
hits-reverse n (x ∷ xs) = grind (arith, reverse-append (x ∷ []) xs, hits-append n (reverse xs) (x ∷ []), hits-reverse n xs)

pub hits-first : (n : ℕ) (ns : List ℕ) → 0 < hits n (n ∷ ns)
hits-first n ns = elim (same_or n n) [ same e t ↦ rw t (omega arith) | apart ne t ↦ absurd (ne refl) ]

pub among-hits : (n : ℕ) (xs : List ℕ) → among n xs ≡ true → 0 < hits n xs
among-hits n [] h = absurd (false≢true h)
among-hits n (x ∷ xs) h = grind (arith, among-hits n xs)

pub hits-among : (n : ℕ) (xs : List ℕ) → 0 < hits n xs → among n xs ≡ true
hits-among n [] h = absurd (omega arith)
hits-among n (x ∷ xs) h = grind (arith, hits-among n xs)

pub not_among-hits : (n : ℕ) (xs : List ℕ) → among n xs ≡ false → hits n xs ≡ 0
not_among-hits n [] h = refl
not_among-hits n (x ∷ xs) h = grind (arith, not_among-hits n xs)

pub hits-not_among : (n : ℕ) (xs : List ℕ) → hits n xs ≡ 0 → among n xs ≡ false
hits-not_among n [] h = refl
hits-not_among n (x ∷ xs) h = grind (arith, hits-not_among n xs)

module _ {X : Type 0} where
  pub ancestors-absent : (n : ℕ) (f : Forest X) → occurs n f ≡ 0 → ancestors n f ≡ []
  ancestors-absent n empty h = refl
  ancestors-absent n (node x kids rest) h = grind (arith, ancestors-absent n kids, ancestors-absent n rest)

  -- the ancestors in a forest of a number in its first children, or in the rest
  pub ancestors-kids : (n m : ℕ) (ms : List ℕ) (x : Node X) (kids rest : Forest X) → (x.number ≡ n → ⊥) → ancestors n kids ≡ m ∷ ms → ancestors n (node x kids rest) ≡ m ∷ (ms ++ x.number ∷ [])
  ancestors-kids n m ms x kids rest ne h = grind arith

  pub ancestors-rest : (n : ℕ) (x : Node X) (kids rest : Forest X) → (x.number ≡ n → ⊥) → occurs n kids ≡ 0 → ancestors n (node x kids rest) ≡ ancestors n rest
  ancestors-rest n x kids rest ne h = grind (arith, ancestors-absent n kids h)

  pub ancestors-first : (x : Node X) (kids rest : Forest X) → ancestors x.number (node x kids rest) ≡ x.number ∷ []
  ancestors-first x kids rest = grind arith

  pub ancestors-there : (n : ℕ) (f : Forest X) → 0 < occurs n f → (ms : List ℕ) × (ancestors n f ≡ n ∷ ms)
  ancestors-there n empty h = absurd (omega arith)
  ancestors-there n (node x kids rest) h =
      elim (same_or x.number n) [
        | same e t ↦ ([], rw t refl)
        | apart ne t ↦
            let k = rw t at h in
            ⊎_elim
            (λ (lt : 0 < occurs n kids). let i = ancestors-there n kids lt in (i.0 ++ x.number ∷ [], ancestors-kids n n i.0 x kids rest ne i.1))
            (λ (le : occurs n kids ≤ 0).
            let z : occurs n kids ≡ 0 = omega arith in
            let i = ancestors-there n rest (omega arith) in
            (i.0, ancestors-rest n x kids rest ne z ∙ i.1))
            (cases_lt 0 (occurs n kids))
      ]

  pub climb : (at : (ℕ → Option (Entry (Node X)))) (above : Option ℕ) (n : ℕ) (f : Forest X) → ((m : ℕ) → occurs m f ≤ 1) → Lies at above f → 0 < occurs n f → Climb above (parent_in (at n)) n f
  climb at above n empty o l h = absurd (omega arith)
  climb at above n (node x kids rest) o l h =
      elim (same_or x.number n) [
        | same e t ↦
            on_top (subst (λ m. parent_in (at m) ≡ above) e (rw l.0 refl)) (rw t refl)
        | apart ne t ↦
            let k = rw t at h in
            ⊎_elim
            (λ (lt : 0 < occurs n kids). from_kids ne (climb at (Some x.number) n kids (λ m. let i = o m in omega arith) l.1 lt))
            (λ (le : occurs n kids ≤ 0). from_rest ne (omega arith) (climb at above n rest (λ m. let i = o m in omega arith) l.2 (omega arith)))
            (cases_lt 0 (occurs n kids))
      ]
    where
      from_kids : (x.number ≡ n → ⊥) → Climb (Some x.number) (parent_in (at n)) n kids → Climb above (parent_in (at n)) n (node x kids rest)
      from_kids ne (on_top e a) =
          under x.number e (grind (arith, nat_tests)) (ancestors-kids n n [] x kids rest ne a ∙ ap (λ ms. n ∷ ms) (sym (ancestors-first x kids rest)))
      from_kids ne (under q e oq a) =
          let i = ancestors-there q kids oq in
          let far : x.number ≡ q → ⊥ = λ d. let w = o q in grind (arith, nat_tests) in
          under q e (omega arith) (ancestors-kids n n (ancestors q kids) x kids rest ne a ∙ ap (λ ms. n ∷ ms) (ap (λ ms. ms ++ x.number ∷ []) i.1 ∙ sym (ancestors-kids q q i.0 x kids rest far i.1)))

      from_rest : (x.number ≡ n → ⊥) → occurs n kids ≡ 0 → Climb above (parent_in (at n)) n rest → Climb above (parent_in (at n)) n (node x kids rest)
      from_rest ne z (on_top e a) = on_top e (ancestors-rest n x kids rest ne z ∙ a)
      from_rest ne z (under q e oq a) =
          let far : x.number ≡ q → ⊥ = λ d. let w = o q in grind (arith, nat_tests) in
          let zq : occurs q kids ≡ 0 = let w = o q in omega arith in
          under q e (omega arith) (ancestors-rest n x kids rest ne z ∙ a ∙ ap (λ ms. n ∷ ms) (sym (ancestors-rest q x kids rest far zq)))

  -- a number has c among its ancestors where it stands in the tree of c
  pub hits-ancestors : (c n : ℕ) (f : Forest X) → ((m : ℕ) → occurs m f ≤ 1) → hits c (ancestors n f) ≡ occurs n (tree_at c f)
  hits-ancestors c n empty o = refl
  hits-ancestors c n (node x kids rest) o =
      let on = o n in
      let oc = o c in
      let tk = total-tree_at (one_at n) c kids in
      let tr = total-tree_at (one_at n) c rest in
      let ik = hits-ancestors c n kids (λ m. let i = o m in omega arith) in
      let ir = hits-ancestors c n rest (λ m. let i = o m in omega arith) in
      let both = total-beside (one_at n) (tree_at c kids) (tree_at c rest) in
      elim (same_or x.number n) [
        | same e t ↦ grind (arith, nat_tests, on, tk, tr, both)
        | apart ne t ↦
            ⊎_elim
            (λ (lt : 0 < occurs n kids).
            let i = ancestors-there n kids lt in
            let a : ancestors n (node x kids rest) ≡ ancestors n kids ++ x.number ∷ [] = ancestors-kids n n i.0 x kids rest ne i.1 ∙ ap (λ ms. ms ++ x.number ∷ []) (sym i.1) in
            rw (a, hits-append c (ancestors n kids) (x.number ∷ []), ik) (grind (arith, nat_tests, oc, tree_at-absent c kids, both)))
            (λ (le : occurs n kids ≤ 0). rw (ancestors-rest n x kids rest ne (omega arith), ir) (grind (arith, nat_tests, both)))
            (cases_lt 0 (occurs n kids))
      ]

  pub hits-self : (n c : ℕ) (f : Forest X) → n ≡ c → 0 < occurs n f → 0 < hits c (ancestors n f)
  hits-self n c f e h = grind (arith, ancestors-there n f h)

  pub climbs : (at : (ℕ → Option (Entry (Node X)))) (n q : ℕ) (f : Forest X) → ((m : ℕ) → occurs m f ≤ 1) → Lies at None f → 0 < occurs n f → parent_in (at n) ≡ Some q → (0 < occurs q f) × (ancestors n f ≡ n ∷ ancestors q f)
  climbs at n q f o l h p = from (climb at None n f o l h)
    where
      from : Climb None (parent_in (at n)) n f → (0 < occurs q f) × (ancestors n f ≡ n ∷ ancestors q f)
      from (on_top e a) = absurd (let d : Some q ≡ None = sym p ∙ e in cc d)
      from (under r e or a) =
          let d : Some q ≡ Some r = sym p ∙ e in
          let i : r ≡ q = cc d in
          (subst (λ m. 0 < occurs m f) i or, subst (λ m. ancestors n f ≡ n ∷ ancestors m f) i a)

  pub climbs-root : (at : (ℕ → Option (Entry (Node X)))) (n : ℕ) (f : Forest X) → ((m : ℕ) → occurs m f ≤ 1) → Lies at None f → 0 < occurs n f → parent_in (at n) ≡ None → ancestors n f ≡ n ∷ []
  climbs-root at n f o l h p = grind (arith, climb at None n f o l h)
