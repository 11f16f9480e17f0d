-- What holds of a forest with a number's tree is shown along the way to that tree: at its top, and under or behind each node on the way.
use Rattle.std.proofs.Common.{◌≡◌, ℕ, ◌<◌, ◌≤◌, ◌==◌, true, false, sym, ◌∙◌, arith, inl, inr}
use Rattle.std.proofs.lemmas.Bool.{cases_lt}
use Rattle.dom_model.specs.Definitions.{Node, Forest, empty, node, occurs, tree_at}
use Rattle.dom_model.proofs.PlainLists.Numbers.{same_or, same, apart}
use Rattle.dom_model.proofs.Forests.Totals.{tree_at-absent, beside-empty}

module _ {X : Type 0} (n : ℕ) where
  -- the number's tree is the t of the whole forest, in each part on the way
  pub along : (t : Forest X) (P : Forest X → Type 0)
      → ((x : Node X) (kids rest : Forest X) → ((m : ℕ) → occurs m (node x kids rest) ≤ 1) → x.number ≡ n → (x.number == n) ≡ true → occurs n kids ≡ 0 → occurs n rest ≡ 0 → node x kids empty ≡ t → P (node x kids rest))
      → ((x : Node X) (kids rest : Forest X) → ((m : ℕ) → occurs m (node x kids rest) ≤ 1) → (x.number == n) ≡ false → 0 < occurs n kids → occurs n rest ≡ 0 → tree_at n kids ≡ t → P kids → P (node x kids rest))
      → ((x : Node X) (kids rest : Forest X) → ((m : ℕ) → occurs m (node x kids rest) ≤ 1) → (x.number == n) ≡ false → occurs n kids ≡ 0 → tree_at n rest ≡ t → P rest → P (node x kids rest))
      → (f : Forest X) → ((m : ℕ) → occurs m f ≤ 1) → 0 < occurs n f → tree_at n f ≡ t → P f
  along t P here under later empty o h e = absurd (omega arith)
  along t P here under later (node x kids rest) o h e =
      let c = o n in
      elim (same_or x.number n) [
        | same d v ↦
            let c2 = rw v at c in
            let z : occurs n rest ≡ 0 = omega arith in
            here x kids rest o d v (omega arith) z (rw (v, tree_at-absent n rest z) at e)
        | apart ne v ↦
            let h2 = rw v at h in
            elim (cases_lt 0 (occurs n kids)) [
              | inl lt ↦
                  let z : occurs n rest ≡ 0 = omega arith in
                  let e2 = rw (v, tree_at-absent n rest z, beside-empty (tree_at n kids)) at e in
                  under x kids rest o v lt z e2 (along t P here under later kids (λ m. let k = o m in omega arith) lt e2)
              | inr le ↦
                  let z : occurs n kids ≡ 0 = omega arith in
                  let e2 = rw (v, tree_at-absent n kids z) at e in
                  later x kids rest o v z e2 (along t P here under later rest (λ m. let k = o m in omega arith) (omega arith) e2)
            ]
      ]

  tree-there : (f : Forest X) (y : Node X) (ys : Forest X) → tree_at n f ≡ node y ys empty → 0 < occurs n f
  tree-there f y ys e =
      elim (cases_lt 0 (occurs n f)) [
        | inl lt ↦ lt
        | inr le ↦ absurd (let k : empty ≡ node y ys empty = sym (tree_at-absent n f (omega arith)) ∙ e in cc k)
      ]

  -- where the tree's top and its children are named
  pub to_tree : (y : Node X) (ys : Forest X) (P : Forest X → Type 0)
      → ((rest : Forest X) → ((m : ℕ) → occurs m (node y ys rest) ≤ 1) → y.number ≡ n → (y.number == n) ≡ true → occurs n ys ≡ 0 → occurs n rest ≡ 0 → P (node y ys rest))
      → ((x : Node X) (kids rest : Forest X) → ((m : ℕ) → occurs m (node x kids rest) ≤ 1) → (x.number == n) ≡ false → 0 < occurs n kids → occurs n rest ≡ 0 → tree_at n kids ≡ node y ys empty → P kids → P (node x kids rest))
      → ((x : Node X) (kids rest : Forest X) → ((m : ℕ) → occurs m (node x kids rest) ≤ 1) → (x.number == n) ≡ false → occurs n kids ≡ 0 → tree_at n rest ≡ node y ys empty → P rest → P (node x kids rest))
      → (f : Forest X) → ((m : ℕ) → occurs m f ≤ 1) → tree_at n f ≡ node y ys empty → P f
  to_tree y ys P here under later f o e = along (node y ys empty) P top under later f o (tree-there f y ys e) e
    where
      top : (x : Node X) (kids rest : Forest X) → ((m : ℕ) → occurs m (node x kids rest) ≤ 1) → x.number ≡ n → (x.number == n) ≡ true → occurs n kids ≡ 0 → occurs n rest ≡ 0 → node x kids empty ≡ node y ys empty → P (node x kids rest)
      top x kids rest o d v k z s =
          let sx : x ≡ y = cc s in
          let sk : kids ≡ ys = cc s in
          rw (sx, sk) (here rest (rw (← sx, ← sk) o) (rw (← sx) d) (rw (← sx) v) (rw (← sk) k) z)
