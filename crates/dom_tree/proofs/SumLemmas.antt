-- Sums over the numbers below a bound, and over a list of numbers.
use Rattle.std.proofs.Common.{◌≡◌, ℕ, zero, suc, ◌+◌, ◌<◌, ◌≤◌, ◌==◌, if◌then◌else◌, List, [], ◌∷◌, refl, ap, sym, ◌∙◌, arith, ⊎_elim}
use Rattle.std.proofs.lemmas.Bool.{cases_lt}
use Rattle.dom_model.specs.Definitions.{hits, among, from_first}
use Rattle.dom_model.proofs.PlainLists.Numbers.{same_or, same, apart}
use Rattle.dom_tree.specs.NodeDocuments.{sum_below}

-- the sum over the numbers of a list
abbrev pub sum_over : (ℕ → ℕ) → List ℕ → ℕ
sum_over weight [] = 0
sum_over weight (x ∷ xs) = weight x + sum_over weight xs

pub below-same : (v w : ℕ → ℕ) (made : ℕ) → ((n : ℕ) → n < made → v n ≡ w n) → sum_below v made ≡ sum_below w made
below-same v w zero h = refl
below-same v w (suc n) h = let a = h n (omega arith) in let b = below-same v w n (λ m lt. h m (omega (arith, lt))) in omega arith

pub below-none : (w : ℕ → ℕ) (made : ℕ) → ((n : ℕ) → w n ≡ 0) → sum_below w made ≡ 0
below-none w zero h = refl
below-none w (suc n) h = let a = h n in let b = below-none w n h in omega arith

pub below-plus : (v w : ℕ → ℕ) (made : ℕ) → sum_below (λ n. v n + w n) made ≡ sum_below v made + sum_below w made
below-plus v w zero = refl
below-plus v w (suc n) = let b = below-plus v w n in omega arith

pub below-few : (w : ℕ → ℕ) (made : ℕ) → ((n : ℕ) → w n ≤ 1) → sum_below w made ≤ made
below-few w zero h = omega arith
below-few w (suc n) h = let a = h n in let b = below-few w n h in omega arith

pub below-part : (w : ℕ → ℕ) (made n : ℕ) → n < made → w n ≤ sum_below w made
below-part w zero n h = absurd (omega arith)
below-part w (suc m) n h =
    elim (same_or m n) [
      | same e t ↦ (let a : w m ≡ w n = ap w e in omega arith)
      | apart ne t ↦ (let b = below-part w m n (omega arith) in omega arith)
    ]

-- a sum that is not 0 has a part that is not
pub below-some : (w : ℕ → ℕ) (made : ℕ) → 0 < sum_below w made → (n : ℕ) × (0 < w n)
below-some w zero h = absurd (omega arith)
below-some w (suc n) h =
    ⊎_elim (λ (lt : 0 < w n). (n, lt)) (λ (le : w n ≤ 0). below-some w n (omega arith)) (cases_lt 0 (w n))

-- two weights that differ at one number
module _ (v w : ℕ → ℕ) (n : ℕ) (others : (m : ℕ) → (m ≡ n → ⊥) → v m ≡ w m) where
  pub below-past : (made : ℕ) → made ≤ n → sum_below v made ≡ sum_below w made
  below-past made h = below-same v w made (λ m lt. others m (λ e. omega (arith, lt)))

  pub below-but : (made : ℕ) → n < made → sum_below v made + w n ≡ sum_below w made + v n
  below-but zero h = absurd (omega arith)
  below-but (suc m) h =
      elim (same_or m n) [
        | same e t ↦ (let a : v m ≡ v n = ap v e in let b : w m ≡ w n = ap w e in let c = below-past m (omega arith) in omega arith)
        | apart ne t ↦ (let a = others m ne in let b = below-but m (omega arith) in omega arith)
      ]

-- sums of sums in either order
pub over-below : (weight : ℕ → ℕ → ℕ) (made : ℕ) (l : List ℕ) → sum_over (λ m. sum_below (λ n. weight n m) made) l ≡ sum_below (λ n. sum_over (weight n) l) made
over-below weight made [] = sym (below-none (λ _. 0) made (λ n. refl))
over-below weight made (x ∷ xs) =
    let a = over-below weight made xs in
    let b = below-plus (λ n. weight n x) (λ n. sum_over (weight n) xs) made in
    omega arith

pub over-same : (v w : ℕ → ℕ) (l : List ℕ) → ((n : ℕ) → 0 < hits n l → v n ≡ w n) → sum_over v l ≡ sum_over w l
over-same v w [] h = refl
over-same v w (x ∷ xs) h =
    let a = h x (elim (same_or x x) [ same _ t ↦ rw t (omega arith) | apart ne t ↦ absurd (ne refl) ]) in
    let b = over-same v w xs (λ n lt. h n (omega (arith, lt))) in
    omega arith

pub over-none : (w : ℕ → ℕ) (l : List ℕ) → ((n : ℕ) → 0 < hits n l → w n ≡ 0) → sum_over w l ≡ 0
over-none w [] h = refl
over-none w (x ∷ xs) h =
    let a = h x (elim (same_or x x) [ same _ t ↦ rw t (omega arith) | apart ne t ↦ absurd (ne refl) ]) in
    let b = over-none w xs (λ n lt. h n (omega (arith, lt))) in
    omega arith

-- a number that stands in a list at most once, weighed there
pub over-one : (n weight : ℕ) (l : List ℕ) → hits n l ≤ 1 → sum_over (λ m. if n == m then weight else 0) l ≡ (if among n l then weight else 0)
over-one n weight [] h = refl
over-one n weight (x ∷ xs) h =
    elim (same_or x n) [
      | same e t ↦
          elim (same_or n x) [
            | same _ u ↦
                let k = rw t at h in
                let b = over-one n weight xs (omega arith) in
                let z = over-none (λ m. if n == m then weight else 0) xs (λ m lt. elim (same_or n m) [ same d _ ↦ absurd (let q = ap (λ i. hits i xs) d in omega (arith, lt, q, k)) | apart _ v ↦ rw v refl ]) in
                rw (t, u) (omega arith)
            | apart ne u ↦ absurd (ne (sym e))
          ]
      | apart ne t ↦
          elim (same_or n x) [
            | same e u ↦ absurd (ne (sym e))
            | apart _ u ↦ (let k = rw t at h in let b = over-one n weight xs (omega arith) in rw (t, u) (omega (arith, b)))
          ]
    ]

-- a part of the sum from a number on
pub over-part : (w : ℕ → ℕ) (n : ℕ) (l : List ℕ) → 0 < hits n l → w n ≤ sum_over w (from_first n l)
over-part w n [] h = absurd (omega arith)
over-part w n (x ∷ xs) h =
    elim (same_or x n) [
      | same e t ↦ rw t (let a : w x ≡ w n = ap w e in omega arith)
      | apart ne t ↦ rw t (let k = rw t at h in over-part w n xs (omega arith))
    ]

-- the numbers of a list, each once and below the bound, weighed among all below the bound
pub over-among : (w : ℕ → ℕ) (made : ℕ) (l : List ℕ) → ((n : ℕ) → hits n l ≤ 1) → ((n : ℕ) → 0 < hits n l → n < made) → sum_over w l ≡ sum_below (λ n. if among n l then w n else 0) made
over-among w made l once small =
    over-same w (λ m. sum_below (λ n. if n == m then w n else 0) made) l (λ m h. sym (alone m (small m h)))
    ∙ over-below (λ n m. if n == m then w n else 0) made l
    ∙ below-same (λ n. sum_over (λ m. if n == m then w n else 0) l) (λ n. if among n l then w n else 0) made (λ n lt. over-one n (w n) l (once n))
  where
    alone : (m : ℕ) → m < made → sum_below (λ n. if n == m then w n else 0) made ≡ w m
    alone m lt =
        let a = below-but (λ n. if n == m then w n else 0) (λ _. 0) m (λ n ne. elim (same_or n m) [ same e _ ↦ absurd (ne e) | apart _ t ↦ rw t refl ]) made lt in
        let b = below-none (λ _. 0) made (λ n. refl) in
        elim (same_or m m) [ same _ t ↦ (let c = rw t at a in omega arith) | apart ne _ ↦ absurd (ne refl) ]
