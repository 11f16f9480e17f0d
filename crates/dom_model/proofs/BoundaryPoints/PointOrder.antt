-- The order of points: of one node by their offsets, of a node and one above it by the child towards it; and what a map does to points of one node.
use Rattle.std.proofs.Common.{◌≡◌, ℕ, ◌+◌, ◌-◌, ◌*◌, ◌<◌, ◌==◌, nat_lt, nat_le, false, if◌then◌else◌, List, [], ◌∷◌, ◌++◌, refl, ap, ◌∙◌, arith, append_assoc, Option, Some, None, ◌≤◌, sym}
use Rattle.std.specs.{Ordering.nat_cmp, Ordering.ordering_then, declared.cmp.Ordering.Ordering, declared.cmp.Ordering.TheVariants.Less, declared.cmp.Ordering.TheVariants.Equal, declared.cmp.Ordering.TheVariants.Greater, Cmp.Lexicographic.slice_cmp}
use Rattle.std.proofs.lemmas.{Bool.lt-ltb, Bool.Decides.nat_tests, Bool.cases_Bool}
use Rattle.dom_model.specs.Definitions.{Forest, Point, Range, path_places, order_of, after_gap, moved_range, map_ranges}

pub nat_cmp-same : (n : ℕ) → nat_cmp n n ≡ Equal
nat_cmp-same n = grind (arith, nat_tests)

pub nat_cmp-less : (m n : ℕ) → m < n → nat_cmp m n ≡ Less
nat_cmp-less m n h = rw (lt-ltb m n h) refl

pub nat_cmp-greater : (m n : ℕ) → n < m → nat_cmp m n ≡ Greater
nat_cmp-greater m n h = grind (arith, nat_tests)

-- a change of numbers that keeps which is less keeps the order
pub nat_cmp-kept : (m n m' n' : ℕ) → (m < n → m' < n') → (n < m → n' < m') → (m ≡ n → m' ≡ n') → nat_cmp m' n' ≡ nat_cmp m n
nat_cmp-kept m n m' n' less greater equal = grind (arith, nat_tests)

pub slice_cmp-ahead : (zs xs ys : List ℕ) → slice_cmp nat_cmp (zs ++ xs) (zs ++ ys) ≡ slice_cmp nat_cmp xs ys
slice_cmp-ahead [] xs ys = refl
slice_cmp-ahead (z ∷ zs) xs ys = rw (nat_cmp-same z) (slice_cmp-ahead zs xs ys)

pub slice_cmp-one : (a b : ℕ) → slice_cmp nat_cmp (a ∷ []) (b ∷ []) ≡ nat_cmp a b
slice_cmp-one a b = go (nat_cmp a b)
  where
    go : (o : Ordering) → ordering_then o Equal ≡ o
    go Less = refl
    go Equal = refl
    go Greater = refl

module _ {X : Type 0} where
  -- points of one node stand as their offsets do
  pub order-one_node : (f : Forest X) (n a b : ℕ) → order_of f (record { node = n; offset = a }) (record { node = n; offset = b }) ≡ nat_cmp a b
  order-one_node f n a b =
      slice_cmp-ahead (path_places f n) (2 * a ∷ []) (2 * b ∷ [])
      ∙ slice_cmp-one (2 * a) (2 * b)
      ∙ nat_cmp-kept a b (2 * a) (2 * b) (λ lt. omega arith) (λ gt. omega arith) (λ e. ap (λ k. 2 * k) e)

  pub order-later : (f : Forest X) (n a b : ℕ) → a ≤ b → order_of f (record { node = n; offset = a }) (record { node = n; offset = b }) ≡ Greater → ⊥
  order-later f n a b h g = let e = sym (order-one_node f n a b) ∙ g in grind (arith, nat_tests)

  -- a point of a node above, at an offset past the child towards a point below, is after it; else before it
  pub order-above : (f : Forest X) (n m i a b : ℕ) (below : List ℕ) → path_places f m ≡ path_places f n ++ (2 * i + 1) ∷ below → order_of f (record { node = n; offset = a }) (record { node = m; offset = b }) ≡ (if nat_lt i a then Greater else Less)
  order-above f n m i a b below e =
      rw (e, append_assoc (path_places f n) ((2 * i + 1) ∷ below) ((2 * b) ∷ []), slice_cmp-ahead (path_places f n) (2 * a ∷ []) ((2 * i + 1) ∷ (below ++ (2 * b) ∷ [])))
      (grind (arith, nat_tests))

-- The maps on points: which node they leave a point in, and that they keep the order of the offsets of one node.

pub gap-node : (parent index count : ℕ) (p : Point) → (after_gap parent index count p).node ≡ p.node
gap-node parent index count p = grind (arith, cases_Bool)

pub gap-elsewhere : (parent index count : ℕ) (p : Point) → (p.node == parent) ≡ false → after_gap parent index count p ≡ p
gap-elsewhere parent index count p h = rw h refl

-- where an offset of a node goes as units take the place of others
abbrev pub spliced_offset : ℕ → ℕ → ℕ → ℕ → ℕ
spliced_offset offset count added a = if nat_lt offset a then (if nat_le a (offset + count) then offset else a - count + added) else a

-- two maps on the ends of live ranges, one after the other
pub map_ranges-twice : (g h : Point → Point) (ranges : List (Option Range)) → map_ranges g (map_ranges h ranges) ≡ map_ranges (λ q. g (h q)) ranges
map_ranges-twice g h [] = refl
map_ranges-twice g h (None ∷ ranges) = ap (λ rs. None ∷ rs) (map_ranges-twice g h ranges)
map_ranges-twice g h (Some r ∷ ranges) = ap (λ rs. Some (moved_range (λ q. g (h q)) r) ∷ rs) (map_ranges-twice g h ranges)
