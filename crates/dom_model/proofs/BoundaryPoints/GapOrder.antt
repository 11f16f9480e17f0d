-- A put with the gap that it makes keeps the order of the points of each root.
use Rattle.std.proofs.Common.{◌≡◌, ℕ, ◌+◌, ◌<◌, ◌≤◌, ◌==◌, nat_lt, nat_le, Bool, false, if◌then◌else◌, reverse, drop, Option, Some, None, ap, sym, ◌∙◌, subst, arith, append-nil}
use Rattle.std.specs.{Ordering.nat_cmp, Cmp.Lexicographic.slice_cmp}
use Rattle.std.proofs.lemmas.{Bool.cases_Bool, Bool.Decides.nat_tests}
use Rattle.dom_model.specs.Definitions.{among, Forest, occurs, tree_at, put, parent_of, children_of, index_of, ancestors, root_of, Point, place_of, order_of, after_gap, IsWay}
use Rattle.dom_model.proofs.Forests.{Climbing.among-hits, Climbing.hits-ancestors, Paths.parent-path, Paths.ancestors-put, Indices.index-put, Chains.way_to, Chains.way}
use Rattle.dom_model.proofs.PlainLists.Places.{place_before}
use Rattle.dom_model.proofs.BoundaryPoints.WaysKept.{place_by, ways-kept}

-- two gaps at one place are one
pub gap-more : (parent index count more : ℕ) (p : Point) → after_gap parent (index + count) more (after_gap parent index count p) ≡ after_gap parent index (count + more) p
gap-more parent index count more p = grind (arith, nat_tests)

less-kept : (v : Bool) (k x y x' y' : ℕ) → x' ≡ x + (if v then (if nat_le k x then 1 else 0) else 0) → y' ≡ y + (if v then (if nat_le k y then 1 else 0) else 0) → x < y → x' < y'
less-kept v k x y x' y' d e h = grind (arith, nat_tests, cases_Bool)

offsets-kept : (v : Bool) (k a d : ℕ) → a < d → (if v then a + (if nat_lt k a then 1 else 0) else a) < (if v then d + (if nat_lt k d then 1 else 0) else d)
offsets-kept v k a d h = grind (arith, nat_tests, cases_Bool)

between-kept : (v : Bool) (k a x x' : ℕ) → x' ≡ x + (if v then (if nat_le k x then 1 else 0) else 0) → a ≤ x → (if v then a + (if nat_lt k a then 1 else 0) else a) ≤ x'
between-kept v k a x x' e h = grind (arith, nat_tests, cases_Bool)

beyond-kept : (v : Bool) (k a x x' : ℕ) → x' ≡ x + (if v then (if nat_le k x then 1 else 0) else 0) → x < a → x' < (if v then a + (if nat_lt k a then 1 else 0) else a)
beyond-kept v k a x x' e h = grind (arith, nat_tests, cases_Bool)

module _ {X : Type 0} (f : Forest X) (o : (m : ℕ) → occurs m f ≤ 1) (p c : ℕ) (b : Option ℕ) (hp : 0 < occurs p f) (hc : 0 < occurs c f) (r : parent_of f c ≡ None) (z : occurs p (tree_at c f) ≡ 0) where
  abbrev opened : ℕ → ℕ → ℕ
  opened u a = if u == p then a + (if nat_lt (place_before b (children_of f p)) a then 1 else 0) else a

  gap-point : (n a : ℕ) → after_gap p (place_before b (children_of f p)) 1 (record { node = n; offset = a }) ≡ record { node = n; offset = opened n a }
  gap-point n a = grind (arith, nat_tests)

  moves : (m u : ℕ) → 0 < occurs m f → parent_of f m ≡ Some u → index_of (put p c b f) m ≡ index_of f m + (if u == p then (if nat_le (place_before b (children_of f p)) (index_of f m) then 1 else 0) else 0)
  moves m u h e = index-put f o p c b hp hc r z m u h (parent-path f o m u h e).0 e

  outside-way : (n : ℕ) → 0 < occurs n f → occurs n (tree_at c f) ≡ 0 → way_to (put p c b f) n ≡ way_to f n
  outside-way n h out =
      let far : among c (ancestors n f) ≡ false = grind (arith, cases_Bool, among-hits c (ancestors n f), hits-ancestors c n f o) in
      let e : ancestors n (put p c b f) ≡ ancestors n f = ancestors-put f o p c b hp hc r z n h ∙ (rw far (append-nil (ancestors n f))) in
      ap (λ ns. drop 1 (reverse ns)) e

  -- points of one root, outside the tree that is put, keep their order
  pub gap-order_kept : (n m a d : ℕ) → 0 < occurs n f → 0 < occurs m f → occurs n (tree_at c f) ≡ 0 → occurs m (tree_at c f) ≡ 0 → root_of f n ≡ root_of f m →
      order_of (put p c b f) (after_gap p (place_before b (children_of f p)) 1 (record { node = n; offset = a })) (after_gap p (place_before b (children_of f p)) 1 (record { node = m; offset = d }))
      ≡ order_of f (record { node = n; offset = a }) (record { node = m; offset = d })
  gap-order_kept n m a d hn hm zn zm root =
      let v = way f o n hn in
      let w = way f o m hm in
      let same : v.0 ≡ w.0 = (let e : Some v.0 ≡ Some w.0 = sym v.1 ∙ root ∙ w.1 in cc e) in
      ap (λ q. order_of (put p c b f) q (after_gap p (place_before b (children_of f p)) 1 (record { node = m; offset = d }))) (gap-point n a)
      ∙ ap (order_of (put p c b f) (record { node = n; offset = opened n a })) (gap-point m d)
      ∙ ap (λ ns. slice_cmp nat_cmp (place_by (index_of (put p c b f)) ns (opened n a)) (place_of (put p c b f) (record { node = m; offset = opened m d }))) (outside-way n hn zn)
      ∙ ap (λ ns. slice_cmp nat_cmp (place_by (index_of (put p c b f)) (way_to f n) (opened n a)) (place_by (index_of (put p c b f)) ns (opened m d))) (outside-way m hm zm)
      ∙ ways-kept f o (index_of (put p c b f)) opened
      (λ u x y h. offsets-kept (u == p) (place_before b (children_of f p)) x y h)
      (λ u x y hx ex hy ey h. less-kept (u == p) (place_before b (children_of f p)) (index_of f x) (index_of f y) (index_of (put p c b f) x) (index_of (put p c b f) y) (moves x u hx ex) (moves y u hy ey) h)
      (λ u x y hx ex h. between-kept (u == p) (place_before b (children_of f p)) y (index_of f x) (index_of (put p c b f) x) (moves x u hx ex) h)
      (λ u x y hx ex h. beyond-kept (u == p) (place_before b (children_of f p)) y (index_of f x) (index_of (put p c b f) x) (moves x u hx ex) h)
      v.0 (way_to f n) (way_to f m) n m a d v.2 (subst (λ x. IsWay f x (way_to f m) m) (sym same) w.2)
