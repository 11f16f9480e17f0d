-- The points inside a tree that is put keep their order: the way to each of them gets one and the same beginning.
use Rattle.std.proofs.Common.{◌≡◌, ℕ, ◌+◌, ◌*◌, ◌<◌, ◌≤◌, ◌==◌, true, false, List, [], ◌∷◌, ◌++◌, map, reverse, drop, length, Option, Some, None, refl, ap, sym, ◌∙◌, subst, arith, append_assoc}
use Rattle.std.proofs.lemmas.List.{reverse-append, drop-append-le, length-reverse, map-append}
use Rattle.std.specs.{Ordering.nat_cmp, Cmp.Lexicographic.slice_cmp}
use Rattle.dom_model.specs.Definitions.{hits, among, Forest, occurs, one_at, tree_at, put, parent_of, index_of, ancestors, place_of, order_of, IsWay}
use Rattle.dom_model.proofs.PlainLists.Numbers.{same_or, same, apart}
use Rattle.dom_model.proofs.Forests.{Totals.total-tree_at, Totals.occurs-without, Climbing.hits-among, Climbing.hits-ancestors, Climbing.ancestors-there, Paths.parent-path, Paths.root-path, Paths.ancestors-put, Indices.index-put, Chains.way_to, Chains.way}
use Rattle.dom_model.proofs.BoundaryPoints.{PointOrder.slice_cmp-ahead, WaysKept.place_by, RemovalOrder.ancestors-split, RootsKept.root-among}

module _ {X : Type 0} (f : Forest X) (o : (m : ℕ) → occurs m f ≤ 1) (p c : ℕ) (b : Option ℕ) (hp : 0 < occurs p f) (hc : 0 < occurs c f) (r : parent_of f c ≡ None) (z : occurs p (tree_at c f) ≡ 0) where
  in_forest : (n : ℕ) → 0 < occurs n (tree_at c f) → 0 < occurs n f
  in_forest n h = let t = total-tree_at (one_at n) c f in omega arith

  -- a node is inside where c is on its path
  on_path : (n : ℕ) → 0 < occurs n (tree_at c f) → 0 < hits c (ancestors n f)
  on_path n h = let i = hits-ancestors c n f o in omega arith

  turned : (n : ℕ) → 0 < occurs n (tree_at c f) → reverse (ancestors n f) ≡ c ∷ way_to f n
  turned n h =
      let i = ancestors-split f o c n (in_forest n h) (on_path n h) in
      let e : reverse (ancestors n f) ≡ c ∷ reverse i.0 = ap (reverse {A = ℕ}) (i.1 ∙ ap (λ ns. i.0 ++ ns) (root-path f o c hc r)) ∙ reverse-append i.0 (c ∷ []) in
      e ∙ ap (λ ns. c ∷ ns) (sym (ap (drop 1) e))

  way-inside : (n : ℕ) → 0 < occurs n (tree_at c f) → way_to (put p c b f) n ≡ way_to f p ++ c ∷ way_to f n
  way-inside n h =
      let j = ancestors-there p f hp in
      let long : 1 ≤ length (reverse (ancestors p f)) = rw (length-reverse (ancestors p f), j.1) (omega arith) in
      let inside : among c (ancestors n f) ≡ true = hits-among c (ancestors n f) (on_path n h) in
      let path : ancestors n (put p c b f) ≡ ancestors n f ++ ancestors p f = ancestors-put f o p c b hp hc r z n (in_forest n h) ∙ (rw inside refl) in
      ap (λ ns. drop 1 (reverse ns)) path
      ∙ ap (drop 1) (reverse-append (ancestors n f) (ancestors p f))
      ∙ drop-append-le 1 (reverse (ancestors p f)) (reverse (ancestors n f)) long
      ∙ ap (λ ns. way_to f p ++ ns) (turned n h)

  -- the indices inside stay
  inside-kept : (u : ℕ) (ms : List ℕ) (n a : ℕ) → 0 < occurs u (tree_at c f) → IsWay f u ms n → place_by (index_of (put p c b f)) ms a ≡ place_by (index_of f) ms a
  inside-kept u [] n a h w = refl
  inside-kept u (m ∷ ms) n a h w =
      let far : (u == p) ≡ false = elim (same_or u p) [ same e t ↦ absurd (let k = subst (λ x. 0 < occurs x (tree_at c f)) e h in omega arith) | apart ne t ↦ t ] in
      let hu = in_forest u h in
      let i : index_of (put p c b f) m ≡ index_of f m = index-put f o p c b hp hc r z m u w.0 hu w.1 ∙ (rw far (omega arith)) in
      let path = (parent-path f o m u w.0 w.1).1 in
      let below : 0 < occurs m (tree_at c f) =
      let j = hits-ancestors c m f o in let k = ap (hits c) path in let l = on_path u h in omega arith in
      rw i (ap (λ ns. (2 * index_of f m + 1) ∷ ns) (inside-kept m ms n a below w.2))

  abbrev beginning : List ℕ
  beginning = map (λ m. 2 * index_of (put p c b f) m + 1) (way_to f p ++ c ∷ [])

  place-inside : (n a : ℕ) → 0 < occurs n (tree_at c f) → place_of (put p c b f) (record { node = n; offset = a }) ≡ beginning ++ place_of f (record { node = n; offset = a })
  place-inside n a h =
      let v = way f o n (in_forest n h) in
      let top : v.0 ≡ c = (let e : Some v.0 ≡ Some c = sym v.1 ∙ root-among f o p c b hp hc r z n (in_forest n h) (hits-among c (ancestors n f) (on_path n h)) in cc e) in
      let itself : 0 < occurs c (tree_at c f) = (let t = total-tree_at (one_at c) c f in let w = occurs-without c f in omega arith) in
      let k = inside-kept c (way_to f n) n a itself (subst (λ x. IsWay f x (way_to f n) n) top v.2) in
      ap (λ ns. place_by (index_of (put p c b f)) ns a) (way-inside n h ∙ sym (append_assoc (way_to f p) (c ∷ []) (way_to f n)))
      ∙ ap (λ ns. ns ++ (2 * a) ∷ []) (map-append (λ m. 2 * index_of (put p c b f) m + 1) (way_to f p ++ c ∷ []) (way_to f n))
      ∙ append_assoc beginning (map (λ m. 2 * index_of (put p c b f) m + 1) (way_to f n)) ((2 * a) ∷ [])
      ∙ ap (λ ns. beginning ++ ns) k

  -- points inside the tree that is put keep their order
  pub gap-order_inside : (n m a d : ℕ) → 0 < occurs n (tree_at c f) → 0 < occurs m (tree_at c f) →
      order_of (put p c b f) (record { node = n; offset = a }) (record { node = m; offset = d }) ≡ order_of f (record { node = n; offset = a }) (record { node = m; offset = d })
  gap-order_inside n m a d hn hm =
      ap (λ ns. slice_cmp nat_cmp ns (place_of (put p c b f) (record { node = m; offset = d }))) (place-inside n a hn)
      ∙ ap (slice_cmp nat_cmp (beginning ++ place_of f (record { node = n; offset = a }))) (place-inside m d hm)
      ∙ slice_cmp-ahead beginning (place_of f (record { node = n; offset = a })) (place_of f (record { node = m; offset = d }))
