-- A cut with the removal that it makes of points puts no point after one that it was not after.
use Rattle.std.proofs.Common.{◌≡◌, ℕ, zero, suc, ◌+◌, ◌-◌, ◌*◌, ◌<◌, ◌≤◌, ◌==◌, nat_lt, Bool, true, false, ◌&&◌, if◌then◌else◌, List, [], ◌∷◌, ◌++◌, reverse, drop, length, Some, refl, ap, sym, ◌∙◌, subst, arith, append_assoc, ⊎_elim}
use Rattle.std.specs.{Ordering.nat_cmp, declared.cmp.Ordering.TheVariants.Greater, Cmp.Lexicographic.slice_cmp}
use Rattle.std.proofs.lemmas.{Bool.cases_lt, Bool.le-ltb, Bool.Decides.nat_tests, List.reverse-append, List.drop-append-le, List.length-reverse, Bool.eq-eqb, Bool.eqb-true}
use Rattle.dom_model.specs.Definitions.{hits, among, place_in, Forest, occurs, one_at, tree_at, inclusive_descendants, cut, parent_of, children_of, index_of, ancestors, root_of, place_of, order_of, after_removal, IsWay}
use Rattle.dom_model.proofs.PlainLists.{Numbers.same_or, Numbers.same, Numbers.apart, Places.place-absent, Places.place-there}
use Rattle.dom_model.proofs.Forests.{Changes.seen, Changes.nothing, Changes.just, Totals.total-tree_at, Climbing.among-hits, Climbing.hits-among, Climbing.hits-ancestors, Climbing.ancestors-there, Paths.parent-path, Paths.root-path, Paths.ancestors-cut, Paths.up_with, TreeOrder.Flattened.hits-numbers, Indices.child-listed, Indices.index-child, Indices.index-cut, Indices.child-parent, Chains.way_to, Chains.way, Chains.index-apart, Climbing.hits-reverse}
use Rattle.dom_model.proofs.BoundaryPoints.WaysKept.{place_by}

pub not_greater : (x y : ℕ) (xs ys : List ℕ) → x < y → slice_cmp nat_cmp (x ∷ xs) (y ∷ ys) ≡ Greater → ⊥
not_greater x y xs ys h e = grind (arith, nat_tests)

pub greater : (x y : ℕ) (xs ys : List ℕ) → y < x → slice_cmp nat_cmp (x ∷ xs) (y ∷ ys) ≡ Greater
greater x y xs ys h = grind (arith, nat_tests)

pub not_more : (x y : ℕ) → x ≤ y → slice_cmp nat_cmp (x ∷ []) (y ∷ []) ≡ Greater → ⊥
not_more x y h e = grind (arith, nat_tests)

module _ {X : Type 0} where
  -- the ancestors of a node end with those of each of them
  pub ancestors-split : (f : Forest X) → ((m : ℕ) → occurs m f ≤ 1) → (c n : ℕ) → 0 < occurs n f → 0 < hits c (ancestors n f) → (xs : List ℕ) × (ancestors n f ≡ xs ++ ancestors c f)
  ancestors-split f o c n h i = go (length (ancestors n f)) n (omega arith) h i
    where
      go : (k m : ℕ) → length (ancestors m f) ≤ k → 0 < occurs m f → 0 < hits c (ancestors m f) → (xs : List ℕ) × (ancestors m f ≡ xs ++ ancestors c f)
      go zero m l hm hc = absurd (let i = ancestors-there m f hm in let j = rw i.1 at l in omega arith)
      go (suc k) m l hm hc =
          elim (same_or m c) [
            | same e t ↦ ([], ap (λ x. ancestors x f) e)
            | apart ne t ↦
                elim (seen (parent_of f m)) [
                  | nothing e ↦
                      let a = root-path f o m hm e in
                      absurd (let j = rw (a, t) at hc in omega arith)
                  | just q e ↦
                      let i = parent-path f o m q hm e in
                      let s = rw i.1 at l in
                      let j = rw (i.1, t) at hc in
                      let r = go k q (omega arith) i.0 (omega arith) in
                      (m ∷ r.0, i.1 ∙ ap (λ ms. m ∷ ms) r.1)
                ]
          ]

  module _ (f : Forest X) (o : (m : ℕ) → occurs m f ≤ 1) (p c : ℕ) (hc : 0 < occurs c f) (par : parent_of f c ≡ Some p) where
    abbrev closed : ℕ → ℕ → ℕ
    closed u a = if (u == p) && nat_lt (index_of f c) a then a - 1 else a

    pub no_cycle : hits c (ancestors p f) ≡ 0
    no_cycle =
        let v : hits c (c ∷ ancestors p f) ≡ occurs c (tree_at c f) = ap (hits c) (sym (parent-path f o c p hc par).1) ∙ hits-ancestors c c f o in
        grind (arith, nat_tests, total-tree_at (one_at c) c f, o c)

    -- what is left of an index, with what it lost
    moved : (m u : ℕ) → (m == c) ≡ false → 0 < occurs m f → parent_of f m ≡ Some u → index_of (cut c f) m + (if u == p then (if nat_lt (index_of f c) (index_of f m) then 1 else 0) else 0) ≡ index_of f m
    moved m u far h e =
        elim (same_or u p) [
          | same d t ↦
              let s : place_in c (children_of f u) ≡ index_of f c = ap (λ x. place_in c (children_of f x)) d ∙ sym (index-child f c p par) in
              rw t (subst (λ x. index_of (cut c f) m + (if nat_lt x (index_of f m) then 1 else 0) ≡ index_of f m) s i)
          | apart ne t ↦
              let no : 0 < hits c (children_of f u) → ⊥ = λ lt. ne (let w : Some u ≡ Some p = sym (child-parent f o c u lt) ∙ par in cc w) in
              let none : hits c (children_of f u) ≡ 0 = omega arith in
              let far_on : index_of f m < place_in c (children_of f u) = rw (place-absent c (children_of f u) none, index-child f m u e) (place-there m (children_of f u) (child-listed f o m u h e)) in
              let v : nat_lt (place_in c (children_of f u)) (index_of f m) ≡ false = le-ltb (place_in c (children_of f u)) (index_of f m) (omega arith) in
              rw t (subst (λ (x : Bool). index_of (cut c f) m + (if x then 1 else 0) ≡ index_of f m) v i)
        ]
      where
        i : index_of (cut c f) m + (if nat_lt (place_in c (children_of f u)) (index_of f m) then 1 else 0) ≡ index_of f m
        i = index-cut f o c m u far e

    -- the place of a point after the removal, read off the way to its node before
    abbrev place_then : ℕ → List ℕ → ℕ → ℕ → List ℕ
    place_then u [] n a = (2 * closed n a) ∷ []
    place_then u (m ∷ ms) n a = if m == c then (2 * index_of f c) ∷ [] else (2 * index_of (cut c f) m + 1) ∷ place_then m ms n a

    at_parent : (m u : ℕ) → m ≡ c → parent_of f m ≡ Some u → (u == p) ≡ true
    at_parent m u d e = eq-eqb u p (let w : Some u ≡ Some p = sym e ∙ ap (parent_of f) d ∙ par in cc w)

    is_parent : (u : ℕ) → (u == p) ≡ true → parent_of f c ≡ Some u
    is_parent u t = par ∙ ap (λ x. Some x) (sym (eqb-true u p t))

    apart-index : (m u : ℕ) → (m ≡ c → ⊥) → 0 < occurs m f → parent_of f m ≡ Some u → (u == p) ≡ true → index_of f m ≡ index_of f c → ⊥
    apart-index m u ne h e t i = ne (index-apart f o m c u h e (is_parent u t) i)

    pub ways-after : (u : ℕ) (ms ns : List ℕ) (n k a d : ℕ) → IsWay f u ms n → IsWay f u ns k → slice_cmp nat_cmp (place_then u ms n a) (place_then u ns k d) ≡ Greater → slice_cmp nat_cmp (place_by (index_of f) ms a) (place_by (index_of f) ns d) ≡ Greater
    ways-after u [] [] n k a d v w g = grind (arith, nat_tests)
    ways-after u [] (m ∷ ns) n k a d v w g = grind (arith, nat_tests, at_parent m u, moved m u, apart-index m u)
    ways-after u (m ∷ ms) [] n k a d v w g = grind (arith, nat_tests, at_parent m u, moved m u, apart-index m u)
    ways-after u (m ∷ ms) (l ∷ ns) n k a d v w g =
        elim (same_or m l) [
          | same e _ ↦ grind (arith, nat_tests, ways-after m ms ns n k a d v.2 (subst (λ x. IsWay f x ns k) (sym e) w.2))
          | apart ne _ ↦ grind (arith, nat_tests, at_parent m u, moved m u, moved l u, apart-index m u, apart-index l u, index-apart f o m l u v.0 v.1 w.1)
        ]

    then-clear : (u : ℕ) (ms : List ℕ) (n a : ℕ) → hits c ms ≡ 0 → place_then u ms n a ≡ place_by (index_of (cut c f)) ms (closed n a)
    then-clear u [] n a h = refl
    then-clear u (m ∷ ms) n a h = grind (arith, nat_tests, then-clear m ms n a)

    then-through : (u : ℕ) (ps more : List ℕ) (n a : ℕ) → hits c ps ≡ 0 → place_then u (ps ++ c ∷ more) n a ≡ place_by (index_of (cut c f)) ps (index_of f c)
    then-through u [] more n a h = rw (eq-eqb c c refl) refl
    then-through u (m ∷ ps) more n a h = grind (arith, nat_tests, then-through m ps more n a)

    hits-way : (n : ℕ) → hits c (way_to f n) ≤ hits c (ancestors n f)
    hits-way n = omega (arith, hits-dropped (reverse (ancestors n f)), hits-reverse c (ancestors n f))
      where
        hits-dropped : (xs : List ℕ) → hits c (drop 1 xs) ≤ hits c xs
        hits-dropped [] = omega arith
        hits-dropped (x ∷ xs) = omega arith

    pub up_with-clear : (xs : List ℕ) → hits c xs ≡ 0 → up_with c xs ≡ xs
    up_with-clear [] h = refl
    up_with-clear (x ∷ xs) h = grind (arith, nat_tests, up_with-clear xs)

    clear-way : (n : ℕ) → 0 < occurs n f → hits c (ancestors n f) ≡ 0 → way_to (cut c f) n ≡ way_to f n
    clear-way n h z = ap (λ ns. drop 1 (reverse ns)) (ancestors-cut f o c n h ∙ up_with-clear (ancestors n f) z)

    through-way : (n : ℕ) → 0 < occurs n f → 0 < hits c (ancestors n f) → (more : List ℕ) × (way_to f n ≡ way_to f p ++ c ∷ more)
    through-way n h i =
        let s = ancestors-split f o c n h i in
        let t = parent-path f o c p hc par in
        let j = ancestors-there p f t.0 in
        let long : 1 ≤ length (reverse (ancestors p f)) = rw (length-reverse (ancestors p f), j.1) (omega arith) in (
          reverse s.0,
          ap (λ ns. drop 1 (reverse ns)) (s.1 ∙ ap (λ ns. s.0 ++ ns) t.1)
              ∙ ap (drop 1) (reverse-append s.0 (c ∷ ancestors p f) ∙ ap (λ ns. ns ++ reverse s.0) (reverse-append (c ∷ []) (ancestors p f)) ∙ append_assoc (reverse (ancestors p f)) (c ∷ []) (reverse s.0))
              ∙ drop-append-le 1 (reverse (ancestors p f)) (c ∷ reverse s.0) long,
        )

    -- the place of a point after the removal
    place-removed : (u n a : ℕ) → 0 < occurs n f → place_of (cut c f) (after_removal (inclusive_descendants f c) p (index_of f c) (record { node = n; offset = a })) ≡ place_then u (way_to f n) n a
    place-removed u n a h =
        ⊎_elim
        (λ (lt : 0 < occurs n (tree_at c f)).
        let t : among n (inclusive_descendants f c) ≡ true = hits-among n (inclusive_descendants f c) (let i = hits-numbers n (tree_at c f) in omega arith) in
        let i : 0 < hits c (ancestors n f) = (let j = hits-ancestors c n f o in omega arith) in
        let w = through-way n h i in
        let z : hits c (way_to f p) ≡ 0 = (let j = hits-way p in let k = no_cycle in omega arith) in
        let k = parent-path f o c p hc par in
        inside t
        ∙ ap (λ ns. place_by (index_of (cut c f)) ns (index_of f c)) (clear-way p k.0 no_cycle)
        ∙ sym (ap (λ ns. place_then u ns n a) w.1 ∙ then-through u (way_to f p) w.0 n a z))
        (λ (le : occurs n (tree_at c f) ≤ 0).
        let i : hits c (ancestors n f) ≡ 0 = (let j = hits-ancestors c n f o in omega arith) in
        let z : hits c (way_to f n) ≡ 0 = (let j = hits-way n in omega arith) in
        outside le
        ∙ ap (λ ns. place_by (index_of (cut c f)) ns (closed n a)) (clear-way n h i)
        ∙ sym (then-clear u (way_to f n) n a z))
        (cases_lt 0 (occurs n (tree_at c f)))
      where
        inside : among n (inclusive_descendants f c) ≡ true → place_of (cut c f) (after_removal (inclusive_descendants f c) p (index_of f c) (record { node = n; offset = a })) ≡ place_by (index_of (cut c f)) (way_to (cut c f) p) (index_of f c)
        inside t = rw t refl

        outside : occurs n (tree_at c f) ≤ 0 → place_of (cut c f) (after_removal (inclusive_descendants f c) p (index_of f c) (record { node = n; offset = a })) ≡ place_by (index_of (cut c f)) (way_to (cut c f) n) (closed n a)
        outside le = go (among n (inclusive_descendants f c)) refl ((n == p) && nat_lt (index_of f c) a) refl
          where
            go : (v : Bool) → among n (inclusive_descendants f c) ≡ v → (w : Bool) → ((n == p) && nat_lt (index_of f c) a) ≡ w → place_of (cut c f) (after_removal (inclusive_descendants f c) p (index_of f c) (record { node = n; offset = a })) ≡ place_by (index_of (cut c f)) (way_to (cut c f) n) (closed n a)
            go true e w e2 = absurd (let i = among-hits n (inclusive_descendants f c) e in let j = hits-numbers n (tree_at c f) in omega arith)
            go false e true e2 = rw (e, e2) refl
            go false e false e2 = rw (e, e2) refl

    -- a point that comes after another was after it
    pub removal-order_kept : (n m a d : ℕ) → 0 < occurs n f → 0 < occurs m f → root_of f n ≡ root_of f m →
        order_of (cut c f) (after_removal (inclusive_descendants f c) p (index_of f c) (record { node = n; offset = a })) (after_removal (inclusive_descendants f c) p (index_of f c) (record { node = m; offset = d })) ≡ Greater
        → order_of f (record { node = n; offset = a }) (record { node = m; offset = d }) ≡ Greater
    removal-order_kept n m a d hn hm root g =
        let v = way f o n hn in
        let w = way f o m hm in
        let s : v.0 ≡ w.0 = (let e : Some v.0 ≡ Some w.0 = sym v.1 ∙ root ∙ w.1 in cc e) in
        ways-after v.0 (way_to f n) (way_to f m) n m a d v.2 (subst (λ x. IsWay f x (way_to f m) m) (sym s) w.2)
        (sym (ap (λ xs. slice_cmp nat_cmp xs (place_of (cut c f) (after_removal (inclusive_descendants f c) p (index_of f c) (record { node = m; offset = d })))) (place-removed v.0 n a hn)
        ∙ ap (slice_cmp nat_cmp (place_then v.0 (way_to f n) n a)) (place-removed v.0 m d hm)) ∙ g)
