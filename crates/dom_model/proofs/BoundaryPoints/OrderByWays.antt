-- The order of two points by the children on the ways down to them from a node above both.
use Rattle.std.proofs.Common.{◌≡◌, ℕ, ◌+◌, ◌*◌, ◌<◌, ◌≤◌, nat_lt, if◌then◌else◌, List, [], ◌∷◌, ◌++◌, map, reverse, drop, length, Some, ap, ◌∙◌, arith, append_assoc, Less, Greater}
use Rattle.std.proofs.lemmas.{List.reverse-append, List.drop-append-le, List.length-reverse, List.map-append, Bool.Decides.nat_tests}
use Rattle.dom_model.specs.Definitions.{hits, Forest, occurs, parent_of, index_of, ancestors, path_places, order_of}
use Rattle.dom_model.proofs.Forests.{Climbing.ancestors-there, Indices.path-child, Indices.parent-there}
use Rattle.dom_model.proofs.BoundaryPoints.{PointOrder.slice_cmp-ahead, RemovalOrder.ancestors-split}

module _ {X : Type 0} where
  -- the path to a node begins with that of each node above it
  pub places-past : (f : Forest X) → ((m : ℕ) → occurs m f ≤ 1) → (n a : ℕ) → 0 < occurs n f → 0 < hits a (ancestors n f) → 0 < occurs a f → (more : List ℕ) × (path_places f n ≡ path_places f a ++ more)
  places-past f o n a h i ha =
      let s = ancestors-split f o a n h i in
      let j = ancestors-there a f ha in
      let place : ℕ → ℕ = λ m. 2 * index_of f m + 1 in
      let long : 1 ≤ length (reverse (ancestors a f)) = rw (length-reverse (ancestors a f), j.1) (omega arith) in (
        map place (reverse s.0),
        ap (λ ns. map place (drop 1 (reverse ns))) s.1
            ∙ ap (λ ns. map place (drop 1 ns)) (reverse-append s.0 (ancestors a f))
            ∙ ap (map place) (drop-append-le 1 (reverse (ancestors a f)) (reverse s.0) long)
            ∙ map-append place (drop 1 (reverse (ancestors a f))) (reverse s.0),
      )

  -- and goes through the child of each node above it
  pub path-through : (f : Forest X) → ((m : ℕ) → occurs m f ≤ 1) → (n c a : ℕ) → 0 < occurs n f → 0 < hits a (ancestors n f) → parent_of f a ≡ Some c → (below : List ℕ) × (path_places f n ≡ path_places f c ++ (2 * index_of f a + 1) ∷ below)
  path-through f o n c a h i e =
      let ha = parent-there f a c e in
      let p = places-past f o n a h i ha in
      (p.0, p.1 ∙ ap (λ ns. ns ++ p.0) (path-child f o a c ha e) ∙ append_assoc (path_places f c) ((2 * index_of f a + 1) ∷ []) p.0)

  -- a point below a node is before the node's points past the child towards it; else after
  pub order-below : (f : Forest X) (n m i a b : ℕ) (below : List ℕ) → path_places f n ≡ path_places f m ++ (2 * i + 1) ∷ below → order_of f (record { node = n; offset = a }) (record { node = m; offset = b }) ≡ (if nat_lt i b then Less else Greater)
  order-below f n m i a b below e =
      rw (e, append_assoc (path_places f m) ((2 * i + 1) ∷ below) ((2 * a) ∷ []), slice_cmp-ahead (path_places f m) ((2 * i + 1) ∷ (below ++ (2 * a) ∷ [])) (2 * b ∷ []))
      (grind (arith, nat_tests))

  -- points below two children of one node stand as the children do
  pub order-beside : (f : Forest X) (n m c i j a b : ℕ) (first second : List ℕ) → path_places f n ≡ path_places f c ++ (2 * i + 1) ∷ first → path_places f m ≡ path_places f c ++ (2 * j + 1) ∷ second → (i ≡ j → ⊥) → order_of f (record { node = n; offset = a }) (record { node = m; offset = b }) ≡ (if nat_lt i j then Less else Greater)
  order-beside f n m c i j a b first second d e ne =
      rw (d, e, append_assoc (path_places f c) ((2 * i + 1) ∷ first) ((2 * a) ∷ []), append_assoc (path_places f c) ((2 * j + 1) ∷ second) ((2 * b) ∷ []))
      (rw (slice_cmp-ahead (path_places f c) ((2 * i + 1) ∷ (first ++ (2 * a) ∷ [])) ((2 * j + 1) ∷ (second ++ (2 * b) ∷ []))) (grind (arith, nat_tests)))
