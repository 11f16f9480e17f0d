-- A map that leaves the points of some nodes leaves the live ranges of which no end stands elsewhere: a gap and a removal where no end stands.
-- DOM Standard, "Live ranges".
use Rattle.std.proofs.Common.{◌≡◌, ℕ, ◌==◌, Bool, false, ◌||◌, List, [], ◌∷◌, flat_map, Option, Some, None, refl, ap, sym, ◌∙◌, arith}
use Rattle.std.proofs.lemmas.{Bool.or_parts, Bool.Decides.nat_tests}
use Rattle.std.specs.List.{list_any}
use Rattle.dom_model.specs.Definitions.{among, Point, Range, after_gap, after_removal, map_ranges, nodes_of_range, nodes_unless_released}

-- the nodes in which ends of live ranges stand
abbrev pub ends_of : List (Option Range) → List ℕ
ends_of rs = flat_map (nodes_unless_released nodes_of_range) rs

-- a map that leaves each point whose node fails the test
pub ranges-left : (test : ℕ → Bool) (move : Point → Point) → ((p : Point) → test p.node ≡ false → move p ≡ p) → (rs : List (Option Range)) → list_any test (ends_of rs) ≡ false → map_ranges move rs ≡ rs
ranges-left test move still [] h = refl
ranges-left test move still (None ∷ rs) h = ap (λ (x : List (Option Range)). None ∷ x) (ranges-left test move still rs h)
ranges-left test move still (Some r ∷ rs) h =
    let a = or_parts (test r.start.node) (test r.end.node || list_any test (ends_of rs)) h in
    let b = or_parts (test r.end.node) (list_any test (ends_of rs)) a.1 in
    rw (still r.start a.0, still r.end b.0, ranges-left test move still rs b.1) refl

-- membership as a question asked of the list
pub among-any : (n : ℕ) (xs : List ℕ) → among n xs ≡ list_any (λ m. m == n) xs
among-any n [] = refl
among-any n (x ∷ xs) = grind (arith, nat_tests, among-any n xs)

-- two questions at once
pub any-either : (a b : ℕ → Bool) (xs : List ℕ) → list_any a xs ≡ false → list_any b xs ≡ false → list_any (λ m. a m || b m) xs ≡ false
any-either a b [] h k = refl
any-either a b (x ∷ xs) h k =
    let i = or_parts (a x) (list_any a xs) h in
    let j = or_parts (b x) (list_any b xs) k in
    rw (i.0, j.0) (any-either a b xs i.1 j.1)

-- nodes come into a parent in which no end stands
pub gap-elsewhere : (parent index count : ℕ) (rs : List (Option Range)) → among parent (ends_of rs) ≡ false → map_ranges (after_gap parent index count) rs ≡ rs
gap-elsewhere parent index count rs h =
    ranges-left (λ m. m == parent) (after_gap parent index count) (λ p t. rw t refl) rs (sym (among-any parent (ends_of rs)) ∙ h)

-- a node leaves a parent in which no end stands, and none inside the node
pub removal-elsewhere : (inside : List ℕ) (parent index : ℕ) (rs : List (Option Range)) → list_any (λ m. among m inside) (ends_of rs) ≡ false → among parent (ends_of rs) ≡ false → map_ranges (after_removal inside parent index) rs ≡ rs
removal-elsewhere inside parent index rs h k =
    ranges-left (λ m. among m inside || (m == parent)) (after_removal inside parent index) stays rs
    (any-either (λ m. among m inside) (λ m. m == parent) (ends_of rs) h (sym (among-any parent (ends_of rs)) ∙ k))
  where
    stays : (p : Point) → (among p.node inside || (p.node == parent)) ≡ false → after_removal inside parent index p ≡ p
    stays p e = let i = or_parts (among p.node inside) (p.node == parent) e in rw (i.0, i.1) refl
