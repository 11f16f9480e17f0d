-- Where a point stands among the gaps of a tree: its place from there on, and how many gaps are ahead of its own.
use Rattle.std.proofs.Common.{◌≡◌, ℕ, zero, suc, ◌+◌, ◌*◌, ◌<◌, ◌≤◌, true, false, List, [], ◌∷◌, ◌++◌, length, Some, refl, sym, ◌∙◌, subst, arith, ◌⊎◌, inl, inr}
use Rattle.std.specs.{Ordering.nat_cmp, Cmp.Lexicographic.slice_cmp}
use Rattle.std.proofs.lemmas.Bool.{false≢true}
use Rattle.dom_model.specs.Definitions.{is_character_data, Node, Forest, empty, node, Content, Point, point}
use Rattle.dom_model.proofs.BoundaryPoints.PointOrder.{nat_cmp-same, nat_cmp-less, nat_cmp-greater, nat_cmp-kept, slice_cmp-one}
use Rattle.dom_model.proofs.TokenText.{PointGaps.GapWalk.unit_gaps, PointGaps.GapWalk.child_gaps, PointGaps.GapWalk.tree_gaps, PointGaps.GapCounts.IsAt, PointGaps.GapCounts.at-first, PointGaps.GapCounts.at-later, PointGaps.GapCounts.at-left, PointGaps.GapCounts.at-right, PointGaps.GapCounts.at-within}

-- the point is the first one of a node from offset i on
abbrev pub StartsAt : ℕ → ℕ → Point → List ℕ → ℕ → Type 0
StartsAt n i p place k = (p ≡ point n i) × (place ≡ (2 * i) ∷ []) × (k ≡ 0)

-- the point is one of a node with data
abbrev pub StandsInData : Node Content → Point → List ℕ → ℕ → Type 0
StandsInData x p place k = (p ≡ point x.number k) × (k ≤ length x.body.text) × (place ≡ (2 * k) ∷ [])

-- the point stands inside the child of index i
pub record StandsWithin (i : ℕ) (place : List ℕ) (k : ℕ) (StandsInside : List ℕ → ℕ → Type 0) : Type 0 where
  pub below : List ℕ
  pub past : ℕ
  pub inside : StandsInside below past
  pub place_is : place ≡ (2 * i + 1) ∷ below
  pub count_is : k ≡ suc past

-- the point stands after a child with so many gaps
pub record StandsBeyond (many : ℕ) (k : ℕ) (StandsAfter : ℕ → Type 0) : Type 0 where
  pub past : ℕ
  pub later : StandsAfter past
  pub count_is : k ≡ suc (many + past)

-- the point stands among the children of a node from index i on
abbrev pub Stands : ℕ → ℕ → Forest Content → Point → List ℕ → ℕ → Type 0
Stands n i empty p place k = StartsAt n i p place k
Stands n i (node x kids rest) p place k =
    StartsAt n i p place k
    ⊎ (StandsWithin i place k (λ below past. ((is_character_data x.label.kind ≡ true) × StandsInData x p below past) ⊎ ((is_character_data x.label.kind ≡ false) × Stands x.number 0 kids p below past))
    ⊎ StandsBeyond (length (tree_gaps x kids)) k (λ past. Stands n (i + 1) rest p place past))

-- the point stands between a node's open and close
abbrev pub StandsInTree : Node Content → Forest Content → Point → List ℕ → ℕ → Type 0
StandsInTree x kids p place k =
    ((is_character_data x.label.kind ≡ true) × StandsInData x p place k) ⊎ ((is_character_data x.label.kind ≡ false) × Stands x.number 0 kids p place k)

-- Such a point has its gap there.

at-data : (n i k : ℕ) (units : List ℕ) → k ≤ length units → IsAt (point n (i + k)) k (unit_gaps n i units)
at-data n i zero [] h = let e : i + 0 ≡ i = omega arith in rw e (at-first (point n i) [])
at-data n i zero (u ∷ units) h = let e : i + 0 ≡ i = omega arith in rw e (at-first (point n i) (unit_gaps n (i + 1) units))
at-data n i (suc k) [] h = absurd (omega arith)
at-data n i (suc k) (u ∷ units) h =
    let e : i + 1 + k ≡ i + suc k = omega arith in
    at-later (point n (i + suc k)) k (Some (point n i)) (unit_gaps n (i + 1) units)
    (subst (λ m. IsAt (point n m) k (unit_gaps n (i + 1) units)) e (at-data n (i + 1) k units (omega arith)))

at-start : (n i k : ℕ) (f : Forest Content) (p : Point) → p ≡ point n i → k ≡ 0 → IsAt p k (child_gaps n i f)
at-start n i k empty p e z = rw (e, z) (at-first (point n i) [])
at-start n i k (node x kids rest) p e z = rw (e, z) (at-first (point n i) (tree_gaps x kids ++ child_gaps n (i + 1) rest))

at-inside : (x : Node Content) (kids : Forest Content) (p : Point) (place : List ℕ) (k : ℕ) → (Stands x.number 0 kids p place k → IsAt p k (child_gaps x.number 0 kids)) → StandsInTree x kids p place k → IsAt p k (tree_gaps x kids)
at-inside x kids p place k below (inl i) =
    let e : 0 + k ≡ k = omega arith in
    rw (i.0, i.1.0) (subst (λ m. IsAt (point x.number m) k (unit_gaps x.number 0 x.body.text)) e (at-data x.number 0 k x.body.text i.1.1))
at-inside x kids p place k below (inr i) = rw i.0 (below i.1)

at-place : (n i : ℕ) (f : Forest Content) (p : Point) (place : List ℕ) (k : ℕ) → Stands n i f p place k → IsAt p k (child_gaps n i f)
at-place n i empty p place k s = at-start n i k empty p s.0 s.2
at-place n i (node x kids rest) p place k (inl s) = at-start n i k (node x kids rest) p s.0 s.2
at-place n i (node x kids rest) p place k (inr (inl s)) =
    rw s.count_is (at-later p s.past (Some (point n i)) (tree_gaps x kids ++ child_gaps n (i + 1) rest)
    (at-left p s.past (tree_gaps x kids) (child_gaps n (i + 1) rest)
    (at-inside x kids p s.below s.past (λ t. at-place x.number 0 kids p s.below s.past t) s.inside)))
at-place n i (node x kids rest) p place k (inr (inr s)) =
    rw s.count_is (at-later p (length (tree_gaps x kids) + s.past) (Some (point n i)) (tree_gaps x kids ++ child_gaps n (i + 1) rest)
    (at-right p s.past (tree_gaps x kids) (child_gaps n (i + 1) rest) (at-place n (i + 1) rest p place s.past s.later)))

pub at-tree : (x : Node Content) (kids : Forest Content) (p : Point) (place : List ℕ) (k : ℕ) → StandsInTree x kids p place k → IsAt p k (tree_gaps x kids)
at-tree x kids p place k s = at-inside x kids p place k (λ t. at-place x.number 0 kids p place k t) s

-- Two such points stand by their places as they do by the gaps ahead of their own.

less : (h g : ℕ) (hs gs v w : List ℕ) (k l : ℕ) → v ≡ h ∷ hs → w ≡ g ∷ gs → h < g → k < l → slice_cmp nat_cmp v w ≡ nat_cmp k l
less h g hs gs v w k l e d i j = rw (e, d, nat_cmp-less h g i, nat_cmp-less k l j) refl

more : (h g : ℕ) (hs gs v w : List ℕ) (k l : ℕ) → v ≡ h ∷ hs → w ≡ g ∷ gs → g < h → l < k → slice_cmp nat_cmp v w ≡ nat_cmp k l
more h g hs gs v w k l e d i j = rw (e, d, nat_cmp-greater h g i, nat_cmp-greater k l j) refl

-- as many more gaps ahead of both
more_both : (many k l a b : ℕ) → a ≡ suc (many + k) → b ≡ suc (many + l) → nat_cmp k l ≡ nat_cmp a b
more_both many k l a b e d = nat_cmp-kept a b k l (λ h. omega arith) (λ h. omega arith) (λ h. omega arith)

start_both : (i k l : ℕ) (v w : List ℕ) → v ≡ (2 * i) ∷ [] → k ≡ 0 → w ≡ (2 * i) ∷ [] → l ≡ 0 → slice_cmp nat_cmp v w ≡ nat_cmp k l
start_both i k l v w a b c d = rw (a, b, c, d, nat_cmp-same (2 * i)) refl

-- a place among the children from index i on
record FromOn (i : ℕ) (place : List ℕ) : Type 0 where
  first : ℕ
  rest : List ℕ
  is : place ≡ first ∷ rest
  high : 2 * i ≤ first

from_on : (n i : ℕ) (f : Forest Content) (p : Point) (place : List ℕ) (k : ℕ) → Stands n i f p place k → FromOn i place
from_on n i empty p place k s = record { first = 2 * i; rest = []; is = s.1; high = omega arith }
from_on n i (node x kids rest) p place k (inl s) = record { first = 2 * i; rest = []; is = s.1; high = omega arith }
from_on n i (node x kids rest) p place k (inr (inl s)) = record { first = 2 * i + 1; rest = s.below; is = s.place_is; high = omega arith }
from_on n i (node x kids rest) p place k (inr (inr s)) =
    let t = from_on n (i + 1) rest p place s.past s.later in
    record { first = t.first; rest = t.rest; is = t.is; high = (let h : 2 * (i + 1) ≤ t.first = t.high in omega arith) }

ordered-inside : (x : Node Content) (kids : Forest Content) (p q : Point) (v w : List ℕ) (k l : ℕ) → (Stands x.number 0 kids p v k → Stands x.number 0 kids q w l → slice_cmp nat_cmp v w ≡ nat_cmp k l) → StandsInTree x kids p v k → StandsInTree x kids q w l → slice_cmp nat_cmp v w ≡ nat_cmp k l
ordered-inside x kids p q v w k l below (inl s) (inl t) =
    rw (s.1.2, t.1.2) (slice_cmp-one (2 * k) (2 * l) ∙ nat_cmp-kept k l (2 * k) (2 * l) (λ h. omega arith) (λ h. omega arith) (λ h. omega arith))
ordered-inside x kids p q v w k l below (inl s) (inr t) = absurd (false≢true (sym t.0 ∙ s.0))
ordered-inside x kids p q v w k l below (inr s) (inl t) = absurd (false≢true (sym s.0 ∙ t.0))
ordered-inside x kids p q v w k l below (inr s) (inr t) = below s.1 t.1

ordered : (n i : ℕ) (f : Forest Content) (p q : Point) (v w : List ℕ) (k l : ℕ) → Stands n i f p v k → Stands n i f q w l → slice_cmp nat_cmp v w ≡ nat_cmp k l
ordered n i empty p q v w k l s t = start_both i k l v w s.1 s.2 t.1 t.2
ordered n i (node x kids rest) p q v w k l (inl s) (inl t) = start_both i k l v w s.1 s.2 t.1 t.2
ordered n i (node x kids rest) p q v w k l (inl s) (inr (inl t)) = less (2 * i) (2 * i + 1) [] t.below v w k l s.1 t.place_is (omega arith) (omega (arith, s.2, t.count_is))
ordered n i (node x kids rest) p q v w k l (inl s) (inr (inr t)) =
    let u = from_on n (i + 1) rest q w t.past t.later in
    less (2 * i) u.first [] u.rest v w k l s.1 u.is (omega (arith, u.high)) (omega (arith, s.2, t.count_is))
ordered n i (node x kids rest) p q v w k l (inr (inl s)) (inl t) = more (2 * i + 1) (2 * i) s.below [] v w k l s.place_is t.1 (omega arith) (omega (arith, s.count_is, t.2))
ordered n i (node x kids rest) p q v w k l (inr (inl s)) (inr (inl t)) =
    rw (s.place_is, t.place_is, nat_cmp-same (2 * i + 1))
    (ordered-inside x kids p q s.below t.below s.past t.past (λ a b. ordered x.number 0 kids p q s.below t.below s.past t.past a b) s.inside t.inside
    ∙ more_both 0 s.past t.past k l (omega (arith, s.count_is)) (omega (arith, t.count_is)))
ordered n i (node x kids rest) p q v w k l (inr (inl s)) (inr (inr t)) =
    let u = from_on n (i + 1) rest q w t.past t.later in
    let h = at-within p s.past (tree_gaps x kids) (at-tree x kids p s.below s.past s.inside) in
    less (2 * i + 1) u.first s.below u.rest v w k l s.place_is u.is (omega (arith, u.high)) (omega (arith, h, s.count_is, t.count_is))
ordered n i (node x kids rest) p q v w k l (inr (inr s)) (inl t) =
    let u = from_on n (i + 1) rest p v s.past s.later in
    more u.first (2 * i) u.rest [] v w k l u.is t.1 (omega (arith, u.high)) (omega (arith, s.count_is, t.2))
ordered n i (node x kids rest) p q v w k l (inr (inr s)) (inr (inl t)) =
    let u = from_on n (i + 1) rest p v s.past s.later in
    let h = at-within q t.past (tree_gaps x kids) (at-tree x kids q t.below t.past t.inside) in
    more u.first (2 * i + 1) u.rest t.below v w k l u.is t.place_is (omega (arith, u.high)) (omega (arith, h, s.count_is, t.count_is))
ordered n i (node x kids rest) p q v w k l (inr (inr s)) (inr (inr t)) =
    ordered n (i + 1) rest p q v w s.past t.past s.later t.later
    ∙ more_both (length (tree_gaps x kids)) s.past t.past k l s.count_is t.count_is

pub ordered-tree : (x : Node Content) (kids : Forest Content) (p q : Point) (v w : List ℕ) (k l : ℕ) → StandsInTree x kids p v k → StandsInTree x kids q w l → slice_cmp nat_cmp v w ≡ nat_cmp k l
ordered-tree x kids p q v w k l s t = ordered-inside x kids p q v w k l (λ a b. ordered x.number 0 kids p q v w k l a b) s t
