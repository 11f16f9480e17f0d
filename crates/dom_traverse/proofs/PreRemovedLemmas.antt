-- An iterator that has given way to a node does so no more: its reference is outside.
use Rattle.std.proofs.Common.{◌≡◌, ℕ, ◌+◌, ◌<◌, ◌≤◌, ◌==◌, Bool, true, false, not, ◌&&◌, if◌then◌else◌, List, [], ◌∷◌, ◌++◌, Option, Some, None, refl, sym, ap, ◌∙◌, arith, ◌⊎◌, inl, inr}
use Rattle.std.proofs.lemmas.Bool.{not-true, and_parts}
use Rattle.dom_model.specs.Definitions.{hits, among, head_of, before, past, Forest, occurs, numbers, tree_at, without, inclusive_descendants, Iterator, following_outside, moved_on, moved_back, stepped_off, pre_removed_among, pre_removed}
use Rattle.dom_model.proofs.Forests.{Totals.IsOnce, Climbing.among-hits, Climbing.hits-not_among, Climbing.hits-append, Climbing.hits-first, Below.occurs-tree, TreeOrder.Flattened.Piece, TreeOrder.Flattened.hits-numbers, TreeOrder.Flattened.numbers-without, TreeOrder.Ordering.Single, TreeOrder.Ordering.single, TreeOrder.Ordering.tree_at-single}
use Rattle.dom_model.proofs.Traversal.IteratorsStay.{filter-passes, tree_at-inside, before-ahead}

-- the node just before those inside n is not one of them
module _ {X : Type 0} (f : Forest X) (o : IsOnce f) (n c : ℕ) where
  pub before-outside : (y : ℕ) → among n (inclusive_descendants f c) ≡ true → before n (inclusive_descendants f c) ≡ Some y → among y (inclusive_descendants f n) ≡ false
  before-outside y there e = ap (among y) same-tree ∙ hits-not_among y (numbers part) absent
    where
      part : Forest X
      part = tree_at n (tree_at c f)

      in_part : 0 < occurs n (tree_at c f)
      in_part = omega (arith, hits-numbers n (tree_at c f), among-hits n (inclusive_descendants f c) there)

      once-in : (m : ℕ) → occurs m (tree_at c f) ≤ 1
      once-in m = omega (arith, o m, occurs-tree m c f)

      same-tree : inclusive_descendants f n ≡ numbers part
      same-tree = ap numbers (sym (tree_at-inside n c f o in_part))

      piece : Piece (numbers (tree_at c f)) (numbers part) (numbers (without n (tree_at c f)))
      piece = numbers-without n (tree_at c f) (omega (arith, in_part, once-in n))

      absent : hits y (numbers part) ≡ 0
      absent = from (tree_at-single n (tree_at c f) (omega (arith, in_part, once-in n)))
        where
          count : (m : ℕ) → hits m (inclusive_descendants f c) ≡ hits m piece.ahead + (hits m (numbers part) + hits m piece.behind)
          count m = ap (hits m) piece.holds ∙ hits-append m piece.ahead (numbers part ++ piece.behind) ∙ ap (λ k. hits m piece.ahead + k) (hits-append m (numbers part) piece.behind)

          once-all : (m : ℕ) → hits m (inclusive_descendants f c) ≤ 1
          once-all m = omega (arith, hits-numbers m (tree_at c f), once-in m)

          from : Single n part → hits y (numbers part) ≡ 0
          from (single x kids e1 t) =
              let first : numbers part ≡ n ∷ (numbers kids ++ []) = ap numbers t ∙ ap (λ m. m ∷ (numbers kids ++ [])) e1 in
              let spelled : inclusive_descendants f c ≡ piece.ahead ++ n ∷ ((numbers kids ++ []) ++ piece.behind) = piece.holds ∙ ap (λ ns. piece.ahead ++ (ns ++ piece.behind)) first in
              let not_ahead : hits n piece.ahead ≡ 0 = omega (arith, count n, once-all n, ap (hits n) first, hits-first n (numbers kids ++ [])) in
              told (before-ahead None n piece.ahead ((numbers kids ++ []) ++ piece.behind) y not_ahead (ap (before n) (sym spelled) ∙ e))
            where
              told : (None ≡ Some y) ⊎ (0 < hits y piece.ahead) → hits y (numbers part) ≡ 0
              told (inl d) = absurd (cc d)
              told (inr k) = omega (arith, count y, once-all y)

module _ (n : ℕ) (inside all : List ℕ) where
  outside-stays : (j : Iterator) → among j.reference inside ≡ false → pre_removed_among n inside all j ≡ j
  outside-stays j h = rw h refl

  root-kept : (i : Iterator) → (pre_removed_among n inside all i).root ≡ i.root
  root-kept i = go (among i.reference inside && (not (n == i.root) && among n all)) i.before (head_of (following_outside n inside all))
    where
      go : (v w : Bool) (m : Option ℕ) → (if v then (if w then moved_on m (before n all) i else moved_back (before n all) i) else i).root ≡ i.root
      go true true None = refl
      go true true (Some x) = refl
      go true false m = refl
      go false w m = refl

  module _ (apart : (y : ℕ) → among n all ≡ true → before n all ≡ Some y → among y inside ≡ false) (i : Iterator) where
    module _ (h : (among i.reference inside && (not (n == i.root) && among n all)) ≡ true) where
      there : among n all ≡ true
      there = (and_parts (not (n == i.root)) (among n all) (and_parts (among i.reference inside) (not (n == i.root) && among n all) h).1).1

      stepped : pre_removed_among n inside all (stepped_off n inside all i) ≡ stepped_off n inside all i
      stepped = go i.before (head_of (following_outside n inside all)) (before n all) refl refl refl
        where
          go : (b : Bool) (m p : Option ℕ) → i.before ≡ b → head_of (following_outside n inside all) ≡ m → before n all ≡ p
              → pre_removed_among n inside all (if b then moved_on m p i else moved_back p i) ≡ (if b then moved_on m p i else moved_back p i)
          go true (Some x) p e f g = outside-stays (moved_on (Some x) p i) (not-true (among x inside) (filter-passes (λ m. not (among m inside)) (past n all) x f).1)
          go true None (Some y) e f g = outside-stays (moved_on None (Some y) i) (apart y there g)
          go true None None e f g = rw (h, g) refl
          go false m (Some y) e f g = outside-stays (moved_back (Some y) i) (apart y there g)
          go false m None e f g = rw (h, e, g) refl

    twice : pre_removed_among n inside all (pre_removed_among n inside all i) ≡ pre_removed_among n inside all i
    twice = go (among i.reference inside && (not (n == i.root) && among n all)) refl
      where
        go : (v : Bool) → (among i.reference inside && (not (n == i.root) && among n all)) ≡ v → pre_removed_among n inside all (pre_removed_among n inside all i) ≡ pre_removed_among n inside all i
        go true h =
            let a : pre_removed_among n inside all i ≡ stepped_off n inside all i = rw h refl in
            ap (pre_removed_among n inside all) a ∙ stepped h ∙ sym a
        go false h = let a : pre_removed_among n inside all i ≡ i = rw h refl in ap (pre_removed_among n inside all) a

module _ {X : Type 0} (f : Forest X) (o : IsOnce f) (n : ℕ) where
  -- an iterator with its reference elsewhere stays
  pub elsewhere : (i : Iterator) → among i.reference (inclusive_descendants f n) ≡ false → pre_removed f n i ≡ i
  elsewhere i h = outside-stays n (inclusive_descendants f n) (inclusive_descendants f i.root) i h

  -- a second step changes nothing
  pub once-only : (i : Iterator) → pre_removed f n (pre_removed f n i) ≡ pre_removed f n i
  once-only i =
      let inside = inclusive_descendants f n in
      let all = inclusive_descendants f i.root in
      ap (λ r. pre_removed_among n inside (inclusive_descendants f r) (pre_removed_among n inside all i)) (root-kept n inside all i)
      ∙ twice n inside all (before-outside f o n i.root) i

-- its root is the same
pub root-stays : {X : Type 0} (f : Forest X) (n : ℕ) (i : Iterator) → (pre_removed f n i).root ≡ i.root
root-stays f n i = root-kept n (inclusive_descendants f n) (inclusive_descendants f i.root) i
