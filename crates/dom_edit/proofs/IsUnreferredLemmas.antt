-- A child leaves a node inside which no end of a live range stands: no end moves. DOM Standard, "Mutation algorithms": remove; "Live ranges".
use Rattle.std.proofs.Common.{◌≡◌, ℕ, ◌<◌, ◌≤◌, Bool, true, false, List, [], ◌∷◌, Option, Some, refl, ap, sym, ◌∙◌, subst, arith, ⊎_elim}
use Rattle.std.proofs.lemmas.Bool.{cases_lt}
use Rattle.std.specs.List.{list_any}
use Rattle.dom_model.specs.Definitions.{hits, among, Forest, occurs, parent_of, index_of, ancestors, inclusive_descendants, Content, Range, map_ranges, after_removal, remove}
use Rattle.dom_model.proofs.PlainLists.Numbers.{same_or, same, apart}
use Rattle.dom_model.proofs.Forests.{Climbing.hits-first, Climbing.hits-not_among, Climbing.ancestors-absent, Indices.parent-there, Paths.parent-path, ToTheRoot.inside-same, WaysMeeting.above-itself, WaysMeeting.above-child}
use Rattle.dom_model.proofs.MutationAlgorithms.Loosened.{loosened-remove, parent-remove}
use Rattle.dom_model.proofs.RangesAndContents.RangesElsewhere.{removal-elsewhere}
use Rattle.dom_ranges.specs.Tables.{RangeTable, live_nodes}
use Rattle.dom_edit.specs.{declared.world.World.World, Whole.IsWhole, Whole.Follows, Whole.unwatched, Insertion.IsUnreferred}
use Rattle.dom_edit.proofs.{FollowsLemmas.sound-unwatched, InsertLemmas.forest-after}

-- a test that no number of a list passes
none-passes : (test : ℕ → Bool) (xs : List ℕ) → ((m : ℕ) → 0 < hits m xs → test m ≡ false) → list_any test xs ≡ false
none-passes test [] h = refl
none-passes test (x ∷ xs) h =
    rw (h x (hits-first x xs), none-passes test xs (λ m k. h m (omega arith))) refl

-- what no inclusive ancestor of a held node is, no inclusive ancestor of a number that no node has is
none-above : (f : Forest Content) (n m : ℕ) → (0 < occurs m f → hits n (ancestors m f) ≡ 0) → hits n (ancestors m f) ≡ 0
none-above f n m h =
    ⊎_elim
    (λ (lt : 0 < occurs m f). h lt)
    (λ (le : occurs m f ≤ 0). ap (hits n) (ancestors-absent m f (omega arith)))
    (cases_lt 0 (occurs m f))

module _ (v : World) (h : IsWhole v) (p n : ℕ) (e : parent_of v.tree.forest n ≡ Some p) (u : IsUnreferred v p) where
  there : 0 < occurs n v.tree.forest
  there = parent-there v.tree.forest n p e

  parent_there : 0 < occurs p v.tree.forest
  parent_there = (parent-path v.tree.forest h.forest.once n p there e).0

  not_in_parent : among p (live_nodes v.ranges) ≡ false
  not_in_parent =
      hits-not_among p (live_nodes v.ranges)
      (⊎_elim
      (λ (lt : 0 < hits p (live_nodes v.ranges)). absurd (let z = u p lt in let i = above-itself v.tree.forest h.forest.once p parent_there in omega arith))
      (λ (le : hits p (live_nodes v.ranges) ≤ 0). omega arith)
      (cases_lt 0 (hits p (live_nodes v.ranges))))

  -- nor inside the child
  not_below : (m : ℕ) → 0 < hits m (live_nodes v.ranges) → hits n (ancestors m v.tree.forest) ≡ 0
  not_below m k =
      none-above v.tree.forest n m (λ hm.
      ⊎_elim
      (λ (lt : 0 < hits n (ancestors m v.tree.forest)). absurd (let z = u m k in let i = above-child v.tree.forest h.forest.once n p m hm there lt e in omega arith))
      (λ (le : hits n (ancestors m v.tree.forest) ≤ 0). omega arith)
      (cases_lt 0 (hits n (ancestors m v.tree.forest))))

  not_inside : list_any (λ m. among m (inclusive_descendants v.tree.forest n)) (live_nodes v.ranges) ≡ false
  not_inside =
      none-passes (λ m. among m (inclusive_descendants v.tree.forest n)) (live_nodes v.ranges)
      (λ m k. sym (inside-same {g = v.tree} h.forest n m) ∙ hits-not_among n (ancestors m v.tree.forest) (not_below m k))

  -- all ends stay where they are
  pub ends-stay : v.ranges ≡ record { ranges = map_ranges (after_removal (inclusive_descendants v.tree.forest n) p (index_of v.tree.forest n)) v.ranges.ranges; covered = v.ranges.covered }
  ends-stay =
      ap (λ (rs : List (Option Range)). record { ranges = rs; covered = v.ranges.covered })
      (sym (removal-elsewhere (inclusive_descendants v.tree.forest n) p (index_of v.tree.forest n) v.ranges.ranges not_inside not_in_parent))

  module _ (b : World) (f : Follows v b (remove true n)) (ranges : b.ranges ≡ v.ranges) where
    -- and none stands inside the parent after that
    pub still-unreferred : IsUnreferred b p
    still-unreferred m k =
        let l = loosened-remove true n (unwatched v) (sound-unwatched v h) there in
        let g : b.tree.forest ≡ (remove true n (unwatched v)).forest = forest-after v b (remove true n) f in
        let live : 0 < hits m (live_nodes v.ranges) = subst (λ (t : RangeTable). 0 < hits m (live_nodes t)) ranges k in
        none-above b.tree.forest p m (λ hb.
        let hm : 0 < occurs m v.tree.forest = subst (λ x. 0 < x) (ap (occurs m) g ∙ l.numbers m) hb in
        let i = l.paths p m hm in
        let j = ap (λ (t : Forest Content). hits p (ancestors m t)) g in
        let z = u m live in
        omega arith)

    -- another child keeps the parent
    pub still-child : (m : ℕ) → (m ≡ n → ⊥) → parent_of v.tree.forest m ≡ Some p → parent_of b.tree.forest m ≡ Some p
    still-child m ne i =
        ap (λ (t : Forest Content). parent_of t m) (forest-after v b (remove true n) f)
        ∙ parent-remove true n (unwatched v) (sound-unwatched v h) there m
        ∙ (elim (same_or m n) [ same d t ↦ absurd (ne d) | apart _ t ↦ rw t i ])

-- the children that are left when some have left: each stands under the parent still, and comes once
pub record AreLeft (v : World) (p : ℕ) (ns : List ℕ) : Type 0 where
  pub whole : IsWhole v
  pub unreferred : IsUnreferred v p
  pub under : (m : ℕ) → 0 < hits m ns → parent_of v.tree.forest m ≡ Some p
  pub once : (m : ℕ) → hits m ns ≤ 1

pub first-left : (v : World) (p n : ℕ) (ns : List ℕ) → AreLeft v p (n ∷ ns) → parent_of v.tree.forest n ≡ Some p
first-left v p n ns l = l.under n (hits-first n ns)

-- the first of them leaves
pub rest-left : (v b : World) (p n : ℕ) (ns : List ℕ) → AreLeft v p (n ∷ ns) → Follows v b (remove true n) → b.ranges ≡ v.ranges → IsWhole b → AreLeft b p ns
rest-left v b p n ns l f ranges whole =
    let e = first-left v p n ns l in
    record {
      whole = whole;
      unreferred = still-unreferred v l.whole p n e l.unreferred b f ranges;
      under = λ m k.
          elim (same_or n m) [
            | same d t ↦ absurd (let o = rw t at (l.once m) in omega arith)
            | apart ne t ↦ still-child v l.whole p n e l.unreferred b f ranges m (λ d. ne (sym d)) (l.under m (rw t (omega arith)))
          ];
      once = λ m. (let o = l.once m in omega arith);
    }
