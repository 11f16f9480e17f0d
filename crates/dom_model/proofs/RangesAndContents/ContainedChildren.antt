-- Of the children of the deepest common ancestor of a range's ends, those that lie between the two ways down to them are contained.
-- DOM Standard, "Interface Range".
use Rattle.std.proofs.Common.{◌≡◌, ℕ, zero, suc, ◌+◌, ◌*◌, ◌<◌, ◌≤◌, Bool, true, false, List, [], ◌∷◌, ◌++◌, take, filter, Some, refl, ap, sym, ◌∙◌, subst, arith, slice_get}
use Rattle.std.proofs.Math.Bool.{and-false}
use Rattle.std.proofs.lemmas.{Bool.false≢true, Bool.lt-ltb, Bool.le-ltb, Bool.Decides.nat_tests}
use lib.Seq.{take-nil}
use Rattle.dom_model.specs.Definitions.{hits, among, place_in, past, is_same, up_to, Forest, Grove, IsForest, occurs, parent_of, children_of, index_of, ancestors, root_of, unit_count, node_length, Content, Point, Range, IsRange, path_places, order_of, is_less, is_before, is_contained, common_ancestor, same_root, path_below, IsWay}
use Rattle.dom_model.proofs.PlainLists.Numbers.{same_or, same, apart}
use Rattle.dom_model.proofs.Forests.{Chains.index-apart, Chains.place-apart, Chains.root-child, Climbing.hits-first, Climbing.hits-among, Entries.occurs-HasNode, Indices.child-listed, Indices.child-once, Indices.child-parent, Indices.child-there, Indices.index-child, Indices.path-child, Listed.parted_at, WaysMeeting.above-root}
use Rattle.dom_model.proofs.BoundaryPoints.{PointOrder.nat_cmp-greater, PointOrder.order-one_node, PointOrder.order-above, OrderByWays.path-through, OrderByWays.order-below, OrderByWays.order-beside}
use Rattle.dom_model.proofs.RangesAndContents.{ContainedAside.start-not_contained, ContainedAside.end-not_contained, StartsAhead.got_place, WaysBelow.IsFork, WaysBelow.fork, WaysBelow.way-above, RangesSet.same-itself}

-- A list whose elements pass from one index on, and ahead of another.

abbrev pub Pass : (ℕ → Bool) → List ℕ → ℕ → ℕ → Type 0
Pass test ns i j = (k n : ℕ) → slice_get ns k ≡ Some n → (i ≤ k → k < j → test n ≡ true) × (k < i → test n ≡ false) × (j ≤ k → test n ≡ false)

none-pass : (test : ℕ → Bool) (ns : List ℕ) → ((k n : ℕ) → slice_get ns k ≡ Some n → test n ≡ false) → filter test ns ≡ []
none-pass test [] h = refl
none-pass test (n ∷ ns) h = rw (h 0 n refl) (none-pass test ns (λ k m e. h (suc k) m e))

between-pass : (test : ℕ → Bool) (ns : List ℕ) (i j : ℕ) → i ≤ j → Pass test ns i j → take j ns ≡ take i ns ++ filter test ns
between-pass test [] i j l h = take-nil j ∙ sym (ap (λ ms. ms ++ []) (take-nil i))
between-pass test (n ∷ ns) zero zero l h = sym (none-pass test (n ∷ ns) (λ k m e. (h k m e).2 (omega arith)))
between-pass test (n ∷ ns) zero (suc j) l h =
    let this : test n ≡ true = (h 0 n refl).0 (omega arith) (omega arith) in
    let rest = between-pass test ns zero j (omega arith) (λ k m e. let x = h (suc k) m e in (λ a b. x.0 (omega arith) (omega arith), λ a. absurd (omega arith), λ a. x.2 (omega arith))) in
    rw this (ap (λ ms. n ∷ ms) rest)
between-pass test (n ∷ ns) (suc i) zero l h = absurd (omega arith)
between-pass test (n ∷ ns) (suc i) (suc j) l h =
    let this : test n ≡ false = (h 0 n refl).1 (omega arith) in
    let rest = between-pass test ns i j (omega arith) (λ k m e. let x = h (suc k) m e in (λ a b. x.0 (omega arith) (omega arith), λ a. x.1 (omega arith), λ a. x.2 (omega arith))) in
    rw this (ap (λ ms. n ∷ ms) rest)

-- The parts of a list before a number and after it.

pub up_to-place : (n : ℕ) (ns : List ℕ) → 0 < hits n ns → take (place_in n ns) ns ≡ up_to n ns
up_to-place n [] h = absurd (omega arith)
up_to-place n (x ∷ xs) h =
    elim (same_or x n) [
      | same e t ↦ rw t refl
      | apart ne t ↦ (let k = rw t at h in let e : 1 + place_in n xs ≡ suc (place_in n xs) = omega arith in rw (t, e) (ap (λ ms. x ∷ ms) (up_to-place n xs (omega arith))))
    ]

pub up_to-through : (n : ℕ) (ns : List ℕ) → 0 < hits n ns → take (place_in n ns + 1) ns ≡ up_to n ns ++ n ∷ []
up_to-through n [] h = absurd (omega arith)
up_to-through n (x ∷ xs) h = grind (arith, nat_tests, up_to-through n xs)

pub around-one : (n : ℕ) (ns : List ℕ) → 0 < hits n ns → ns ≡ up_to n ns ++ (n ∷ past n ns)
around-one n ns h = parted_at n ns h

-- Of the children of a path's ancestor: those ahead of the point that the path leads to, and those through its child on the path.

abbrev pub ahead_in : ℕ → List ℕ → List ℕ → List ℕ
ahead_in offset [] ns = take offset ns
ahead_in offset (m ∷ path) ns = up_to m ns

abbrev pub through_in : ℕ → List ℕ → List ℕ → List ℕ
through_in offset [] ns = take offset ns
through_in offset (m ∷ path) ns = up_to m ns ++ m ∷ []

-- the index of the first child behind the point, and of that in which it lies
abbrev place_behind : Forest Content → Point → List ℕ → ℕ
place_behind f p [] = p.offset
place_behind f p (c ∷ path) = index_of f c + 1

abbrev place_at : Forest Content → Point → List ℕ → ℕ
place_at f p [] = p.offset
place_at f p (c ∷ path) = index_of f c

-- The children between the two ways.

module _ (g : Grove Content) (s : IsForest g) (r : Range) (is : IsRange g.forest r) where
  abbrev f : Forest Content
  f = g.forest

  abbrev pub top : ℕ
  top = common_ancestor g.forest r.start.node r.end.node

  hs : 0 < occurs r.start.node g.forest
  hs = occurs-HasNode g.forest r.start.node is.starts.there

  he : 0 < occurs r.end.node g.forest
  he = occurs-HasNode g.forest r.end.node is.ends.there

  pub forked : IsFork g.forest s.once r.start.node r.end.node top
  forked = fork g.forest s.once r.start.node r.end.node hs he is.one_root

  abbrev contained : ℕ → Bool
  contained x = is_contained unit_count g.forest r x

  abbrev front : ℕ → Point
  front x = record { node = x; offset = 0 }

  abbrev back : ℕ → Point
  back x = record { node = x; offset = node_length unit_count g.forest x }

  -- a child of the common ancestor, and its index
  record IsChild (k x : ℕ) : Type 0 where
    there : 0 < occurs x g.forest
    parent : parent_of g.forest x ≡ Some top
    index : index_of g.forest x ≡ k
    path : path_places g.forest x ≡ path_places g.forest top ++ (2 * k + 1) ∷ []

  child : (k x : ℕ) → slice_get (children_of g.forest top) k ≡ Some x → IsChild k x
  child k x e =
      let at = got_place (children_of g.forest top) k x (λ m. child-once g.forest s.once m top) e in
      let there = child-there g.forest s.once x top at.1 in
      let parent = child-parent g.forest s.once x top at.1 in
      let index = index-child g.forest x top parent ∙ at.0 in
      record {
        there = there;
        parent = parent;
        index = index;
        path = path-child g.forest s.once x top there parent ∙ ap (λ i. path_places g.forest top ++ (2 * i + 1) ∷ []) index;
      }

  -- children of one index are one
  one-child : (k x c : ℕ) → IsChild k x → 0 < occurs c g.forest → parent_of g.forest c ≡ Some top → index_of g.forest c ≡ k → x ≡ c
  one-child k x c i hc p e =
      place-apart x c (children_of g.forest top) (child-listed g.forest s.once x top i.there i.parent)
      (sym (index-child g.forest x top i.parent) ∙ i.index ∙ sym e ∙ index-child g.forest c top p)

  rooted : (k x : ℕ) → IsChild k x → same_root g.forest x r.start.node ≡ true
  rooted k x i =
      let a = root-child g.forest s.once x top i.there i.parent in
      let b = above-root g.forest s.once top r.start.node hs forked.there (on_start (path_below g.forest top r.start.node) forked.first) in
      ap (λ o. is_same o (root_of g.forest r.start.node)) (a ∙ b) ∙ same-itself (root_of g.forest r.start.node)
    where
      on_start : (path : List ℕ) → IsWay g.forest top path r.start.node → 0 < hits top (ancestors r.start.node g.forest)
      on_start path w = way-above g.forest s.once top path r.start.node forked.there hs w

  not-behind : (x : ℕ) → is_before g.forest r.start (front x) ≡ false → contained x ≡ false
  not-behind x e = simp (e, and-false)

  not-ahead : (x : ℕ) → is_before g.forest (back x) r.end ≡ false → contained x ≡ false
  not-ahead x e = simp (e, and-false)

  -- by the way to the start
  behind : (path : List ℕ) → IsWay g.forest top path r.start.node → (k x : ℕ) → IsChild k x → (place_behind g.forest r.start path ≤ k → is_before g.forest r.start (front x) ≡ true) × (k < place_behind g.forest r.start path → contained x ≡ false)
  behind [] w k x i =
      let p : path_places g.forest x ≡ path_places g.forest r.start.node ++ (2 * k + 1) ∷ [] = i.path ∙ ap (λ m. path_places g.forest m ++ (2 * k + 1) ∷ []) w in
      let o = ap is_less (order-above g.forest r.start.node x k r.start.offset 0 [] p) in (
        λ h. o ∙ (rw (le-ltb k r.start.offset h) refl),
        λ h. not-behind x (o ∙ (rw (lt-ltb k r.start.offset h) refl)),
      )
  behind (c ∷ path) w k x i =
      let above = way-above g.forest s.once c path r.start.node w.0 hs w.2 in
      elim (same_or x c) [
        | same d t ↦
            let e : index_of g.forest c ≡ k = ap (index_of g.forest) (sym d) ∙ i.index in (
              λ h. absurd (omega arith),
              λ h. subst (λ m. contained m ≡ false) (sym d) (start-not_contained g.forest s.once unit_count r c hs above),
            )
        | apart ne t ↦
            let far : index_of g.forest c ≡ k → ⊥ = λ e. ne (one-child k x c i w.0 w.1 e) in
            let way = path-through g.forest s.once r.start.node top c hs above w.1 in
            let o = ap is_less (order-beside g.forest r.start.node x top (index_of g.forest c) k r.start.offset 0 way.0 [] way.1 i.path far) in (
              λ h. o ∙ (rw (lt-ltb (index_of g.forest c) k (omega arith)) refl),
              λ h. let le : k ≤ index_of g.forest c = omega arith in not-behind x (o ∙ (rw (le-ltb (index_of g.forest c) k le) refl)),
            )
      ]

  -- by the way to the end
  ahead : (path : List ℕ) → IsWay g.forest top path r.end.node → (k x : ℕ) → IsChild k x → (k < place_at g.forest r.end path → is_before g.forest (back x) r.end ≡ true) × (place_at g.forest r.end path ≤ k → contained x ≡ false)
  ahead [] w k x i =
      let p : path_places g.forest x ≡ path_places g.forest r.end.node ++ (2 * k + 1) ∷ [] = i.path ∙ ap (λ m. path_places g.forest m ++ (2 * k + 1) ∷ []) w in
      let o = ap is_less (order-below g.forest x r.end.node k (node_length unit_count g.forest x) r.end.offset [] p) in (
        λ h. o ∙ (rw (lt-ltb k r.end.offset h) refl),
        λ h. not-ahead x (o ∙ (rw (le-ltb k r.end.offset h) refl)),
      )
  ahead (c ∷ path) w k x i =
      let above = way-above g.forest s.once c path r.end.node w.0 he w.2 in
      elim (same_or x c) [
        | same d t ↦
            let e : index_of g.forest c ≡ k = ap (index_of g.forest) (sym d) ∙ i.index in (
              λ h. absurd (omega arith),
              λ h. subst (λ m. contained m ≡ false) (sym d) (end-not_contained g.forest s.once unit_count s.kinds r c he is.ends.within above),
            )
        | apart ne t ↦
            let far : k ≡ index_of g.forest c → ⊥ = λ e. ne (one-child k x c i w.0 w.1 (sym e)) in
            let way = path-through g.forest s.once r.end.node top c he above w.1 in
            let o = ap is_less (order-beside g.forest x r.end.node top k (index_of g.forest c) (node_length unit_count g.forest x) r.end.offset [] way.0 i.path way.1 far) in (
              λ h. o ∙ (rw (lt-ltb k (index_of g.forest c) h) refl),
              λ h. not-ahead x (o ∙ (rw (le-ltb k (index_of g.forest c) h) refl)),
            )
      ]

  -- the ways do not cross
  in-order : (first last : List ℕ) → IsWay g.forest top first r.start.node → IsWay g.forest top last r.end.node → ((x : ℕ) → 0 < hits x first → among x (ancestors r.end.node g.forest) ≡ false) → place_behind g.forest r.start first ≤ place_at g.forest r.end last
  in-order [] [] v w off =
      let no : r.end.offset < r.start.offset → ⊥ = λ lt.
      is.in_order (ap (λ m. order_of g.forest r.start (record { node = m; offset = r.end.offset })) (sym w ∙ v) ∙ order-one_node g.forest r.start.node r.start.offset r.end.offset ∙ nat_cmp-greater r.start.offset r.end.offset lt) in
      omega arith
  in-order [] (c ∷ last) v w off =
      let above = way-above g.forest s.once c last r.end.node w.0 he w.2 in
      let way = path-through g.forest s.once r.end.node top c he above w.1 in
      let p = way.1 ∙ ap (λ m. path_places g.forest m ++ (2 * index_of g.forest c + 1) ∷ way.0) v in
      let o = order-above g.forest r.start.node r.end.node (index_of g.forest c) r.start.offset r.end.offset way.0 p in
      let no : index_of g.forest c < r.start.offset → ⊥ = λ lt. is.in_order (o ∙ (rw (lt-ltb (index_of g.forest c) r.start.offset lt) refl)) in
      omega arith
  in-order (b ∷ first) [] v w off =
      let above = way-above g.forest s.once b first r.start.node v.0 hs v.2 in
      let way = path-through g.forest s.once r.start.node top b hs above v.1 in
      let p = way.1 ∙ ap (λ m. path_places g.forest m ++ (2 * index_of g.forest b + 1) ∷ way.0) w in
      let o = order-below g.forest r.start.node r.end.node (index_of g.forest b) r.start.offset r.end.offset way.0 p in
      let no : r.end.offset ≤ index_of g.forest b → ⊥ = λ le. is.in_order (o ∙ (rw (le-ltb (index_of g.forest b) r.end.offset le) refl)) in
      omega arith
  in-order (b ∷ first) (c ∷ last) v w off =
      let above_start = way-above g.forest s.once b first r.start.node v.0 hs v.2 in
      let above_end = way-above g.forest s.once c last r.end.node w.0 he w.2 in
      let ways = path-through g.forest s.once r.start.node top b hs above_start v.1 in
      let waye = path-through g.forest s.once r.end.node top c he above_end w.1 in
      let far : index_of g.forest b ≡ index_of g.forest c → ⊥ = λ e.
      let one : b ≡ c = index-apart g.forest s.once b c top v.0 v.1 w.1 e in
      let on = hits-among c (ancestors r.end.node g.forest) above_end in
      false≢true (sym (off b (hits-first b first)) ∙ ap (λ m. among m (ancestors r.end.node g.forest)) one ∙ on) in
      let o = order-beside g.forest r.start.node r.end.node top (index_of g.forest b) (index_of g.forest c) r.start.offset r.end.offset ways.0 waye.0 ways.1 waye.1 far in
      let no : index_of g.forest c ≤ index_of g.forest b → ⊥ = λ le. is.in_order (o ∙ (rw (le-ltb (index_of g.forest b) (index_of g.forest c) le) refl)) in
      omega arith

  through-place : (path : List ℕ) → IsWay g.forest top path r.start.node → take (place_behind g.forest r.start path) (children_of g.forest top) ≡ through_in r.start.offset path (children_of g.forest top)
  through-place [] w = refl
  through-place (c ∷ path) w =
      ap (λ k. take (k + 1) (children_of g.forest top)) (index-child g.forest c top w.1)
      ∙ up_to-through c (children_of g.forest top) (child-listed g.forest s.once c top w.0 w.1)

  ahead-place : (path : List ℕ) → IsWay g.forest top path r.end.node → take (place_at g.forest r.end path) (children_of g.forest top) ≡ ahead_in r.end.offset path (children_of g.forest top)
  ahead-place [] w = refl
  ahead-place (c ∷ path) w =
      ap (λ k. take k (children_of g.forest top)) (index-child g.forest c top w.1)
      ∙ up_to-place c (children_of g.forest top) (child-listed g.forest s.once c top w.0 w.1)

  -- the children ahead of the end are those through the start, and the contained ones
  pub contained-between : ahead_in r.end.offset (path_below g.forest top r.end.node) (children_of g.forest top) ≡ through_in r.start.offset (path_below g.forest top r.start.node) (children_of g.forest top) ++ filter (is_contained unit_count g.forest r) (children_of g.forest top)
  contained-between =
      let first = path_below g.forest top r.start.node in
      let last = path_below g.forest top r.end.node in
      sym (ahead-place (path_below g.forest top r.end.node) forked.second)
      ∙ between-pass contained (children_of g.forest top) (place_behind g.forest r.start (path_below g.forest top r.start.node)) (place_at g.forest r.end (path_below g.forest top r.end.node))
      (in-order (path_below g.forest top r.start.node) (path_below g.forest top r.end.node) forked.first forked.second forked.off)
      (λ k x e.
      let i = child k x e in
      let a = behind (path_below g.forest top r.start.node) forked.first k x i in
      let b = ahead (path_below g.forest top r.end.node) forked.second k x i in (
        λ h l. let root = rooted k x i in let start = a.0 h in let end = b.0 l in rw (root, start, end) refl,
        λ h. a.1 h,
        λ h. b.1 h,
      ))
      ∙ ap (λ ms. ms ++ filter (is_contained unit_count g.forest r) (children_of g.forest top)) (through-place (path_below g.forest top r.start.node) forked.first)
