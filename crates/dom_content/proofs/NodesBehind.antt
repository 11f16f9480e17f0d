-- What comes in tree order behind the last node ahead of a point stands behind the point. DOM Standard, "Trees", "Boundary points".
use Rattle.std.proofs.Common.{◌≡◌, ℕ, ◌+◌, ◌<◌, ◌≤◌, nat_lt, Bool, true, false, if◌then◌else◌, List, [], ◌∷◌, zero, suc, length, slice_get, Some, None, refl, ap, sym, ◌∙◌, arith, ⊎_elim, Less, Greater}
use Rattle.std.proofs.lemmas.Bool.{cases_Bool, cases_lt, false≢true, lt-ltb, le-ltb}
use Rattle.dom_model.specs.Definitions.{hits, among, after, last_of, from_first, Grove, IsForest, HasNode, occurs, one_at, parent_of, children_of, index_of, ancestors, root_of, tree_at, inclusive_descendants, node_length, unit_count, Content, Point, order_of, is_less, is_before, path_below, IsWay}
use Rattle.dom_model.proofs.PlainLists.{Members.hits-last_of, Places.place-there}
use Rattle.dom_model.proofs.Forests.{Above.above, Chains.index-apart, Climbing.hits-append, Climbing.hits-first, Climbing.hits-among, Climbing.among-hits, Entries.occurs-HasNode, Entries.HasNode-occurs, Indices.child-listed, Indices.child-once, Indices.child-parent, Indices.index-child, Indices.path-child, Indices.parent-there, Totals.total-tree_at, ToTheRoot.inside, ToTheRoot.inside-among, ToTheRoot.root-above, TreeOrder.Flattened.hits-numbers, WaysMeeting.above-root, TreeOrder.InsideWalks.rest-next}
use Rattle.dom_model.proofs.BoundaryPoints.{OrderByWays.path-through, PointOrder.nat_cmp-less, PointOrder.order-one_node, PointOrder.order-above}
use Rattle.dom_model.proofs.RangesAndContents.{StartsAhead.got_place, WaysBelow.way-below, WaysBelow.way-above}
use Rattle.dom_model.proofs.Soundness.SoundForests.{parent-passes}
use Rattle.dom_model.proofs.Worlds.Measured.{length-parent}
use Rattle.dom_content.proofs.{AlongGaps.gap, AlongGaps.before, AlongGaps.order-is, AlongGaps.from-less, AlongGaps.there, AlongGaps.step, AlongGaps.later, NodesInOrder.ahead-after, NodesPassed.IsPassed, NodesPassed.passed, PartsBetween.split, PointsAside.aside}

ahead-is : (v : Bool) → (if v then Less else Greater) ≡ Less → v ≡ true
ahead-is true e = refl
ahead-is false e = absurd (cc e)

not-behind : (i a : ℕ) → (if nat_lt i a then Greater else Less) ≡ Less → a ≤ i
not-behind i a e = ⊎_elim (λ (lt : i < a). absurd (let k = rw (lt-ltb i a lt) at e in cc k)) (λ (le : a ≤ i). le) (cases_lt i a)

get-none : (ns : List ℕ) (k : ℕ) → slice_get ns k ≡ None → length ns ≤ k
get-none [] k e = omega arith
get-none (n ∷ ns) zero e = absurd (cc e)
get-none (n ∷ ns) (suc k) e = let i = get-none ns k e in omega arith

module _ (g : Grove Content) (s : IsForest g) (p : Point) (hp : HasNode g.forest p.node) (root : ℕ) (rooted : root_of g.forest p.node ≡ Some root) (within : p.offset ≤ node_length unit_count g.forest p.node) where
  abbrev node_place : ℕ → Point
  node_place a = record { node = p.node; offset = a }

  abbrev front : ℕ → Point
  front n = record { node = n; offset = 0 }

  hn : 0 < occurs p.node g.forest
  hn = occurs-HasNode g.forest p.node hp

  -- the next in tree order stands behind the front of the point's node
  next-behind : (m : ℕ) → after p.node (inclusive_descendants g.forest root) ≡ Some m → order_of g.forest (front p.node) (front m) ≡ Less
  next-behind m e = ahead-after g s root p.node hn (there g s root p.node rooted) m e

  pub behind-itself : (m : ℕ) → p.offset ≡ 0 → after p.node (inclusive_descendants g.forest root) ≡ Some m → is_before g.forest p (front m) ≡ true
  behind-itself m z e = ap (λ a. is_before g.forest (node_place a) (front m)) z ∙ ap is_less (next-behind m e)

  -- what is not inside the node stands behind each point of it, where it stands behind one
  all-ahead : (m a b : ℕ) → 0 < occurs m g.forest → root_of g.forest m ≡ Some root → among p.node (ancestors m g.forest) ≡ false → order_of g.forest (node_place a) (front m) ≡ Less → is_before g.forest (node_place b) (front m) ≡ true
  all-ahead m a b hm rm out less =
      let i = aside g.forest s.once p.node m 0 hn hm (rooted ∙ sym rm) out in
      let v = ahead-is i.is_ahead (sym (i.stands a) ∙ less) in
      ap is_less (i.stands b) ∙ (rw v refl)

  pub behind-childless : (m k : ℕ) → p.offset ≡ k + 1 → slice_get (children_of g.forest p.node) k ≡ None → after p.node (inclusive_descendants g.forest root) ≡ Some m → is_before g.forest p (front m) ≡ true
  behind-childless m k z none e =
      let less = next-behind m e in
      let next = step g s root p.node m hp rooted e in
      let hm = occurs-HasNode g.forest m next.1 in
      ⊎_elim
      (λ (i : among p.node (ancestors m g.forest) ≡ true).
      absurd (never (path_below g.forest p.node m) less (way-below g.forest s.once p.node m hm (among-hits p.node (ancestors m g.forest) i))))
      (λ (i : among p.node (ancestors m g.forest) ≡ false). all-ahead m 0 p.offset hm next.0 i less)
      (cases_Bool (among p.node (ancestors m g.forest)))
    where
      not-itself : (n m : ℕ) → n ≡ m → order_of g.forest (front n) (front m) ≡ Less → ⊥
      not-itself n m d less =
          let same : order_of g.forest (front n) (front n) ≡ Less = ap (λ x. order_of g.forest (front n) (front x)) d ∙ less in
          let lt = from-less 0 0 (ap is_less (sym (order-one_node g.forest n 0 0) ∙ same)) in
          omega arith

      never : (path : List ℕ) → order_of g.forest (front p.node) (front m) ≡ Less → IsWay g.forest p.node path m → ⊥
      never [] less w = not-itself p.node m w less
      never (c ∷ path) less w =
          let listed = place-there c (children_of g.forest p.node) (child-listed g.forest s.once c p.node w.0 w.1) in
          let long = length-parent g.forest p.node (parent-passes s c p.node w.1 w.0) in
          let few = get-none (children_of g.forest p.node) k none in
          omega arith

  module _ (k child last m : ℕ) (z : p.offset ≡ k + 1) (ek : slice_get (children_of g.forest p.node) k ≡ Some child) (el : last_of (inclusive_descendants g.forest child) ≡ Some last) (e : after last (inclusive_descendants g.forest root) ≡ Some m) where
    up : parent_of g.forest child ≡ Some p.node
    up = child-parent g.forest s.once child p.node (got_place (children_of g.forest p.node) k child (λ i. child-once g.forest s.once i p.node) ek).1

    index : index_of g.forest child ≡ k
    index = index-child g.forest child p.node up ∙ (got_place (children_of g.forest p.node) k child (λ i. child-once g.forest s.once i p.node) ek).0

    hc : 0 < occurs child g.forest
    hc = parent-there g.forest child p.node up

    child_rooted : root_of g.forest child ≡ Some root
    child_rooted = sym (root-above g.forest child p.node (above s child p.node (HasNode-occurs g.forest child hc) up)) ∙ rooted

    gone : IsPassed g s root child last
    gone = passed g s root child last (HasNode-occurs g.forest child hc) child_rooted el

    last_listed : 0 < hits last (inclusive_descendants g.forest child)
    last_listed = hits-last_of (inclusive_descendants g.forest child) last el

    last_inside : 0 < occurs last (tree_at child g.forest)
    last_inside = let i = last_listed in omega (arith, hits-numbers last (tree_at child g.forest))

    hl : 0 < occurs last g.forest
    hl = let i = last_inside in omega (arith, total-tree_at (one_at last) child g.forest)

    last_rooted : root_of g.forest last ≡ Some root
    last_rooted = sym (above-root g.forest s.once child last hl hc (among-hits child (ancestors last g.forest) (inside-among s child last last_inside))) ∙ child_rooted

    next : (root_of g.forest m ≡ Some root) × HasNode g.forest m
    next = step g s root last m (HasNode-occurs g.forest last hl) last_rooted e

    hm : 0 < occurs m g.forest
    hm = occurs-HasNode g.forest m next.1

    -- it is not inside the child
    outside : among child (ancestors m g.forest) ≡ false
    outside =
        ⊎_elim
        (λ (i : among child (ancestors m g.forest) ≡ true).
        let listed : 0 < hits m (inclusive_descendants g.forest root) = (let j = there g s root m next.0 in omega (arith, hits-numbers m (tree_at root g.forest))) in
        let r = split m (inclusive_descendants g.forest root) listed in
        let same : last ∷ gone.behind ≡ last ∷ (m ∷ r.rest) = sym gone.second ∙ rest-next g s root last m e ∙ ap (λ ns. last ∷ ns) r.from in
        let rest : gone.behind ≡ m ∷ r.rest = cc same in
        let a = ap (hits m) rest in
        let b = hits-first m r.rest in
        let c = gone.once m in
        let d = inside s child m i in
        absurd (omega (arith, hits-numbers m (tree_at child g.forest))))
        (λ (i : among child (ancestors m g.forest) ≡ false). i)
        (cases_Bool (among child (ancestors m g.forest)))

    -- and stands behind the point ahead of the child
    past-child : order_of g.forest (node_place k) (front m) ≡ Less
    past-child =
        let a = gap g s root (node_place k) rooted (omega arith) in
        let b = gap g s root (front child) child_rooted (omega arith) in
        let c = gap g s root (front last) last_rooted (omega arith) in
        let d = gap g s root (front m) next.0 (omega arith) in
        let no : nat_lt (index_of g.forest child) k ≡ false = (let i = index in le-ltb (index_of g.forest child) k (omega arith)) in
        let first : order_of g.forest (node_place k) (front child) ≡ Less = order-above g.forest p.node child (index_of g.forest child) k 0 [] (path-child g.forest s.once child p.node hc up) ∙ (rw no refl) in
        let third = ahead-after g s root last hl (there g s root last last_rooted) m e in
        let i = before g s root (node_place k) (front child) a b (ap is_less first) in
        let listed : 0 < hits last (from_first child (inclusive_descendants g.forest root)) =
        (let u = ap (hits last) gone.first in let v = ap (hits last) gone.own in let w = hits-append last (child ∷ gone.within) gone.behind in let x = last_listed in omega arith) in
        let j = later g s root (length (from_first child (inclusive_descendants g.forest root))) child last b.place c.place (omega arith) (HasNode-occurs g.forest child hc) child_rooted listed b.is c.is in
        let l = before g s root (front last) (front m) c d (ap is_less third) in
        order-is g s root (node_place k) (front m) a.place d.place a.rooted d.rooted a.within d.within a.is d.is ∙ nat_cmp-less a.place d.place (omega arith)

    pub behind-child : is_before g.forest p (front m) ≡ true
    behind-child =
        ⊎_elim
        (λ (i : among p.node (ancestors m g.forest) ≡ true). on (path_below g.forest p.node m) (way-below g.forest s.once p.node m hm (among-hits p.node (ancestors m g.forest) i)))
        (λ (i : among p.node (ancestors m g.forest) ≡ false). all-ahead m k p.offset hm next.0 i past-child)
        (cases_Bool (among p.node (ancestors m g.forest)))
      where
        itself : (n : ℕ) → n ≡ m → order_of g.forest (record { node = n; offset = k }) (front m) ≡ Less → ⊥
        itself n d less =
            let same : order_of g.forest (record { node = n; offset = k }) (front n) ≡ Less = ap (λ x. order_of g.forest (record { node = n; offset = k }) (front x)) d ∙ less in
            let lt = from-less k 0 (ap is_less (sym (order-one_node g.forest n k 0) ∙ same)) in
            omega arith

        on : (path : List ℕ) → IsWay g.forest p.node path m → is_before g.forest p (front m) ≡ true
        on [] w = absurd (itself p.node w past-child)
        on (d ∷ path) w =
            let over = way-above g.forest s.once d path m w.0 hm w.2 in
            let way = path-through g.forest s.once m p.node d hm over w.1 in
            let le = not-behind (index_of g.forest d) k (sym (order-above g.forest p.node m (index_of g.forest d) k 0 way.0 way.1) ∙ past-child) in
            let far : index_of g.forest d ≡ k → ⊥ = λ i.
            let one : d ≡ child = index-apart g.forest s.once d child p.node w.0 w.1 up (i ∙ sym index) in
            false≢true (sym outside ∙ ap (λ x. among x (ancestors m g.forest)) (sym one) ∙ hits-among d (ancestors m g.forest) over) in
            let lt : p.offset ≤ index_of g.forest d = ⊎_elim (λ (q : k < index_of g.forest d). omega arith) (λ (q : index_of g.forest d ≤ k). absurd (far (omega arith))) (cases_lt k (index_of g.forest d)) in
            ap is_less (order-above g.forest p.node m (index_of g.forest d) p.offset 0 way.0 way.1) ∙ (rw (le-ltb (index_of g.forest d) p.offset lt) refl)
