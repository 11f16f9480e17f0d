-- The answers where the ways up from two nodes meet.
use Rattle.std.proofs.Common.{◌≡◌, ℕ, ◌<◌, nat_lt, if◌then◌else◌, Option, Some, None, ap, sym, ◌∙◌, subst, Less, Greater}
use Rattle.std.specs.Ordering.{nat_cmp}
use Rattle.dom_model.specs.Definitions.{hits, Grove, HasNode, parent_of, index_of, ancestors, IsForest, Point, order_of, common_ancestor}
use Rattle.dom_model.proofs.Forests.{Climbing.among-hits, Chains.index-apart, Indices.parent-there, Entries.occurs-HasNode, WaysMeeting.met-first, WaysMeeting.met-second, WaysMeeting.met-between}
use Rattle.dom_model.proofs.BoundaryPoints.{PointOrder.order-one_node, PointOrder.order-above, OrderByWays.path-through, OrderByWays.order-below, OrderByWays.order-beside}
use Rattle.dom_tree.specs.PathsUp.{IsOnWay, AreApart}
use Rattle.dom_tree.proofs.PathsUpLemmas.{way-held}

module _ {X : Type 0} {g : Grove X} (s : IsForest g) where
  -- where ways that meet come from different children, they meet in the deepest node above both
  pub ways-common : (n m c : ℕ) (first second : Option ℕ) → HasNode g.forest n → HasNode g.forest m → IsOnWay g.forest n c first → IsOnWay g.forest m c second → AreApart first second → c ≡ common_ancestor g.forest n m
  ways-common n m c None second hn hm v w ne =
      let i = among-hits c (ancestors m g.forest) w.above in
      let j : 0 < hits n (ancestors m g.forest) = subst (λ x. 0 < hits x (ancestors m g.forest)) (sym v.through) i in
      sym v.through ∙ sym (met-first g.forest s.once n m (occurs-HasNode g.forest n hn) j)
  ways-common n m c (Some a) None hn hm v w ne =
      let e : parent_of g.forest a ≡ Some m = v.through.0 ∙ ap (λ x. Some x) (sym w.through) in
      sym w.through
      ∙ sym (met-second g.forest s.once n m a (occurs-HasNode g.forest n hn) (occurs-HasNode g.forest m hm) (parent-there g.forest a m e) e (among-hits a (ancestors n g.forest) v.through.1))
  ways-common n m c (Some a) (Some b) hn hm v w ne =
      sym (met-between g.forest s.once n m c a b (occurs-HasNode g.forest n hn) (occurs-HasNode g.forest m hm) (occurs-HasNode g.forest c (way-held s n c (Some a) hn v)) (parent-there g.forest a c v.through.0) (parent-there g.forest b c w.through.0) v.through.0 w.through.0 (among-hits a (ancestors n g.forest) v.through.1) (among-hits b (ancestors m g.forest) w.through.1) ne)

  -- points of one node
  pub order-same : (p q : Point) → p.node ≡ q.node → order_of g.forest p q ≡ nat_cmp p.offset q.offset
  order-same p q e =
      subst (λ n. order_of g.forest p (record { node = n; offset = q.offset }) ≡ nat_cmp p.offset q.offset) e (order-one_node g.forest p.node p.offset q.offset)

  -- where ways meet at the first node
  pub order-at_first : (p q : Point) (c b : ℕ) → HasNode g.forest q.node → IsOnWay g.forest p.node c None → IsOnWay g.forest q.node c (Some b) → order_of g.forest p q ≡ (if nat_lt (index_of g.forest b) p.offset then Greater else Less)
  order-at_first p q c b h v w =
      let e : parent_of g.forest b ≡ Some p.node = w.through.0 ∙ ap (λ x. Some x) (sym v.through) in
      let t = path-through g.forest s.once q.node p.node b (occurs-HasNode g.forest q.node h) (among-hits b (ancestors q.node g.forest) w.through.1) e in
      order-above g.forest p.node q.node (index_of g.forest b) p.offset q.offset t.0 t.1

  -- at the second
  pub order-at_second : (p q : Point) (c a : ℕ) → HasNode g.forest p.node → IsOnWay g.forest p.node c (Some a) → IsOnWay g.forest q.node c None → order_of g.forest p q ≡ (if nat_lt (index_of g.forest a) q.offset then Less else Greater)
  order-at_second p q c a h v w =
      let e : parent_of g.forest a ≡ Some q.node = v.through.0 ∙ ap (λ x. Some x) (sym w.through) in
      let t = path-through g.forest s.once p.node q.node a (occurs-HasNode g.forest p.node h) (among-hits a (ancestors p.node g.forest) v.through.1) e in
      order-below g.forest p.node q.node (index_of g.forest a) p.offset q.offset t.0 t.1

  -- above both
  pub order-between : (p q : Point) (c a b : ℕ) → HasNode g.forest p.node → HasNode g.forest q.node → IsOnWay g.forest p.node c (Some a) → IsOnWay g.forest q.node c (Some b) → (a ≡ b → ⊥) → order_of g.forest p q ≡ (if nat_lt (index_of g.forest a) (index_of g.forest b) then Less else Greater)
  order-between p q c a b hp hq v w ne =
      let t = path-through g.forest s.once p.node c a (occurs-HasNode g.forest p.node hp) (among-hits a (ancestors p.node g.forest) v.through.1) v.through.0 in
      let u = path-through g.forest s.once q.node c b (occurs-HasNode g.forest q.node hq) (among-hits b (ancestors q.node g.forest) w.through.1) w.through.0 in
      order-beside g.forest p.node q.node c (index_of g.forest a) (index_of g.forest b) p.offset q.offset t.0 u.0 t.1 u.1
      (λ i. ne (index-apart g.forest s.once a b c (parent-there g.forest a c v.through.0) v.through.0 w.through.0 i))
