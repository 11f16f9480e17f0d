-- A walk from the last node ahead of a range's start to the last ahead of its end comes by all nodes that are contained. DOM Standard, "Interface Range".
use Rattle.std.proofs.Common.{◌≡◌, ℕ, ◌<◌, ◌≤◌, ◌==◌, true, false, List, [], ◌∷◌, ◌++◌, length, flat_map, Some, None, ap, sym, ◌∙◌, subst, arith, ◌⊎◌, inl, inr, ⊎_elim}
use Rattle.std.specs.Ordering.{nat_cmp}
use Rattle.std.proofs.lemmas.Bool.{cases_lt, false≢true}
use Rattle.dom_model.specs.Definitions.{hits, after, from_first, Grove, IsForest, HasNode, numbers, tree_at, root_of, inclusive_descendants, node_length, unit_count, Content, Point, Range, IsRange, order_of, is_less, is_before}
use Rattle.dom_model.proofs.PlainLists.Numbers.{same_or, same, apart}
use Rattle.dom_model.proofs.Forests.{Changes.seen, Changes.nothing, Changes.just, Entries.occurs-HasNode, TreeOrder.Flattened.hits-numbers, TreeOrder.InsideWalks.rest-next, TreeOrder.InsideWalks.rest-end}
use Rattle.dom_model.proofs.BoundaryPoints.PointOrder.{nat_cmp-greater}
use Rattle.dom_content.proofs.{AlongGaps.gap, AlongGaps.before, AlongGaps.not-before, AlongGaps.is-before, AlongGaps.isnt-before, AlongGaps.order-is, AlongGaps.there, AlongGaps.step, AlongGaps.walk-at, AlongGaps.later, NodesAhead.IsAheadOf, NodesInOrder.ahead-after, PartsBetween.IsTold, PartsBetween.TellsContained, PartsBetween.told-start, PartsBetween.told-next, PartsBetween.told-stop, PartsBetween.told-end}

-- of two numbers of a list one comes from the other on
one-from : (x y : ℕ) (ns : List ℕ) → 0 < hits x ns → 0 < hits y ns → (0 < hits y (from_first x ns)) ⊎ (0 < hits x (from_first y ns))
one-from x y [] h k = absurd (omega arith)
one-from x y (n ∷ ns) h k =
    elim (same_or n x) [
      | same d t ↦ inl (rw t k)
      | apart ne t ↦
          elim (same_or n y) [
            | same d u ↦ inr (rw u h)
            | apart nf u ↦ (let a = rw t at h in let b = rw u at k in rw (t, u) (one-from x y ns (omega arith) (omega arith)))
          ]
    ]

-- a number stands in what comes from it on
own-from : (n : ℕ) (ns : List ℕ) → 0 < hits n ns → 0 < hits n (from_first n ns)
own-from n [] h = absurd (omega arith)
own-from n (m ∷ ns) h = elim (same_or m n) [ same _ t ↦ rw t h | apart ne t ↦ (let k = rw t at h in rw t (own-from n ns (omega arith))) ]

pub apart-from : (a b : ℕ) → (a == b) ≡ false → a ≡ b → ⊥
apart-from a b f d = elim (same_or a b) [ same _ t ↦ false≢true (sym f ∙ t) | apart ne _ ↦ ne d ]

-- a node that a walk may end at: the fronts up to it are not behind the point, and those past it are
pub record IsLastAhead (g : Grove Content) (root : ℕ) (p : Point) (n : ℕ) : Type 0 where
  pub ahead_of : IsAheadOf g p n
  pub behind : (m : ℕ) → after n (inclusive_descendants g.forest root) ≡ Some m → is_before g.forest p (record { node = m; offset = 0 }) ≡ true

pub last-ahead : (g : Grove Content) (root : ℕ) (p : Point) (n : ℕ) → HasNode g.forest n → root_of g.forest n ≡ root_of g.forest p.node → is_before g.forest p (record { node = n; offset = 0 }) ≡ false
    → ((r m : ℕ) → root_of g.forest p.node ≡ Some r → p.offset ≤ node_length unit_count g.forest p.node → after n (inclusive_descendants g.forest r) ≡ Some m → is_before g.forest p (record { node = m; offset = 0 }) ≡ true)
    → root_of g.forest p.node ≡ Some root → p.offset ≤ node_length unit_count g.forest p.node → IsLastAhead g root p n
last-ahead g root p n held one early late rooted within = record {
  ahead_of = record { held = held; one_root = one; ahead = early };
  behind = λ m e. late root m rooted within e;
}

-- the walk has told what is up to `here`; what comes next is behind the start, and the last node ahead of the end is still to come
pub record IsAlong (g : Grove Content) (range : Range) (part : ℕ → List ℕ) (root stop : ℕ) (before : List ℕ) (here : ℕ) (text : List ℕ) : Type 0 where
  pub told : IsTold g range part root before here text
  pub behind : (m : ℕ) → after here (inclusive_descendants g.forest root) ≡ Some m → is_before g.forest range.start (record { node = m; offset = 0 }) ≡ true
  pub ahead : 0 < hits stop (from_first here (inclusive_descendants g.forest root))

module _ (g : Grove Content) (s : IsForest g) (range : Range) (is : IsRange g.forest range) (root : ℕ) (rooted : root_of g.forest range.start.node ≡ Some root) (stop : ℕ) (last : IsLastAhead g root range.end stop) (part : ℕ → List ℕ) (blank : TellsContained g range part) where
  abbrev all : List ℕ
  all = inclusive_descendants g.forest root

  abbrev front : ℕ → Point
  front n = record { node = n; offset = 0 }

  end_rooted : root_of g.forest range.end.node ≡ Some root
  end_rooted = sym is.one_root ∙ rooted

  stop_rooted : root_of g.forest stop ≡ Some root
  stop_rooted = last.ahead_of.one_root ∙ end_rooted

  listed : (n : ℕ) → root_of g.forest n ≡ Some root → 0 < hits n all
  listed n r = let i = there g s root n r in omega (arith, hits-numbers n (tree_at root g.forest))

  -- a node whose front is not behind the end comes no later than the last one ahead of it
  not-later : (x : ℕ) → HasNode g.forest x → root_of g.forest x ≡ Some root → is_before g.forest range.end (front x) ≡ false → 0 < hits stop (from_first x all)
  not-later x hx rx early =
      ⊎_elim (λ (h : 0 < hits stop (from_first x all)). h) (λ (h : 0 < hits x (from_first stop all)). back h) (one-from x stop all (listed x rx) (listed stop stop_rooted))
    where
      back : 0 < hits x (from_first stop all) → 0 < hits stop (from_first x all)
      back h =
          elim (same_or stop x) [
            | same d t ↦ subst (λ n. 0 < hits n (from_first x all)) (sym d) (own-from x all (listed x rx))
            | apart ne t ↦
                elim (seen (after stop all)) [
                  | nothing e ↦ absurd (let w = rw (rest-end g s root stop (walk-at g s root stop last.ahead_of.held stop_rooted) e) at h in let k = rw t at w in omega arith)
                  | just m e ↦
                      let w = rw (rest-next g s root stop m e) at h in
                      let k = rw t at w in
                      let n = step g s root stop m last.ahead_of.held stop_rooted e in
                      let a = gap g s root range.end end_rooted is.ends.within in
                      let b = gap g s root (front m) n.0 (omega arith) in
                      let c = gap g s root (front x) rx (omega arith) in
                      let i = before g s root range.end (front m) a b (last.behind m e) in
                      let j = later g s root (length (from_first m all)) m x b.place c.place (omega arith) n.1 n.0 (omega arith) b.is c.is in
                      let l = not-before g s root range.end (front x) a c early in
                      absurd (omega arith)
                ]
          ]

  pub along-start : (here : ℕ) (text : List ℕ) → IsLastAhead g root range.start here → IsAlong g range part root stop text here text
  along-start here text first =
      let r = first.ahead_of.one_root ∙ rooted in
      let a = gap g s root range.start rooted is.starts.within in
      let b = gap g s root range.end end_rooted is.ends.within in
      let c = gap g s root (front here) r (omega arith) in
      let i = not-before g s root range.start (front here) a c first.ahead_of.ahead in
      let j = in-order a.place b.place (order-is g s root range.start range.end a.place b.place rooted end_rooted is.starts.within is.ends.within a.is b.is) in
      record {
        told = told-start g s range is root rooted part blank here text first.ahead_of.held r first.ahead_of.ahead;
        behind = first.behind;
        ahead = not-later here first.ahead_of.held r (isnt-before g s root range.end (front here) b c (omega arith));
      }
    where
      in-order : (i j : ℕ) → order_of g.forest range.start range.end ≡ nat_cmp i j → i ≤ j
      in-order i j e = ⊎_elim (λ (lt : j < i). absurd (is.in_order (e ∙ nat_cmp-greater i j lt))) (λ (le : i ≤ j). le) (cases_lt j i)

  module _ (start : List ℕ) (here : ℕ) (text : List ℕ) (t : IsAlong g range part root stop start here text) where
    -- at the last node all is told
    pub along-end : here ≡ stop → text ≡ start ++ flat_map part (numbers g.forest)
    along-end d =
        elim (seen (after here all)) [
          | nothing e ↦ told-end g s range is root rooted part blank start here text t.told e
          | just m e ↦
              let n = step g s root here m t.told.there t.told.of_root e in
              let a = gap g s root range.end end_rooted is.ends.within in
              let b = gap g s root (front m) n.0 (omega arith) in
              let i = before g s root range.end (front m) a b (last.behind m (ap (λ x. after x all) (sym d) ∙ e)) in
              told-stop g s range is root rooted part blank start here m text t.told e (isnt-before g s root (front m) range.end b a (omega arith))
        ]

    module _ (ne : here ≡ stop → ⊥) where
      -- else there is a next one
      pub along-found : after here all ≡ None → ⊥
      along-found e =
          let w = rw (rest-end g s root here (walk-at g s root here t.told.there t.told.of_root) e) at t.ahead in
          elim (same_or here stop) [ same d u ↦ ne d | apart _ u ↦ (let k = rw u at w in omega arith) ]

      module _ (m : ℕ) (e : after here (inclusive_descendants g.forest root) ≡ Some m) where
        pub next : (root_of g.forest m ≡ Some root) × HasNode g.forest m
        next = step g s root here m t.told.there t.told.of_root e

        to-come : 0 < hits stop (from_first m all)
        to-come =
            let w = rw (rest-next g s root here m e) at t.ahead in
            elim (same_or here stop) [ same d u ↦ absurd (ne d) | apart _ u ↦ (let k = rw u at w in omega arith) ]

        -- which is not behind the end
        pub next-not_past : is_before g.forest range.end (front m) ≡ false
        next-not_past =
            let a = gap g s root range.end end_rooted is.ends.within in
            let b = gap g s root (front m) next.0 (omega arith) in
            let c = gap g s root (front stop) stop_rooted (omega arith) in
            let i = later g s root (length (from_first m all)) m stop b.place c.place (omega arith) next.1 next.0 to-come b.is c.is in
            let j = not-before g s root range.end (front stop) a c last.ahead_of.ahead in
            isnt-before g s root range.end (front m) a b (omega arith)

        -- the walk goes on to it
        pub along-next : (more : List ℕ) → more ≡ text ++ part m → IsAlong g range part root stop start m more
        along-next more grown = record {
          told = told-next g s range is root rooted part blank start here m text more t.told e grown;
          behind = λ x k.
              let n = step g s root m x next.1 next.0 k in
              let a = gap g s root range.start rooted is.starts.within in
              let b = gap g s root (front m) next.0 (omega arith) in
              let d = gap g s root (front x) n.0 (omega arith) in
              let l1 = before g s root range.start (front m) a b (t.behind m e) in
              let l2 = before g s root (front m) (front x) b d (ap is_less (ahead-after g s root m (occurs-HasNode g.forest m next.1) (there g s root m next.0) x k)) in
              is-before g s root range.start (front x) a d (omega arith);
          ahead = to-come;
        }
