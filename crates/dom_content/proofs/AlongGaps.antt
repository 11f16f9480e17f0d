-- Points of one root stand as their gaps do, and the gaps at the front of nodes rise along tree order. DOM Standard, "Boundary points".
use Rattle.std.proofs.Common.{◌≡◌, ℕ, zero, suc, ◌<◌, ◌≤◌, true, false, List, [], ◌∷◌, length, Option, Some, refl, ap, sym, ◌∙◌, arith, ⊎_elim, Equal, Greater}
use Rattle.std.specs.Ordering.{nat_cmp}
use Rattle.std.proofs.lemmas.Bool.{false≢true, cases_lt}
use Rattle.dom_model.specs.Definitions.{hits, after, from_first, Grove, IsForest, HasNode, occurs, root_of, tree_at, inclusive_descendants, node_length, unit_count, Content, Point, order_of, is_less, is_before, root_text, tokens_ahead, gap_order}
use Rattle.dom_model.proofs.PlainLists.{Numbers.same_or, Numbers.same, Numbers.apart, Members.hits-last_of}
use Rattle.dom_model.proofs.Forests.{Changes.seen, Changes.nothing, Changes.just, Climbing.hits-among, Entries.occurs-HasNode, ToTheRoot.inside-root, TreeOrder.Preceding.order-step, TreeOrder.InsideWalks.IsAt, TreeOrder.InsideWalks.rest-next, TreeOrder.InsideWalks.rest-end}
use Rattle.dom_model.proofs.BoundaryPoints.PointOrder.{nat_cmp-same, nat_cmp-less, nat_cmp-greater}
use Rattle.dom_model.proofs.TokenText.{PointGaps.GapsInOrder.gap-found, PointGaps.GapsInOrder.gaps-in_order, Contents.RangeText.less-true, Contents.RangeText.less-false}
use Rattle.dom_content.proofs.NodesInOrder.{ahead-after}

pub from-less : (i j : ℕ) → is_less (nat_cmp i j) ≡ true → i < j
from-less i j h = ⊎_elim (λ (lt : i < j). lt) (λ (le : j ≤ i). absurd (false≢true (sym (less-false i j le) ∙ h))) (cases_lt i j)

pub from-not_less : (i j : ℕ) → is_less (nat_cmp i j) ≡ false → j ≤ i
from-not_less i j h = ⊎_elim (λ (lt : i < j). absurd (false≢true (sym h ∙ less-true i j lt))) (λ (le : j ≤ i). le) (cases_lt i j)

-- the same order as of two offsets that rise
pub from-offsets : (i j a b : ℕ) → a ≤ b → nat_cmp i j ≡ nat_cmp a b → i ≤ j
from-offsets i j a b h e =
    ⊎_elim
    (λ (lt : j < i).
    ⊎_elim
    (λ (c : a < b). let x : false ≡ true = ap is_less (sym (nat_cmp-greater i j lt) ∙ e ∙ nat_cmp-less a b c) in absurd (false≢true x))
    (λ (c : b ≤ a).
    let d : a ≡ b = omega arith in
    let x : Greater ≡ Equal = sym (nat_cmp-greater i j lt) ∙ e ∙ ap (λ m. nat_cmp a m) (sym d) ∙ nat_cmp-same a in
    absurd (cc x))
    (cases_lt a b))
    (λ (le : i ≤ j). le)
    (cases_lt j i)

few-hits : (n : ℕ) (ns : List ℕ) → hits n ns ≤ length ns
few-hits n [] = omega arith
few-hits n (m ∷ ns) = elim (same_or m n) [ same e t ↦ rw t (let i = few-hits n ns in omega arith) | apart ne t ↦ rw t (let i = few-hits n ns in omega arith) ]

module _ (g : Grove Content) (s : IsForest g) (root : ℕ) where
  abbrev all : List ℕ
  all = inclusive_descendants g.forest root

  abbrev pub front : ℕ → Point
  front n = record { node = n; offset = 0 }

  abbrev pub ahead : Point → Option ℕ
  ahead p = tokens_ahead p [] (root_text g.forest root)

  pub place : (p : Point) → root_of g.forest p.node ≡ Some root → p.offset ≤ node_length unit_count g.forest p.node → (k : ℕ) × (ahead p ≡ Some k)
  place p r l = gap-found g.forest s.once s.kinds root p r l

  pub order-is : (p q : Point) (i j : ℕ) → root_of g.forest p.node ≡ Some root → root_of g.forest q.node ≡ Some root → p.offset ≤ node_length unit_count g.forest p.node → q.offset ≤ node_length unit_count g.forest q.node → ahead p ≡ Some i → ahead q ≡ Some j → order_of g.forest p q ≡ nat_cmp i j
  order-is p q i j rp rq lp lq hp hq =
      let o = gaps-in_order g.forest s.once s.kinds root p q rp rq lp lq in
      let e : gap_order p q (root_text g.forest root) ≡ Some (nat_cmp i j) = rw (hp, hq) refl in
      let d : Some (order_of g.forest p q) ≡ Some (nat_cmp i j) = sym o ∙ e in
      cc d

  pub there : (n : ℕ) → root_of g.forest n ≡ Some root → 0 < occurs n (tree_at root g.forest)
  there n r = inside-root s n root r

  -- one step of a walk from a node of the root
  pub step : (n m : ℕ) → HasNode g.forest n → root_of g.forest n ≡ Some root → after n all ≡ Some m → (root_of g.forest m ≡ Some root) × HasNode g.forest m
  step n m h r e =
      let o = order-step s n m h (rw r (sym e)) in
      (o.1.0 ∙ r, o.1.1)

  pub walk-at : (n : ℕ) → HasNode g.forest n → root_of g.forest n ≡ Some root → IsAt g.forest root n
  walk-at n h r = record { there = h; under = hits-among root _ (hits-last_of _ root r) }

  -- what comes in tree order from a node on is no less far on
  pub later : (k n x i j : ℕ) → length (from_first n all) ≤ k → HasNode g.forest n → root_of g.forest n ≡ Some root → 0 < hits x (from_first n all) → ahead (front n) ≡ Some i → ahead (front x) ≡ Some j → i ≤ j
  later zero n x i j l h r o hi hj = absurd (let w = few-hits x (from_first n all) in omega arith)
  later (suc k) n x i j l h r o hi hj =
      elim (same_or n x) [
        | same d t ↦ (let e : Some i ≡ Some j = sym hi ∙ ap (λ m. ahead (front m)) d ∙ hj in let w : i ≡ j = cc e in omega arith)
        | apart ne t ↦
            elim (seen (after n all)) [
              | nothing z ↦ absurd (let w = rest-end g s root n (walk-at n h r) z in let y = rw w at o in let v = rw t at y in omega arith)
              | just m z ↦
                  let w = rest-next g s root n m z in
                  let y = rw w at o in
                  let v = rw t at y in
                  let q = step n m h r z in
                  let c = place (front m) q.0 (omega arith) in
                  let less = ahead-after g s root n (occurs-HasNode g.forest n h) (there n r) m z in
                  let cmp = sym (order-is (front n) (front m) i c.0 r q.0 (omega arith) (omega arith) hi c.1) ∙ less in
                  let lt = from-less i c.0 (ap is_less cmp) in
                  let len = ap length w in
                  let rec = later k m x c.0 j (omega arith) q.1 q.0 (omega arith) c.1 hj in
                  omega arith
            ]
      ]

  -- the gap of a point of the root
  pub record Gap (p : Point) : Type 0 where
    pub rooted : root_of g.forest p.node ≡ Some root
    pub within : p.offset ≤ node_length unit_count g.forest p.node
    pub place : ℕ
    pub is : tokens_ahead p [] (root_text g.forest root) ≡ Some place

  pub gap : (p : Point) → root_of g.forest p.node ≡ Some root → p.offset ≤ node_length unit_count g.forest p.node → Gap p
  gap p r l = let i = gap-found g.forest s.once s.kinds root p r l in record { rooted = r; within = l; place = i.0; is = i.1 }

  module _ (p q : Point) (a : Gap p) (b : Gap q) where
    compared : is_before g.forest p q ≡ is_less (nat_cmp a.place b.place)
    compared = ap is_less (order-is p q a.place b.place a.rooted b.rooted a.within b.within a.is b.is)

    pub before : is_before g.forest p q ≡ true → a.place < b.place
    before h = from-less a.place b.place (sym compared ∙ h)

    pub not-before : is_before g.forest p q ≡ false → b.place ≤ a.place
    not-before h = from-not_less a.place b.place (sym compared ∙ h)

    pub is-before : a.place < b.place → is_before g.forest p q ≡ true
    is-before h = compared ∙ less-true a.place b.place h

    pub isnt-before : b.place ≤ a.place → is_before g.forest p q ≡ false
    isnt-before h = compared ∙ less-false a.place b.place h
