-- The node that a walk behind a point starts at: nothing up to it comes after the point. DOM Standard, "Trees", "Boundary points".
use Rattle.std.proofs.Common.{◌≡◌, ℕ, ◌<◌, nat_lt, true, false, Some, slice_get, refl, ap, sym, ◌∙◌, subst, arith}
use Rattle.std.proofs.lemmas.Bool.{lt-ltb}
use Rattle.dom_model.specs.Definitions.{hits, last_of, Grove, IsForest, HasNode, occurs, one_at, tree_at, children_of, index_of, ancestors, root_of, inclusive_descendants, Content, Point, is_less, is_before}
use Rattle.dom_model.proofs.PlainLists.Members.{hits-last_of}
use Rattle.dom_model.proofs.Forests.{Above.above, Climbing.among-hits, Entries.HasNode-occurs, Indices.child-once, Indices.child-parent, Indices.index-child, Indices.parent-there, Totals.total-tree_at, ToTheRoot.inside-among, ToTheRoot.root-above, TreeOrder.Flattened.hits-numbers, WaysMeeting.above-root}
use Rattle.dom_model.proofs.BoundaryPoints.{OrderByWays.path-through, PointOrder.order-one_node, PointOrder.order-above}
use Rattle.dom_model.proofs.RangesAndContents.StartsAhead.{got_place}
use Rattle.dom_model.proofs.TokenText.Contents.RangeText.{less-false}

-- the node is there, of the point's root, and its front does not come after the point
pub record IsAheadOf (g : Grove Content) (p : Point) (n : ℕ) : Type 0 where
  pub held : HasNode g.forest n
  pub one_root : root_of g.forest n ≡ root_of g.forest p.node
  pub ahead : is_before g.forest p (record { node = n; offset = 0 }) ≡ false

pub ahead-itself : (g : Grove Content) (p : Point) → HasNode g.forest p.node → IsAheadOf g p p.node
ahead-itself g p h = record {
  held = h;
  one_root = refl;
  ahead = ap is_less (order-one_node g.forest p.node p.offset 0) ∙ less-false p.offset 0 (omega arith);
}

-- the last node inside a child ahead of the point
pub ahead-inside : (g : Grove Content) → IsForest g → (p : Point) (k child last : ℕ) → k < p.offset → slice_get (children_of g.forest p.node) k ≡ Some child → last_of (inclusive_descendants g.forest child) ≡ Some last → IsAheadOf g p last
ahead-inside g s p k child last lt e l =
    let f = g.forest in
    let at = got_place (children_of f p.node) k child (λ m. child-once f s.once m p.node) e in
    let up = child-parent f s.once child p.node at.1 in
    let hc = parent-there f child p.node up in
    let listed = hits-last_of (inclusive_descendants f child) last l in
    let inside : 0 < occurs last (tree_at child f) = omega (arith, hits-numbers last (tree_at child f)) in
    let hl : 0 < occurs last f = omega (arith, total-tree_at (one_at last) child f) in
    let on_way : 0 < hits child (ancestors last f) = among-hits child (ancestors last f) (inside-among s child last inside) in
    let way = path-through f s.once last p.node child hl on_way up in
    let early : nat_lt (index_of f child) p.offset ≡ true = lt-ltb (index_of f child) p.offset (let i = index-child f child p.node up in let a = at.0 in omega arith) in
    record {
      held = HasNode-occurs f last hl;
      one_root = sym (above-root f s.once child last hl hc on_way) ∙ sym (root-above f child p.node (above s child p.node (HasNode-occurs f child hc) up));
      ahead = ap is_less (order-above f p.node last (index_of f child) p.offset 0 way.0 way.1) ∙ (rw early refl);
    }

pub child-held : (g : Grove Content) → IsForest g → (n k child : ℕ) → slice_get (children_of g.forest n) k ≡ Some child → HasNode g.forest child
child-held g s n k child e =
    let at = got_place (children_of g.forest n) k child (λ m. child-once g.forest s.once m n) e in
    HasNode-occurs g.forest child (parent-there g.forest child n (child-parent g.forest s.once child n at.1))

-- the point as it was read
pub ahead-as : (g : Grove Content) (p q : Point) (n : ℕ) → q ≡ p → IsAheadOf g q n → IsAheadOf g p n
ahead-as g p q n e a = subst (λ (x : Point). IsAheadOf g x n) e a
