-- Ranges that start ahead of a point; where a node comes in at a live range's start, the range starts at or ahead of that place once the
-- node has left its parent. DOM Standard, "Interface Range": insert.
use Rattle.std.proofs.Common.{◌≡◌, ℕ, zero, suc, ◌<◌, ◌≤◌, List, [], ◌∷◌, Some, slice_get, refl, ap, sym, ◌∙◌, subst, arith, ◌+◌, ◌==◌, nat_lt, false, if◌then◌else◌, length, Option, None, option_map}
use Rattle.std.proofs.lemmas.{Bool.lt-ltb, Bool.Decides.nat_tests, Bool.cases_Bool}
use Rattle.dom_model.specs.Definitions.{hits, place_in, among, is_number, left_out, Forest, occurs, cut, parent_of, ancestors, index_of, tree_at, children_of, next_of, inclusive_descendants, Content, Point, Range, World, place_of, moved_range, IsBoundary, IsRange, IsSound, remove, reference_child, range_at}
use Rattle.dom_model.proofs.PlainLists.{Numbers.same_or, Numbers.same, Numbers.apart, Places.place_before, Places.place-absent, Places.place-left_out}
use Rattle.dom_model.proofs.Forests.{Paths.up_with, Paths.ancestors-cut, Indices.path-child, Indices.child-once, Indices.child-parent, Indices.index-child, Chains.root-child, Climbing.hits-ancestors, Climbing.hits-not_among, TreeOrder.Flattened.hits-numbers, Entries.occurs-HasNode, Entries.children-cut}
use Rattle.dom_model.proofs.BoundaryPoints.{PointOrder.order-above, MovedPoints.range_at-moved, MovedPoints.leaves_by, MovedPoints.moves_remove, MovedPoints.leaves-remove, GapsKept.position, GapsKept.ahead, PointOrder.order-later}
use Rattle.dom_model.proofs.Soundness.{SoundWorlds.child_there, SoundEditing.next_child, SoundPlacedNode.StartsAhead}
use Rattle.dom_model.proofs.RangesAndContents.{RangesSet.turned_round, EndsGrown.boundary_ahead}
use Rattle.dom_model.proofs.Worlds.Measured.{length-parent}
use Rattle.dom_model.proofs.MutationAlgorithms.Loosened.{forest-remove}

pub range_to : (f : Forest Content) (parent a b : ℕ) → IsBoundary f (record { node = parent; offset = a }) → IsBoundary f (record { node = parent; offset = b }) → a ≤ b → IsRange f (record { start = record { node = parent; offset = a }; end = record { node = parent; offset = b } })
range_to f parent a b x y h = record { starts = x; ends = y; one_root = refl; in_order = λ g. order-later f parent a b h g }

-- a point of a child comes before the point of the parent behind it
pub from_child : (f : Forest Content) → ((m : ℕ) → occurs m f ≤ 1) → (t parent off b : ℕ) → parent_of f t ≡ Some parent → index_of f t < b → IsBoundary f (record { node = t; offset = off }) → IsBoundary f (record { node = parent; offset = b }) → IsRange f (record { start = record { node = t; offset = off }; end = record { node = parent; offset = b } })
from_child f o t parent off b e lt x y =
    let h = child_there f t parent e in
    record {
      starts = x;
      ends = y;
      one_root = root-child f o t parent h e;
      in_order = λ g.
          let a = order-above f parent t (index_of f t) b off [] (path-child f o t parent h e) ∙ (rw (lt-ltb (index_of f t) b lt) refl) in
          let c = turned_round (place_of f (record { node = parent; offset = b })) (place_of f (record { node = t; offset = off })) a in
          let d = sym c ∙ g in
          cc d;
    }

up_with-there : (c : ℕ) (xs : List ℕ) → 0 < hits c xs → 0 < hits c (up_with c xs)
up_with-there c [] h = omega arith
up_with-there c (x ∷ xs) h = grind (arith, nat_tests, up_with-there c xs)

-- what is outside a node that was cut was outside it before
pub outside_before : (f : Forest Content) → ((m : ℕ) → occurs m f ≤ 1) → (n parent : ℕ) → 0 < occurs parent f → hits n (ancestors parent (cut n f)) ≡ 0 → hits n (ancestors parent f) ≡ 0
outside_before f o n parent hp z =
    let a = ap (hits n) (ancestors-cut f o n parent hp) in
    let no : 0 < hits n (ancestors parent f) → ⊥ = λ lt. let b = up_with-there n (ancestors parent f) lt in omega arith in
    omega arith

pub got_place : (ns : List ℕ) (k c : ℕ) → ((m : ℕ) → hits m ns ≤ 1) → slice_get ns k ≡ Some c → (place_in c ns ≡ k) × (0 < hits c ns)
got_place [] k c o e = absurd (cc e)
got_place (n ∷ ns) zero c o e = let d : n ≡ c = (let u : Some n ≡ Some c = e in cc u) in (grind (arith, nat_tests), grind (arith, nat_tests))
got_place (n ∷ ns) (suc k) c o e =
    let i = got_place ns k c (λ m. let j = o m in omega arith) e in
    let j = o c in
    (grind (arith, nat_tests), grind (arith, nat_tests))

-- where the start is once a node has left
pub start_left : (r n : ℕ) (w : World) (range range_out : Range) → range_at w r ≡ Some range → range_at (remove false n w) r ≡ Some range_out → range_out.start ≡ leaves_by (parent_of w.forest n) w n range.start
start_left r n w range range_out e d =
    let a : Some range_out ≡ Some (moved_range (moves_remove false n w).moves range) = sym d ∙ range_at-moved (remove false n) w (moves_remove false n w) r ∙ ap (option_map (moved_range (moves_remove false n w).moves)) e in
    let b : range_out ≡ moved_range (moves_remove false n w).moves range = cc a in
    ap (λ (x : Range). x.start) b ∙ leaves-remove false n w range.start

pub outside_removed : (w : World) → IsSound w → (n m : ℕ) → 0 < occurs m w.forest → hits n (ancestors m w.forest) ≡ 0 → among m (inclusive_descendants w.forest n) ≡ false
outside_removed w s n m h z = hits-not_among m (inclusive_descendants w.forest n) (hits-numbers m (tree_at n w.forest) ∙ sym (hits-ancestors n m w.forest s.forest.once) ∙ z)

-- The start stands in a node that is no Text: before the child at its offset, or behind the last.
module _ (n : ℕ) (w : World) (s : IsSound w) (hn : 0 < occurs n w.forest) (p : Point) (b : IsBoundary w.forest p) (outside : hits n (ancestors p.node w.forest) ≡ 0) (whole : p.offset ≤ length (children_of w.forest p.node)) where
  abbrev ns : List ℕ
  ns = children_of w.forest p.node

  abbrev left : Point
  left = leaves_by (parent_of w.forest n) w n p

  hp : 0 < occurs p.node w.forest
  hp = occurs-HasNode w.forest p.node b.there

  once : (m : ℕ) → hits m ns ≤ 1
  once m = child-once w.forest s.forest.once m p.node

  not_inside : among p.node (inclusive_descendants w.forest n) ≡ false
  not_inside = outside_removed w s n p.node hp outside

  -- a node that is no child stands nowhere among them
  no_child : (parent_of w.forest n ≡ Some p.node → ⊥) → place_in n ns ≡ length ns
  no_child ne =
      let no : 0 < hits n ns → ⊥ = λ lt. ne (child-parent w.forest s.forest.once n p.node lt) in
      place-absent n ns (omega arith)

  node_left : left.node ≡ p.node
  node_left = go (parent_of w.forest n)
    where
      go : (o : Option ℕ) → (leaves_by o w n p).node ≡ p.node
      go None = refl
      go (Some u) = rw not_inside (grind (arith, cases_Bool))

  offset_left : left.offset + (if nat_lt (place_in n ns) p.offset then 1 else 0) ≡ p.offset
  offset_left = go (parent_of w.forest n) refl
    where
      same_offset : place_in n ns ≡ length ns → p.offset + (if nat_lt (place_in n ns) p.offset then 1 else 0) ≡ p.offset
      same_offset e = grind (arith, nat_tests)

      go : (o : Option ℕ) → parent_of w.forest n ≡ o → (leaves_by o w n p).offset + (if nat_lt (place_in n ns) p.offset then 1 else 0) ≡ p.offset
      go None e = same_offset (no_child (λ d. let x : None ≡ Some p.node = sym e ∙ d in cc x))
      go (Some u) e =
          elim (same_or p.node u) [
            | same d t ↦
                let i : index_of w.forest n ≡ place_in n ns = index-child w.forest n p.node (e ∙ ap (λ x. Some x) (sym d)) in
                rw (not_inside, t, i) (grind (arith, nat_tests))
            | apart ne t ↦ rw (not_inside, t) (same_offset (no_child (λ d. let x : Some u ≡ Some p.node = sym e ∙ d in ne (sym (cc x)))))
          ]

  abbrev reference : Option ℕ
  reference = reference_child w n (slice_get ns p.offset)

  -- the start is not past the place where the node comes in
  not_past : left.offset ≤ length (left_out n ns) → left.offset ≤ place_before reference (left_out n ns)
  not_past last = go (slice_get ns p.offset) refl
    where
      other : (c : ℕ) → place_in c ns ≡ p.offset → (n ≡ c → ⊥) → left.offset ≤ place_in c (left_out n ns)
      other c e ne =
          let far : (c == n) ≡ false = elim (same_or c n) [ same d t ↦ absurd (ne (sym d)) | apart _ t ↦ t ] in
          let a = place-left_out n c ns (once n) far in
          let d = offset_left in
          let f = rw e at a in
          omega arith

      itself : place_in n ns ≡ p.offset → 0 < hits n ns → (o : Option ℕ) → next_of w.forest n ≡ o → left.offset ≤ place_before o (left_out n ns)
      itself e h None d = last
      itself e h (Some c) d =
          let i = next_child w.forest s.forest.once p.node n c (child-parent w.forest s.forest.once n p.node h) d in
          let far : (c == n) ≡ false = elim (same_or c n) [ same x t ↦ absurd (let y = ap (λ m. place_in m ns) x in let z = i.place in omega arith) | apart _ t ↦ t ] in
          let a = place-left_out n c ns (once n) far in
          let l = rw (lt-ltb (place_in n ns) (place_in c ns) (let z = i.place in omega arith)) at a in
          let f = offset_left in
          let z = i.place in
          omega arith

      go : (o : Option ℕ) → slice_get ns p.offset ≡ o → left.offset ≤ place_before (if is_number o n then next_of w.forest n else o) (left_out n ns)
      go None e = last
      go (Some c) e =
          let g = got_place ns p.offset c once e in
          elim (same_or c n) [
            | same d t ↦ rw t (itself (ap (λ m. place_in m ns) (sym d) ∙ g.0) (subst (λ m. 0 < hits m ns) d g.1) (next_of w.forest n) refl)
            | apart ne t ↦ rw t (other c g.0 (λ d. ne (sym d)))
          ]

pub starts_at_child : (r n : ℕ) (w : World) (range : Range) → IsSound w → 0 < occurs n w.forest → range_at w r ≡ Some range → IsRange w.forest range → range.start.offset ≤ length (children_of w.forest range.start.node) →
    StartsAhead r n range.start.node (reference_child w n (slice_get (children_of w.forest range.start.node) range.start.offset)) (remove false n w)
starts_at_child r n w range s hn e h whole so root k range_out d ho =
    let p = range.start in
    let out = remove false n w in
    let q = start_left r n w range range_out e d in
    let f = forest-remove false n w s hn in
    let hp = occurs-HasNode w.forest p.node h.starts.there in
    let outside = outside_before w.forest s.forest.once n p.node hp (subst (λ (g : Forest Content). hits n (ancestors p.node g) ≡ 0) f k.outside) in
    let kids : children_of out.forest p.node ≡ left_out n (children_of w.forest p.node) = ap (λ (g : Forest Content). children_of g p.node) f ∙ children-cut w.forest s.forest.once n p.node in
    let node_is : range_out.start.node ≡ p.node = ap (λ (x : Point). x.node) q ∙ node_left n w s hn p h.starts outside whole in
    let offset_is : range_out.start.offset ≡ (leaves_by (parent_of w.forest n) w n p).offset = ap (λ (x : Point). x.offset) q in
    let start : range_out.start ≡ record { node = p.node; offset = range_out.start.offset } = ap (λ x. record { node = x; offset = range_out.start.offset }) node_is in
    let bs : IsBoundary out.forest (record { node = p.node; offset = range_out.start.offset }) = subst (IsBoundary out.forest) start ho.starts in
    let last : range_out.start.offset ≤ length (left_out n (children_of w.forest p.node)) = (let x = bs.within in let y = length-parent out.forest p.node k.may_hold in let z = ap (λ xs. length xs) kids in omega arith) in
    let lim = not_past n w s hn p h.starts outside whole (omega arith) in
    let lim2 = subst (λ xs. (leaves_by (parent_of w.forest n) w n p).offset ≤ place_before (reference_child w n (slice_get (children_of w.forest p.node) p.offset)) xs) (sym kids) lim in
    subst (λ x. IsRange out.forest (record { start = x; end = ahead n p.node (reference_child w n (slice_get (children_of w.forest p.node) p.offset)) out so root k })) (sym start)
    (range_to out.forest p.node range_out.start.offset (position n p.node (reference_child w n (slice_get (children_of w.forest p.node) p.offset)) out so root k) bs (boundary_ahead n p.node (reference_child w n (slice_get (children_of w.forest p.node) p.offset)) out so root k) (omega arith))
