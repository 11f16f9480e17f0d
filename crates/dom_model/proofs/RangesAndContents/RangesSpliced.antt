-- A live range is one after contents and node documents change, and after units take the place of others, once its ends have moved.
use Rattle.std.proofs.Common.{◌≡◌, ℕ, ◌+◌, ◌<◌, ◌≤◌, ◌==◌, true, false, ap, sym, ◌∙◌, subst, arith}
use Rattle.std.proofs.lemmas.{Bool.Decides.nat_tests, Bool.cases_Bool}
use Rattle.dom_model.specs.Definitions.{hits, is_kind, is_character_data, Forest, HasNode, root_of, Content, Point, Range, Iterator, after_splice, moved_range, kind_passes, is_of_kind, unit_count, node_length, IsBoundary, IsRange, IsIterator}
use Rattle.dom_model.specs.declared.Kind.TheVariants.{DocumentType}
use Rattle.dom_model.proofs.Forests.Entries.{HasNode-occurs, occurs-HasNode}
use Rattle.dom_model.proofs.BoundaryPoints.SpliceOrder.{splice-order_kept}
use Rattle.dom_model.proofs.Soundness.SoundForests.{IsWood, data-childless}
use Rattle.dom_model.proofs.Worlds.SameShape.{IsAlike, occurs-alike, inside-alike, root-alike, order-alike, kind-alike}

module _ {f g : Forest Content} (a : IsAlike f g) where
  pub there-alike : (n : ℕ) → HasNode f n → HasNode g n
  there-alike n h = HasNode-occurs g n (subst (λ k. 0 < k) (sym (occurs-alike a n)) (occurs-HasNode f n h))

  boundary-alike : (p : Point) → p.offset ≤ node_length unit_count g p.node → IsBoundary f p → IsBoundary g p
  boundary-alike p h b =
      record {
        there = there-alike p.node b.there;
        kind = kind-alike a (is_kind DocumentType) p.node ∙ b.kind;
        within = h;
      }

  pub range-alike : ((n : ℕ) → node_length unit_count g n ≡ node_length unit_count f n) → (r : Range) → IsRange f r → IsRange g r
  range-alike lengths r h =
      record {
        starts = boundary-alike r.start (subst (λ k. r.start.offset ≤ k) (sym (lengths r.start.node)) h.starts.within) h.starts;
        ends = boundary-alike r.end (subst (λ k. r.end.offset ≤ k) (sym (lengths r.end.node)) h.ends.within) h.ends;
        one_root = root-alike a r.start.node ∙ h.one_root ∙ sym (root-alike a r.end.node);
        in_order = λ k. h.in_order (sym (order-alike a r.start r.end) ∙ k);
      }

  pub iterator-alike : (i : Iterator) → IsIterator f i → IsIterator g i
  iterator-alike i h =
      record {
        root = there-alike i.root h.root;
        inside = subst (λ ns. 0 < hits i.reference ns) (sym (inside-alike a i.root)) h.inside;
      }

-- The data of a node changes: `added` units stand in the place of `count`.

module _ {f g : Forest Content} {made : ℕ} (s : IsWood f made) (a : IsAlike f g) (n offset count added : ℕ) (has_data : kind_passes is_character_data f n ≡ true) (others : (m : ℕ) → (m == n) ≡ false → node_length unit_count g m ≡ node_length unit_count f m) (itself : node_length unit_count g n + count ≡ node_length unit_count f n + added) (fits : offset + count ≤ node_length unit_count f n) where
  abbrev spliced_to : Point → Point
  spliced_to q = after_splice n offset count added q

  splice-node : (q : Point) → (spliced_to q).node ≡ q.node
  splice-node q = grind (arith, cases_Bool)

  offset_in : (q : Point) → q.offset ≤ node_length unit_count f q.node → (spliced_to q).offset ≤ node_length unit_count g q.node
  offset_in q h = grind (arith, nat_tests, others q.node)

  boundary-splice : (q : Point) → IsBoundary f q → IsBoundary g (spliced_to q)
  boundary-splice q b =
      let i = splice-node q in
      record {
        there = subst (λ m. HasNode g m) (sym i) (there-alike a q.node b.there);
        kind = ap (λ m. is_of_kind DocumentType g m) i ∙ kind-alike a (is_kind DocumentType) q.node ∙ b.kind;
        within = subst (λ m. (spliced_to q).offset ≤ node_length unit_count g m) (sym i) (offset_in q b.within);
      }

  pub range-splice : (r : Range) → IsRange f r → IsRange g (moved_range spliced_to r)
  range-splice r h =
      let hs = occurs-HasNode f r.start.node h.starts.there in
      let he = occurs-HasNode f r.end.node h.ends.there in
      let i = splice-node r.start in
      let j = splice-node r.end in
      record {
        starts = boundary-splice r.start h.starts;
        ends = boundary-splice r.end h.ends;
        one_root = ap (root_of g) i ∙ root-alike a r.start.node ∙ h.one_root ∙ sym (ap (root_of g) j ∙ root-alike a r.end.node);
        in_order = λ k. h.in_order (splice-order_kept f s.once n offset count added (data-childless s n has_data) r.start.node r.end.node r.start.offset r.end.offset hs he h.one_root (sym (order-alike a (spliced_to r.start) (spliced_to r.end)) ∙ k));
      }
