-- A live range is one after a node is cut from its parent, once its ends have given way.
use Rattle.std.proofs.Common.{◌≡◌, ℕ, ◌-◌, ◌<◌, ◌≤◌, ◌==◌, nat_lt, Bool, true, false, ◌&&◌, if◌then◌else◌, Option, Some, None, refl, sym, ◌∙◌, subst, arith}
use Rattle.std.proofs.lemmas.Bool.Decides.{nat_tests}
use Rattle.dom_model.specs.Definitions.{hits, among, Entry, is_kind, may_be_parent, Node, Forest, occurs, one_at, cut, entry_in, HasNode, parent_of, children_of, index_of, inclusive_descendants, Content, Point, Range, Iterator, after_removal, moved_range, pre_removed, entry_has, kind_passes, is_of_kind, unit_count, node_length, IsBoundary, IsRange, IsIterator}
use Rattle.dom_model.specs.declared.Kind.TheVariants.{DocumentType}
use Rattle.dom_model.proofs.PlainLists.Places.{place-there}
use Rattle.dom_model.proofs.Forests.{Totals.total-cut, Entries.HasNode-occurs, Entries.occurs-HasNode, Paths.parent-path, Indices.child-listed, Indices.child-once, Indices.child-parent, Indices.index-child}
use Rattle.dom_model.proofs.BoundaryPoints.{RemovalOrder.removal-order_kept, RootsKept.root-removed}
use Rattle.dom_model.proofs.Traversal.IteratorsStay.{root-pre_removed, reference-stays}
use Rattle.dom_model.proofs.Soundness.SoundForests.{IsWood, parent_no_doctype, parent-passes}
use Rattle.dom_model.proofs.Worlds.Measured.{kind-cut, length-cut, length-cut_parent, length-parent}

-- a node that may be a parent is no doctype
pub no_doctype : (f : Forest Content) (n : ℕ) → kind_passes may_be_parent f n ≡ true → is_of_kind DocumentType f n ≡ false
no_doctype f n h = go (entry_in f n) h
  where
    go : (o : Option (Entry (Node Content))) → entry_has may_be_parent o ≡ true → entry_has (is_kind DocumentType) o ≡ false
    go None h = refl
    go (Some e) h = parent_no_doctype e.value.label.kind h

module _ {f : Forest Content} {made : ℕ} (s : IsWood f made) (p c : ℕ) (hc : 0 < occurs c f) (par : parent_of f c ≡ Some p) where
  there-cut : (n : ℕ) → 0 < occurs n f → HasNode (cut c f) n
  there-cut n h = HasNode-occurs (cut c f) n (subst (λ k. 0 < k) (sym (total-cut (one_at n) c f)) h)

  parent_there : 0 < occurs p f
  parent_there = (parent-path f s.once c p hc par).0

  passes : kind_passes may_be_parent f p ≡ true
  passes = parent-passes s c p par hc

  listed : hits c (children_of f p) ≡ 1
  listed = let i = child-listed f s.once c p hc par in let j = child-once f s.once c p in omega arith

  index_within : index_of f c ≤ node_length unit_count (cut c f) p
  index_within =
      let a = length-cut_parent f s.once c p passes in
      let b = length-parent f p passes in
      let d = place-there c (children_of f p) (child-listed f s.once c p hc par) in
      let e = index-child f c p par in
      let l = listed in
      omega arith

  length_kept : (n : ℕ) → (n ≡ p → ⊥) → node_length unit_count (cut c f) n ≡ node_length unit_count f n
  length_kept n ne =
      let no : 0 < hits c (children_of f n) → ⊥ = λ lt. ne (let u : Some n ≡ Some p = sym (child-parent f s.once c n lt) ∙ par in cc u) in
      length-cut f s.once c n (omega arith)

  moved_within : (n a : ℕ) → ((n == p) && nat_lt (index_of f c) a) ≡ true → a ≤ node_length unit_count f n → a - 1 ≤ node_length unit_count (cut c f) n
  moved_within n a d h = grind (arith, nat_tests, length-cut_parent f s.once c p passes, listed)

  kept_within : (n a : ℕ) → ((n == p) && nat_lt (index_of f c) a) ≡ false → a ≤ node_length unit_count f n → a ≤ node_length unit_count (cut c f) n
  kept_within n a d h = grind (arith, nat_tests, index_within, length_kept n)

  boundary_at : (q : Point) → IsBoundary f q → (v w : Bool) → ((q.node == p) && nat_lt (index_of f c) q.offset) ≡ w → IsBoundary (cut c f) (if v then record { node = p; offset = index_of f c } else (if w then record q { offset = q.offset - 1 } else q))
  boundary_at q b true w d =
      record {
        there = there-cut p parent_there;
        kind = kind-cut f s.once c (is_kind DocumentType) p ∙ no_doctype f p passes;
        within = index_within;
      }
  boundary_at q b false true d =
      record {
        there = there-cut q.node (occurs-HasNode f q.node b.there);
        kind = kind-cut f s.once c (is_kind DocumentType) q.node ∙ b.kind;
        within = moved_within q.node q.offset d b.within;
      }
  boundary_at q b false false d =
      record {
        there = there-cut q.node (occurs-HasNode f q.node b.there);
        kind = kind-cut f s.once c (is_kind DocumentType) q.node ∙ b.kind;
        within = kept_within q.node q.offset d b.within;
      }

  pub boundary-cut : (q : Point) → IsBoundary f q → IsBoundary (cut c f) (after_removal (inclusive_descendants f c) p (index_of f c) q)
  boundary-cut q b = boundary_at q b (among q.node (inclusive_descendants f c)) ((q.node == p) && nat_lt (index_of f c) q.offset) refl

  pub range-cut : (r : Range) → IsRange f r → IsRange (cut c f) (moved_range (after_removal (inclusive_descendants f c) p (index_of f c)) r)
  range-cut r h =
      let hs = occurs-HasNode f r.start.node h.starts.there in
      let he = occurs-HasNode f r.end.node h.ends.there in
      record {
        starts = boundary-cut r.start h.starts;
        ends = boundary-cut r.end h.ends;
        one_root = root-removed f s.once p c hc par r.start.node r.start.offset hs ∙ h.one_root ∙ sym (root-removed f s.once p c hc par r.end.node r.end.offset he);
        in_order = λ g. h.in_order (removal-order_kept f s.once p c hc par r.start.node r.end.node r.start.offset r.end.offset hs he h.one_root g);
      }

  pub iterator-cut : (i : Iterator) → IsIterator f i → IsIterator (cut c f) (pre_removed f c i)
  iterator-cut i h =
      let hr = occurs-HasNode f i.root h.root in
      record {
        root = subst (λ r. HasNode (cut c f) r) (sym (root-pre_removed f c i)) (there-cut i.root hr);
        inside = reference-stays f s.once c i hr h.inside;
      }
