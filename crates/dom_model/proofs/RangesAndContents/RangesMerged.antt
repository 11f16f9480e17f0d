-- A live range is one after the ends in a Text, and those ahead of it, move into the Text before it.
use Rattle.std.proofs.Common.{◌≡◌, ℕ, ◌+◌, ◌<◌, ◌≤◌, ◌==◌, Bool, true, false, ◌&&◌, if◌then◌else◌, [], Some, refl, ap, sym, ◌∙◌, subst, arith}
use Rattle.std.proofs.lemmas.{Bool.Decides.nat_tests, Bool.eqb-true, Bool.and_parts}
use Rattle.dom_model.specs.Definitions.{Forest, occurs, parent_of, children_of, index_of, root_of, Content, Point, Range, after_merge, moved_range, is_of_kind, unit_count, node_length, IsBoundary, IsRange, IsUpTo}
use Rattle.dom_model.specs.declared.Kind.TheVariants.{DocumentType}
use Rattle.dom_model.proofs.PlainLists.Numbers.{same_or, same, apart}
use Rattle.dom_model.proofs.Forests.{Entries.HasNode-occurs, Entries.occurs-HasNode, Chains.root-child, Indices.child-listed}
use Rattle.dom_model.proofs.BoundaryPoints.MergeOrder.{merge-in_place}
use Rattle.dom_model.proofs.Soundness.SoundForests.{IsWood}
use Rattle.dom_model.proofs.RangesAndContents.RangesSplit.{IsWithin}

-- a point that is neither in a node nor ahead of it
pub record IsPast (from parent index : ℕ) (q : Point) : Type 0 where
  pub other_node : q.node ≡ from → ⊥
  pub other_place : q.node ≡ parent → q.offset ≡ index → ⊥

module _ {g : Forest Content} {made : ℕ} (s : IsWood g made) (p into from base : ℕ) (hinto : 0 < occurs into g) (hfrom : 0 < occurs from g) (pinto : parent_of g into ≡ Some p) (pfrom : parent_of g from ≡ Some p) (next : index_of g from ≡ index_of g into + 1) (bare : children_of g into ≡ []) (bare_from : children_of g from ≡ []) (kind : is_of_kind DocumentType g into ≡ false) (room : base + node_length unit_count g from ≤ node_length unit_count g into) where
  abbrev joined : Point → Point
  joined q = after_merge from into base p (index_of g from) q

  moved_into : (a : ℕ) → a ≤ node_length unit_count g from → IsWithin g p (record { node = into; offset = base + a })
  moved_into a h =
      record {
        boundary = record { there = HasNode-occurs g into hinto; kind = kind; within = omega arith };
        one_root = root-child g s.once into p hinto pinto;
      }

  to_base : IsWithin g p (record { node = into; offset = base })
  to_base =
      record {
        boundary = record { there = HasNode-occurs g into hinto; kind = kind; within = omega arith };
        one_root = root-child g s.once into p hinto pinto;
      }

  of_parent : (n : ℕ) (w : Bool) → ((n == p) && w) ≡ true → n ≡ p
  of_parent n w e = eqb-true n p (and_parts (n == p) w e).0

  boundary-merged : (q : Point) → IsBoundary g q → IsWithin g q.node (joined q)
  boundary-merged q b =
      elim (same_or q.node from) [
        | same e t ↦
            let i = moved_into q.offset (subst (λ m. q.offset ≤ node_length unit_count g m) e b.within) in
            rw t (record { boundary = i.boundary; one_root = i.one_root ∙ sym (ap (root_of g) e ∙ root-child g s.once from p hfrom pfrom) })
        | apart ne t ↦ rw t (go ((q.node == p) && (q.offset == index_of g from)) refl)
      ]
    where
      go : (v : Bool) → ((q.node == p) && (q.offset == index_of g from)) ≡ v → IsWithin g q.node (if v then record { node = into; offset = base } else q)
      go true e = record { boundary = to_base.boundary; one_root = to_base.one_root ∙ ap (root_of g) (sym (of_parent q.node (q.offset == index_of g from) e)) }
      go false e = record { boundary = b; one_root = refl }

  pub range-merged : (r : Range) → IsRange g r → IsUpTo into base r.start → IsUpTo into base r.end → IsRange g (moved_range joined r)
  range-merged r h us ue =
      let a = boundary-merged r.start h.starts in
      let b = boundary-merged r.end h.ends in
      record {
        starts = a.boundary;
        ends = b.boundary;
        one_root = a.one_root ∙ h.one_root ∙ sym b.one_root;
        in_order = λ k. h.in_order (merge-in_place g s.once p into from base hinto hfrom pinto pfrom next bare bare_from r.start.node r.end.node r.start.offset r.end.offset (occurs-HasNode g r.start.node h.starts.there) (occurs-HasNode g r.end.node h.ends.there) us ue h.one_root k);
      }

  parent-apart_into : into ≡ p → ⊥
  parent-apart_into e = let h = rw (ap (children_of g) (sym e) ∙ bare) at (child-listed g s.once into p hinto pinto) in omega arith

  nodes-apart : into ≡ from → ⊥
  nodes-apart e = let d : index_of g into ≡ index_of g from = ap (index_of g) e in omega arith

  -- no point is left in the second Text, or ahead of it
  pub point-past : (q : Point) → IsPast from p (index_of g from) (joined q)
  point-past q =
      elim (same_or q.node from) [
        | same e t ↦ rw t (record { other_node = nodes-apart; other_place = λ d. absurd (parent-apart_into d) })
        | apart ne t ↦ rw t (go ne ((q.node == p) && (q.offset == index_of g from)) refl)
      ]
    where
      at_place : (n a i : ℕ) → ((n == p) && (a == i)) ≡ false → n ≡ p → a ≡ i → ⊥
      at_place n a i e d f = grind (arith, nat_tests)

      go : (q.node ≡ from → ⊥) → (v : Bool) → ((q.node == p) && (q.offset == index_of g from)) ≡ v → IsPast from p (index_of g from) (if v then record { node = into; offset = base } else q)
      go ne true e = record { other_node = nodes-apart; other_place = λ d. absurd (parent-apart_into d) }
      go ne false e = record { other_node = ne; other_place = at_place q.node q.offset (index_of g from) e }

  -- the points of the first Text are within the data of both
  pub up_to-merged : (q : Point) → q.offset ≤ node_length unit_count g q.node → IsUpTo into base q → IsUpTo into (base + node_length unit_count g from) (joined q)
  up_to-merged q h u d = grind (arith, nat_tests)
