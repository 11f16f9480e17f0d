-- Live ranges as their ends are set. DOM Standard, "Interface Range": set the start or end, collapse, select.
use Rattle.std.proofs.Common.{◌≡◌, ℕ, ◌+◌, ◌<◌, ◌≤◌, nat_lt, Bool, true, false, not, ◌&&◌, if◌then◌else◌, List, [], ◌∷◌, Option, Some, None, IfSome, option_map, refl, ap, sym, ◌∙◌, arith}
use Rattle.std.proofs.lemmas.{Bool.and_parts, Bool.eqb-true, Bool.false≢true, Bool.Decides.nat_tests, Bool.eq-eqb}
use Rattle.std.specs.{Ordering.nat_cmp, declared.cmp.Ordering.TheVariants.Less, declared.cmp.Ordering.TheVariants.Greater, Cmp.Lexicographic.slice_cmp}
use Rattle.dom_model.specs.Definitions.{Forest, occurs, parent_of, children_of, index_of, root_of, Content, Point, Range, place_of, order_of, is_same, is_of_kind, same_root, unit_count, node_length, collapsed_at, collapsed, is_before, start_set, end_set, point_before, point_after, around, contents_of, check_point, IsBoundary, IsRange}
use Rattle.dom_model.specs.declared.{Kind.TheVariants.DocumentType, DomError.TheVariants.InvalidNodeTypeError, DomError.TheVariants.IndexSizeError}
use Rattle.dom_model.proofs.PlainLists.Places.{place-there}
use Rattle.dom_model.proofs.Forests.{Entries.HasNode-occurs, Paths.parent-path, Indices.child-listed, Indices.index-child}
use Rattle.dom_model.proofs.BoundaryPoints.PointOrder.{order-later}
use Rattle.dom_model.proofs.Soundness.{SoundForests.IsWood, SoundForests.parent-passes, SoundWorlds.child_there, SoundEditing.clear}
use Rattle.dom_model.proofs.Worlds.Measured.{length-parent}
use Rattle.dom_model.proofs.RangesAndContents.RangesCut.{no_doctype}

-- The order of places.

pub turned_round : (xs ys : List ℕ) → slice_cmp nat_cmp xs ys ≡ Greater → slice_cmp nat_cmp ys xs ≡ Less
turned_round [] [] g = absurd (cc g)
turned_round [] (y ∷ ys) g = absurd (cc g)
turned_round (x ∷ xs) [] g = refl
turned_round (x ∷ xs) (y ∷ ys) g = grind (arith, nat_tests, turned_round xs ys)

pub same-itself : (o : Option ℕ) → is_same o o ≡ true
same-itself None = refl
same-itself (Some n) = eq-eqb n n refl

pub range_at_point : (f : Forest Content) (p : Point) → IsBoundary f p → IsRange f (collapsed_at p)
range_at_point f p b = record { starts = b; ends = b; one_root = refl; in_order = λ g. order-later f p.node p.offset p.offset (omega arith) g }

pub range_collapsed : (f : Forest Content) (to_start : Bool) (r : Range) → IsRange f r → IsRange f (collapsed to_start r)
range_collapsed f true r h = range_at_point f r.start h.starts
range_collapsed f false r h = range_at_point f r.end h.ends

pub same_option : (a b : Option ℕ) → is_same a b ≡ true → a ≡ b
same_option None None h = refl
same_option None (Some y) h = absurd (false≢true h)
same_option (Some x) None h = absurd (false≢true h)
same_option (Some x) (Some y) h = ap (λ k. Some k) (eqb-true x y h)

not_before : (f : Forest Content) (p q : Point) → not (is_before f p q) ≡ true → order_of f q p ≡ Greater → ⊥
not_before f p q h g = let k = rw (turned_round (place_of f q) (place_of f p) g) at h in false≢true k

pub range-start_set : (f : Forest Content) (p : Point) (r : Range) → IsBoundary f p → IsRange f r → IsRange f (start_set f p r)
range-start_set f p r b h = go (same_root f p.node r.start.node && not (is_before f r.end p)) refl
  where
    go : (v : Bool) → (same_root f p.node r.start.node && not (is_before f r.end p)) ≡ v → IsRange f (record { start = p; end = if v then r.end else p })
    go false e = range_at_point f p b
    go true e =
        let k = and_parts (same_root f p.node r.start.node) (not (is_before f r.end p)) e in
        record {
          starts = b;
          ends = h.ends;
          one_root = same_option (root_of f p.node) (root_of f r.start.node) k.0 ∙ h.one_root;
          in_order = not_before f r.end p k.1;
        }

pub range-end_set : (f : Forest Content) (p : Point) (r : Range) → IsBoundary f p → IsRange f r → IsRange f (end_set f p r)
range-end_set f p r b h = go (same_root f p.node r.start.node && not (is_before f p r.start)) refl
  where
    go : (v : Bool) → (same_root f p.node r.start.node && not (is_before f p r.start)) ≡ v → IsRange f (record { start = if v then r.start else p; end = p })
    go false e = range_at_point f p b
    go true e =
        let k = and_parts (same_root f p.node r.start.node) (not (is_before f p r.start)) e in
        record {
          starts = h.starts;
          ends = b;
          one_root = sym (same_option (root_of f p.node) (root_of f r.start.node) k.0);
          in_order = not_before f p r.start k.1;
        }

-- Boundary points that commands name.

pub boundary_checked : (f : Forest Content) (p : Point) → 0 < occurs p.node f → check_point unit_count f p ≡ None → IsBoundary f p
boundary_checked f p h c =
    let k = clear ((is_of_kind DocumentType f p.node, InvalidNodeTypeError) ∷ (nat_lt (node_length unit_count f p.node) p.offset, IndexSizeError) ∷ []) c in
    record { there = HasNode-occurs f p.node h; kind = k.0; within = within (node_length unit_count f p.node) p.offset k.1.0 }
  where
    within : (whole o : ℕ) → nat_lt whole o ≡ false → o ≤ whole
    within whole o t = grind (arith, nat_tests)

module _ {f : Forest Content} {made : ℕ} (s : IsWood f made) (n parent : ℕ) (e : parent_of f n ≡ Some parent) where
  in_parent : (offset : ℕ) → offset ≤ index_of f n + 1 → IsBoundary f (record { node = parent; offset = offset })
  in_parent offset h =
      let hn = child_there f n parent e in
      let k = parent-passes s n parent e hn in
      let i = place-there n (children_of f parent) (child-listed f s.once n parent hn e) in
      let j = index-child f n parent e in
      let l = length-parent f parent k in
      record { there = HasNode-occurs f parent (parent-path f s.once n parent hn e).0; kind = no_doctype f parent k; within = omega arith }

  range_around : IsRange f (record { start = record { node = parent; offset = index_of f n }; end = record { node = parent; offset = index_of f n + 1 } })
  range_around =
      record {
        starts = in_parent (index_of f n) (omega arith);
        ends = in_parent (index_of f n + 1) (omega arith);
        one_root = refl;
        in_order = λ g. order-later f parent (index_of f n) (index_of f n + 1) (omega arith) g;
      }

module _ {f : Forest Content} {made : ℕ} (s : IsWood f made) (n : ℕ) where
  pub boundary_before : IfSome (point_before f n) (IsBoundary f)
  boundary_before = go (parent_of f n) refl
    where
      go : (p : Option ℕ) → parent_of f n ≡ p → IfSome (option_map (λ parent. record { node = parent; offset = index_of f n }) p) (IsBoundary f)
      go None e = tt
      go (Some parent) e = in_parent s n parent e (index_of f n) (omega arith)

  pub boundary_after : IfSome (point_after f n) (IsBoundary f)
  boundary_after = go (parent_of f n) refl
    where
      go : (p : Option ℕ) → parent_of f n ≡ p → IfSome (option_map (λ parent. record { node = parent; offset = index_of f n + 1 }) p) (IsBoundary f)
      go None e = tt
      go (Some parent) e = in_parent s n parent e (index_of f n + 1) (omega arith)

  pub range_selected : IfSome (around f n) (IsRange f)
  range_selected = go (parent_of f n) refl
    where
      go : (p : Option ℕ) → parent_of f n ≡ p → IfSome (option_map (λ parent. record {
        start = record { node = parent; offset = index_of f n };
        end = record { node = parent; offset = index_of f n + 1 };
      }) p) (IsRange f)
      go None e = tt
      go (Some parent) e = range_around s n parent e

pub range_of_contents : (f : Forest Content) (n : ℕ) → 0 < occurs n f → is_of_kind DocumentType f n ≡ false → IsRange f (contents_of unit_count f n)
range_of_contents f n h k =
    record {
      starts = record { there = HasNode-occurs f n h; kind = k; within = omega arith };
      ends = record { there = HasNode-occurs f n h; kind = k; within = omega arith };
      one_root = refl;
      in_order = λ g. order-later f n 0 (node_length unit_count f n) (omega arith) g;
    }
