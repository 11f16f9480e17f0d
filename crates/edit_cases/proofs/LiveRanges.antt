-- Two points that pass their checks make a live range.
use Rattle.std.proofs.Common.{◌≡◌, true, Option, Some, None, refl, is_ok, Greater}
use Rattle.dom_model.specs.declared.DomError.{DomError}
use Rattle.dom_model.specs.Definitions.{Forest, HasNode, root_of, Content, Point, Range, unit_count, order_of, check_point, IsBoundary, IsRange}
use Rattle.dom_model.proofs.Forests.Entries.{occurs-HasNode}
use Rattle.dom_model.proofs.RangesAndContents.RangesSet.{boundary_checked}
use Rattle.dom_ranges.specs.Tables.{IsBoundaryIn, IsRangeIn, result_of_check}

not_refused : (o : Option DomError) → is_ok (result_of_check o) ≡ true → o ≡ None
not_refused None h = refl
not_refused (Some e) h = absurd (cc h)

checked : (f : Forest Content) (p : Point) → HasNode f p.node → is_ok (result_of_check (check_point unit_count f p)) ≡ true → IsBoundary f p
checked f p held h = boundary_checked f p (occurs-HasNode f p.node held) (not_refused (check_point unit_count f p) h)

-- two points of one tree that pass their checks, the first not after the second
pub range-checked : (f : Forest Content) (a b : Point) → HasNode f a.node → HasNode f b.node → is_ok (result_of_check (check_point unit_count f a)) ≡ true → is_ok (result_of_check (check_point unit_count f b)) ≡ true
    → root_of f a.node ≡ root_of f b.node → (order_of f a b ≡ Greater → ⊥) → IsRange f (record { start = a; end = b })
range-checked f a b a_held b_held a_checked b_checked one_root in_order =
    record { starts = checked f a a_held a_checked; ends = checked f b b_held b_checked; one_root = one_root; in_order = in_order }

boundary-in : (f : Forest Content) (p : Point) → IsBoundary f p → IsBoundaryIn unit_count f p
boundary-in f p b = record { there = b.there; kind = b.kind; within = b.within }

-- a range in the words of the table of ranges
pub range-in : (f : Forest Content) (r : Range) → IsRange f r → IsRangeIn unit_count f r
range-in f r h = record { starts = boundary-in f r.start h.starts; ends = boundary-in f r.end h.ends; one_root = h.one_root; in_order = h.in_order }
