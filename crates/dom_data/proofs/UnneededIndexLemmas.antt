-- An index of a child that no live range asks for, since none stands in the child's parent.
use Rattle.std.proofs.Common.{◌≡◌, ℕ, ◌==◌, Bool, true, false, refl, ap, sym, ◌∙◌}
use Rattle.dom_model.specs.Definitions.{among, Point, map_ranges}
use Rattle.dom_ranges.specs.Tables.{RangeTable, live_nodes}
use Rattle.dom_ranges.proofs.ForgetInsideLemmas.{ranges-alike}
use Rattle.dom_model.proofs.RangesAndContents.RangesElsewhere.{among-any}

-- a move by an index that matters in the parent alone is the same by any two indices, unless a live range stands there
pub unfelt : (move : ℕ → Point → Point) (v : RangeTable) (parent i j : ℕ) → ((q : Point) → (q.node == parent) ≡ false → move i q ≡ move j q)
    → (among parent (live_nodes v) ≡ true → i ≡ j) → map_ranges (move i) v.ranges ≡ map_ranges (move j) v.ranges
unfelt move v parent i j apart counted = go (among parent (live_nodes v)) refl
  where
    go : (b : Bool) → among parent (live_nodes v) ≡ b → map_ranges (move i) v.ranges ≡ map_ranges (move j) v.ranges
    go true e = ap (λ k. map_ranges (move k) v.ranges) (counted e)
    go false e = ranges-alike (move i) (move j) (λ m. m == parent) apart v.ranges (sym (among-any parent (live_nodes v)) ∙ e)
