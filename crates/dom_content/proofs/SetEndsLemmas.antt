-- Both ends of a live range are set to one point. DOM Standard, "Interface Range".
use Rattle.std.proofs.Common.{◌≡◌, ℕ, List, Option, Some, slice_set, ap, sym, ◌∙◌, subst}
use Rattle.dom_model.specs.Definitions.{Point, Range, IsRange, collapsed_at, with_range}
use Rattle.dom_model.proofs.Soundness.SoundRangeSteps.{sound-with_range}
use Rattle.dom_ranges.specs.Tables.{RangeTable}
use Rattle.dom_edit.specs.{declared.world.World.World, Whole.CoversHeld, Whole.IsWhole, Whole.Follows, Whole.unwatched}
use Rattle.dom_edit.proofs.FollowsLemmas.{keeps-unwatched, whole-sound}
use Rattle.dom_data.proofs.IsWholeLemmas.{sound-unwatched}

module _ (v : World) (r : ℕ) (p : Point) (u : RangeTable) (is : u ≡ record v.ranges { ranges = slice_set v.ranges.ranges r (Some (collapsed_at p)) }) where
  pub follows-standing : Follows v (record v { ranges = u }) (with_range r (collapsed_at p))
  follows-standing = record {
    keeps = λ w k. record {
      forest = k.forest;
      made = k.made;
      ranges = ap (λ (rs : List (Option Range)). slice_set rs r (Some (collapsed_at p))) k.ranges ∙ sym (ap (λ (x : RangeTable). x.ranges) is);
      static_ranges = k.static_ranges;
      iterators = k.iterators;
      walkers = k.walkers;
    };
    watches = λ w k o. o;
  }

  pub whole-standing : IsWhole v → IsRange v.tree.forest (collapsed_at p) → IsWhole (record v { ranges = u })
  whole-standing h within =
      let covers : CoversHeld v.tree u.covered = subst (CoversHeld v.tree) (sym (ap (λ (x : RangeTable). x.covered) is)) h.covered in
      whole-sound (record v { ranges = u }) (with_range r (collapsed_at p) (unwatched v)) (follows-standing.keeps (unwatched v) (keeps-unwatched v))
      (sound-with_range r (collapsed_at p) (unwatched v) (sound-unwatched v h) within) h.documents h.owners covers h.statics h.observers
