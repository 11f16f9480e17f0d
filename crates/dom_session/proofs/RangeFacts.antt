-- What a world that is whole tells of the nodes and live ranges that it holds.
use Rattle.std.proofs.Common.{◌≡◌, ℕ, ◌+◌, ◌<◌, ◌≤◌, true, length, Some, None, ◌∷◌, sym, ap, ◌∙◌, subst, arith, ⊎_elim}
use Rattle.std.specs.Option.{ForSome}
use Rattle.std.proofs.lemmas.{Bool.cases_lt, List.get_or_past}
use Rattle.dom_model.specs.declared.Kind.TheVariants.{Document}
use Rattle.dom_model.specs.Definitions.{Forest, Grove, HasNode, IsForest, parent_of, index_of, root_of, unit_count, is_of_kind, Content, Point, Range, IsBoundary, IsRange, last_of, collapsed_at, around}
use Rattle.dom_model.proofs.Forests.{Entries.occurs-HasNode, Changes.seen, Changes.nothing, Changes.just, Climbing.ancestors-there, Above.above}
use Rattle.dom_model.proofs.Soundness.{SoundWorlds.IsLive, SoundRangeSteps.document_is_no_doctype}
use Rattle.dom_model.proofs.RangesAndContents.RangesSet.{range_at_point}
use Rattle.dom_ranges.specs.Tables.{IsCovered, range_in, StandsIn, IsBoundaryIn, IsRangeIn}
use Rattle.dom_edit.specs.{declared.world.World.World, Whole.IsWhole}

boundary-in : (f : Forest Content) (p : Point) → IsBoundary f p → IsBoundaryIn unit_count f p
boundary-in f p b = record { there = b.there; kind = b.kind; within = b.within }

-- a range in the words of the table of ranges
pub range-in : (f : Forest Content) (r : Range) → IsRange f r → IsRangeIn unit_count f r
range-in f r h = record { starts = boundary-in f r.start h.starts; ends = boundary-in f r.end h.ends; one_root = h.one_root; in_order = h.in_order }

pub stands-in : (f : Forest Content) (r : Range) → IsRange f r → StandsIn f r
stands-in f r h = record { start = h.starts.there; end = h.ends.there; one_root = h.one_root }

-- the start of a document is a range
pub range-of_document : (f : Forest Content) (d : ℕ) → HasNode f d → is_of_kind Document f d ≡ true → IsRange f (collapsed_at (record { node = d; offset = 0 }))
range-of_document f d there h =
    range_at_point f (record { node = d; offset = 0 }) (record { there = there; kind = document_is_no_doctype f d h; within = omega arith })

-- the range around a node has both ends in its parent
pub around-parent : {X : Type 0} (f : Forest X) (n : ℕ) (r : Range) → around f n ≡ Some r → (parent_of f n ≡ Some r.start.node) × (parent_of f n ≡ Some r.end.node)
around-parent f n r e =
    elim (seen (parent_of f n)) [
      | nothing d ↦ absurd (let k = rw d at e in cc k)
      | just p d ↦
          let k = rw d at e in
          let same : record { start = record { node = p; offset = index_of f n }; end = record { node = p; offset = index_of f n + 1 } } ≡ r = cc k in
          (d ∙ ap (λ (x : Range). Some x.start.node) same, d ∙ ap (λ (x : Range). Some x.end.node) same)
    ]

-- a node and its parent have one root
pub root-above : {X : Type 0} {g : Grove X} → IsForest g → (n q : ℕ) → HasNode g.forest n → parent_of g.forest n ≡ Some q → root_of g.forest n ≡ root_of g.forest q
root-above {X} {g} s n q h p =
    let a = above s n q h p in
    let e = ancestors-there q g.forest (occurs-HasNode g.forest q a.there) in
    ap last_of (a.path ∙ ap (λ ns. n ∷ ns) e.1) ∙ sym (ap last_of e.1)

module _ (v : World) (h : IsWhole v) where
  pub node-covered : (n : ℕ) → HasNode v.tree.forest n → IsCovered v.ranges n
  node-covered n there = h.covered.held n there

  pub range-live : (r : ℕ) → IsLive v.tree.forest (range_in v.ranges r)
  range-live r =
      ⊎_elim
      (λ (lt : r < length v.ranges.ranges). h.ranges r None lt)
      (λ (le : length v.ranges.ranges ≤ r). subst (IsLive v.tree.forest) (sym (get_or_past v.ranges.ranges r None le)) tt)
      (cases_lt r (length v.ranges.ranges))

  pub range-held : (r : ℕ) (range : Range) → range_in v.ranges r ≡ Some range → IsRange v.tree.forest range
  range-held r range e = subst (IsLive v.tree.forest) e (range-live r)

  pub range-stands : (r : ℕ) → ForSome (range_in v.ranges r) (StandsIn v.tree.forest)
  range-stands r range e = stands-in v.tree.forest range (range-held r range e)
