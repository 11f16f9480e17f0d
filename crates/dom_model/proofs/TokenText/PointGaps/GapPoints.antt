-- Each boundary point of a tree stands among the tree's gaps, at the place that it has in the tree.
use Rattle.std.proofs.Common.{◌≡◌, ℕ, suc, ◌+◌, ◌*◌, ◌<◌, ◌≤◌, Bool, true, false, List, [], ◌∷◌, reverse, drop, length, Option, Some, refl, ap, sym, ◌∙◌, subst, arith, inl, inr}
use Rattle.std.proofs.lemmas.Bool.{cases_lt}
use Rattle.dom_model.specs.Definitions.{is_kind, is_character_data, Node, Forest, empty, node, occurs, tops, entry_under, ancestors, KindsFit, Content, length_of, length_in, unit_count, point}
use Rattle.dom_model.specs.declared.{Kind.Kind, Kind.TheVariants.DocumentType}
use Rattle.dom_model.proofs.Soundness.SoundForests.{parent_no_data, parent_kind}
use Rattle.dom_model.proofs.Forests.{Chains.way_to, Totals.occurs-kids, Climbing.ancestors-rest, Lots.lot, Lots.on_top, Lots.beneath, Lots.elsewhere, Lots.InTree, Lots.at_top, Lots.under_top, Lots.entry-top, Lots.entry-beneath, Lots.entry-elsewhere, Lots.ancestors-top, Lots.reverse-beneath, Lots.way-beneath, IndexedTrees.IsIndexed}
use Rattle.dom_model.proofs.BoundaryPoints.WaysKept.{place_by}
use Rattle.dom_model.proofs.TokenText.{PointGaps.GapWalk.tree_gaps, PointGaps.GapPlaces.Stands, PointGaps.GapPlaces.StandsInTree}

-- Only a node without data has children.

above-no_data : (k : Kind) (n : ℕ) (kids : Forest Content) → KindsFit (Some k) kids → 0 < occurs n kids → is_character_data k ≡ false
above-no_data k n empty fit h = absurd (omega arith)
above-no_data k n (node y below rest) fit h = parent_no_data k (parent_kind k y.label.kind fit.0)

-- A point of the node itself, from offset i on.
own-points : (n i a : ℕ) (f : Forest Content) → i ≤ a → a ≤ i + length (tops f) → (k : ℕ) × Stands n i f (point n a) ((2 * a) ∷ []) k
own-points n i a empty low high =
    let e : a ≡ i = omega arith in
    (0, (ap (point n) e, ap (λ m. (2 * m) ∷ []) e, refl))
own-points n i a (node x kids rest) low high =
    elim (cases_lt i a) [
      | inl lt ↦
          let later = own-points n (i + 1) a rest (omega arith) (omega arith) in
          (suc (length (tree_gaps x kids) + later.0), inr (inr (record { past = later.0; later = later.1; count_is = refl })))
      | inr le ↦ (let e : a ≡ i = omega arith in (0, inl (ap (point n) e, ap (λ m. (2 * m) ∷ []) e, refl)))
    ]

top-point : (q : Option ℕ) (x : Node Content) (kids : Forest Content) (a : ℕ) → a ≤ length_of unit_count (record { value = x; parent = q; children = tops kids }) → (k : ℕ) × StandsInTree x kids (point x.number a) ((2 * a) ∷ []) k
top-point q x kids a h = go (is_character_data x.label.kind) refl (is_kind x.label.kind DocumentType) refl
  where
    go : (v : Bool) → is_character_data x.label.kind ≡ v → (w : Bool) → is_kind x.label.kind DocumentType ≡ w → (k : ℕ) × StandsInTree x kids (point x.number a) ((2 * a) ∷ []) k
    go true e true d = (let i = rw d at h in (a, inl (e, (refl, omega arith, refl))))
    go true e false d = (let i = rw (d, e) at h in (a, inl (e, (refl, i, refl))))
    go false e true d = (let i = rw d at h in let s = own-points x.number 0 a kids (omega arith) (omega arith) in (s.0, inr (e, s.1)))
    go false e false d = (let i = rw (d, e) at h in let s = own-points x.number 0 a kids (omega arith) (omega arith) in (s.0, inr (e, s.1)))

module _ (index : ℕ → ℕ) where
  -- A point of a node in a tree, where those below its top stand at their places.
  tree-point : (q : Option ℕ) (x : Node Content) (kids rest : Forest Content) (m a : ℕ) → KindsFit (Some x.label.kind) kids → InTree m x kids → a ≤ length_in unit_count (entry_under q m (node x kids rest)) →
      (0 < occurs m kids → a ≤ length_in unit_count (entry_under (Some x.number) m kids) → (k : ℕ) × Stands x.number 0 kids (point m a) (place_by index (reverse (ancestors m kids)) a) k)
      → (k : ℕ) × StandsInTree x kids (point m a) (place_by index (way_to (node x kids rest) m) a) k
  tree-point q x kids rest m a fit (at_top e) h below =
      let i = rw (entry-top q m x kids rest e) at h in
      let s = top-point q x kids a i in
      let w : way_to (node x kids rest) m ≡ [] = ap (λ (ms : List ℕ). drop 1 (reverse ms)) (ancestors-top m x kids rest e) in
      (s.0, rw w (subst (λ n. StandsInTree x kids (point n a) ((2 * a) ∷ []) s.0) e s.1))
  tree-point q x kids rest m a fit (under_top ne hm) h below =
      let i = rw (entry-beneath q m x kids rest ne hm) at h in
      let s = below hm i in
      (s.0, rw (way-beneath m x kids rest ne hm) (inr (above-no_data x.label.kind m kids fit hm, s.1)))

  way-first : (x : Node Content) (kids rest : Forest Content) (m : ℕ) → InTree m x kids → reverse (ancestors m (node x kids rest)) ≡ x.number ∷ way_to (node x kids rest) m
  way-first x kids rest m (at_top e) =
      let w = ap (λ (ms : List ℕ). reverse ms) (ancestors-top m x kids rest e) in
      w ∙ ap (λ n. n ∷ []) (sym e) ∙ ap (λ (ms : List ℕ). x.number ∷ ms) (sym (ap (λ (ms : List ℕ). drop 1 ms) w))
  way-first x kids rest m (under_top ne h) =
      reverse-beneath m x kids rest ne h ∙ ap (λ (ms : List ℕ). x.number ∷ ms) (sym (way-beneath m x kids rest ne h))

  -- A point of a node below.
  points-below : (n i : ℕ) (q : Option ℕ) (kind : Kind) (f : Forest Content) (m a : ℕ) → IsIndexed index i f → KindsFit (Some kind) f → 0 < occurs m f → a ≤ length_in unit_count (entry_under q m f) → (k : ℕ) × Stands n i f (point m a) (place_by index (reverse (ancestors m f)) a) k
  points-below n i q kind empty m a ix fit hm h = absurd (omega arith)
  points-below n i q kind (node x kids rest) m a ix fit hm h =
      elim (lot m x kids) [
        | on_top e ↦ first (at_top e) (λ j l. points-below x.number 0 (Some x.number) x.label.kind kids m a ix.1 fit.1 j l)
        | beneath ne k ↦ first (under_top ne k) (λ j l. points-below x.number 0 (Some x.number) x.label.kind kids m a ix.1 fit.1 j l)
        | elsewhere ne z ↦
            let j : 0 < occurs m rest = omega (arith, occurs-kids m x kids rest ne) in
            let l = rw (entry-elsewhere q m x kids rest ne z) at h in
            let s = points-below n (i + 1) q kind rest m a ix.2 fit.2 j l in (
              suc (length (tree_gaps x kids) + s.0),
              rw (ancestors-rest m x kids rest ne z) (inr (inr (record { past = s.0; later = s.1; count_is = refl }))),
            )
      ]
    where
      first : InTree m x kids → (0 < occurs m kids → a ≤ length_in unit_count (entry_under (Some x.number) m kids) → (k : ℕ) × Stands x.number 0 kids (point m a) (place_by index (reverse (ancestors m kids)) a) k) → (k : ℕ) × Stands n i (node x kids rest) (point m a) (place_by index (reverse (ancestors m (node x kids rest))) a) k
      first t below =
          let s = tree-point q x kids rest m a fit.1 t h below in
          let w : place_by index (reverse (ancestors m (node x kids rest))) a ≡ (2 * i + 1) ∷ place_by index (way_to (node x kids rest) m) a =
          ap (λ (ms : List ℕ). place_by index ms a) (way-first x kids rest m t) ∙ ap (λ k. (2 * k + 1) ∷ place_by index (way_to (node x kids rest) m) a) ix.0 in
          (suc s.0, inr (inl (record { below = place_by index (way_to (node x kids rest) m) a; past = s.0; inside = s.1; place_is = w; count_is = refl })))

  -- A point of a tree, at its place in the tree.
  pub tree-points : (q : Option ℕ) (x : Node Content) (kids rest : Forest Content) (m a : ℕ) → IsIndexed index 0 kids → KindsFit (Some x.label.kind) kids → InTree m x kids → a ≤ length_in unit_count (entry_under q m (node x kids rest)) → (k : ℕ) × StandsInTree x kids (point m a) (place_by index (way_to (node x kids rest) m) a) k
  tree-points q x kids rest m a ix fit t h =
      tree-point q x kids rest m a fit t h (λ j l. points-below x.number 0 (Some x.number) x.label.kind kids m a ix fit j l)
