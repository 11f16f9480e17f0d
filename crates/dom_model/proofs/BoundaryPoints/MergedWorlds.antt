-- The world that a merge of two Texts leaves: no point comes after one that it was not after.
use Rattle.std.proofs.Common.{◌≡◌, ℕ, ◌+◌, ◌<◌, ◌≤◌, [], length, Some, refl, ap, sym, ◌∙◌, subst, arith, Greater}
use Rattle.dom_model.specs.Definitions.{Forest, occurs, one_at, cut, with_node, inclusive_descendants, parent_of, children_of, index_of, root_of, Content, Point, World, order_of, after_merge, after_removal, after_splice, map_ranges, spliced, data_of, with_data, point, Merge, merge_from, on_world}
use Rattle.dom_model.proofs.BoundaryPoints.{NestedAlike.IsNestedAs, NestedAlike.order-nested, NestedAlike.nested-with_node, NestedAlike.total-nested, NestedAlike.parent-nested, NestedAlike.children-nested, NestedAlike.index-nested, NestedAlike.root-nested, MergeOrder.merge_point, MergeOrder.joined-settled, MergeOrder.merge-order_kept, PointOrder.map_ranges-twice}

-- a merge in a forest whose nodes may have got other data
module _ (f g : Forest Content) (alike : IsNestedAs f g) (o : (m : ℕ) → occurs m f ≤ 1) (n next parent base added : ℕ) (hn : 0 < occurs n f) (hnext : 0 < occurs next f) (par : parent_of f n ≡ Some parent) (par_next : parent_of f next ≡ Some parent) (after_it : index_of f next ≡ index_of f n + 1) (bare : children_of f n ≡ []) (bare_next : children_of f next ≡ []) where
  abbrev goes : Point → Point
  goes q = after_removal (inclusive_descendants g next) parent (index_of g next) (after_merge next n base parent (index_of f next) (after_splice n base 0 added q))

  same_count : (m : ℕ) → occurs m f ≡ occurs m g
  same_count m = total-nested (one_at m) f g alike

  goes-merged : (k a : ℕ) → (k ≡ n → a ≤ base) → goes (point k a) ≡ merge_point (inclusive_descendants g next) next n base parent (index_of g next) (point k a)
  goes-merged k a within =
      ap (λ q. after_removal (inclusive_descendants g next) parent (index_of g next) (after_merge next n base parent (index_of f next) q)) (joined-settled n base added k a within)
      ∙ ap (λ i. after_removal (inclusive_descendants g next) parent (index_of g next) (after_merge next n base parent i (point k a))) (index-nested f g alike next)

  merge-alike : (k m a d : ℕ) → 0 < occurs k f → 0 < occurs m f → (k ≡ n → a ≤ base) → (m ≡ n → d ≤ base) → root_of f k ≡ root_of f m → order_of (cut next g) (goes (point k a)) (goes (point m d)) ≡ Greater → order_of f (point k a) (point m d) ≡ Greater
  merge-alike k m a d hk hm within_k within_m one h =
      let there : (x : ℕ) → 0 < occurs x f → 0 < occurs x g = λ x i. let c = same_count x in omega arith in
      order-nested f g alike (point k a) (point m d)
      ∙ merge-order_kept g (λ x. let c = same_count x in let i = o x in omega arith) parent n next base (there n hn) (there next hnext)
      (sym (parent-nested f g alike n) ∙ par) (sym (parent-nested f g alike next) ∙ par_next)
      (sym (index-nested f g alike next) ∙ after_it ∙ ap (λ i. i + 1) (index-nested f g alike n))
      (sym (children-nested f g alike n) ∙ bare) (sym (children-nested f g alike next) ∙ bare_next)
      k m a d (there k hk) (there m hm) within_k within_m (sym (root-nested f g alike k) ∙ one ∙ root-nested f g alike m)
      (ap (λ q. order_of (cut next g) q (merge_point (inclusive_descendants g next) next n base parent (index_of g next) (point m d))) (sym (goes-merged k a within_k))
      ∙ ap (order_of (cut next g) (goes (point k a))) (sym (goes-merged m d within_m))
      ∙ h)

-- the forest whose Text `n` has the data of the next too
abbrev pub with_joined : World → ℕ → ℕ → Forest Content
with_joined w n next = with_node n (with_data (spliced (length (data_of w n)) 0 (data_of w next) (data_of w n))) w.forest

-- where a point goes as the Text `next` is joined to `n`
abbrev pub joined : World → ℕ → ℕ → ℕ → Point → Point
joined w n next parent q =
    after_removal (inclusive_descendants (with_joined w n next) next) parent (index_of (with_joined w n next) next)
    (after_merge next n (length (data_of w n)) parent (index_of w.forest next) (after_splice n (length (data_of w n)) 0 (length (data_of w next)) q))

module _ (w : World) (o : (m : ℕ) → occurs m w.forest ≤ 1) (n next parent : ℕ) (hn : 0 < occurs n w.forest) (hnext : 0 < occurs next w.forest) (par : parent_of w.forest n ≡ Some parent) (par_next : parent_of w.forest next ≡ Some parent) (after_it : index_of w.forest next ≡ index_of w.forest n + 1) (bare : children_of w.forest n ≡ []) (bare_next : children_of w.forest next ≡ []) where
  alike : IsNestedAs w.forest (with_joined w n next)
  alike = nested-with_node n (with_data (spliced (length (data_of w n)) 0 (data_of w next) (data_of w n))) (λ x. refl) w.forest

  -- of two points of one root, within the data of the first Text where they are its own, one that comes after the other was after it
  pub merging-order_kept : (k m a d : ℕ) → 0 < occurs k w.forest → 0 < occurs m w.forest → (k ≡ n → a ≤ length (data_of w n)) → (m ≡ n → d ≤ length (data_of w n)) → root_of w.forest k ≡ root_of w.forest m →
      order_of (on_world (Merge n next) w).forest (joined w n next parent (point k a)) (joined w n next parent (point m d)) ≡ Greater → order_of w.forest (point k a) (point m d) ≡ Greater
  merging-order_kept k m a d hk hm within_k within_m one h =
      merge-alike w.forest (with_joined w n next) alike o n next parent (length (data_of w n)) (length (data_of w next)) hn hnext par par_next after_it bare bare_next k m a d hk hm within_k within_m one
      (subst (λ q. order_of (merge_from n next q w).forest (joined w n next parent (point k a)) (joined w n next parent (point m d)) ≡ Greater) par_next h)

  -- the ends of the live ranges go so
  pub merging-ends : (on_world (Merge n next) w).ranges ≡ map_ranges (joined w n next parent) w.ranges
  merging-ends =
      let splice = after_splice n (length (data_of w n)) 0 (length (data_of w next)) in
      let merge = after_merge next n (length (data_of w n)) parent (index_of w.forest next) in
      let removal = after_removal (inclusive_descendants (with_joined w n next) next) parent (index_of (with_joined w n next) next) in
      subst (λ q. (merge_from n next q w).ranges ≡ map_ranges (joined w n next parent) w.ranges) (sym par_next)
      (ap (map_ranges removal) (map_ranges-twice merge splice w.ranges) ∙ map_ranges-twice removal (λ q. merge (splice q)) w.ranges)
