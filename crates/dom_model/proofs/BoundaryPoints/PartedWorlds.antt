-- The world that a parting of a Text leaves: the points of each root stand in the order in which they stood.
use Rattle.std.proofs.Common.{◌≡◌, ℕ, ◌+◌, ◌<◌, ◌≤◌, List, [], length, Some, slice_get, refl, ap, sym, ◌∙◌, subst, arith}
use Rattle.dom_model.specs.Definitions.{Node, Forest, occurs, put, with_node, adopted, parent_of, children_of, next_of, index_of, root_of, Content, Point, World, order_of, after_gap, after_split, after_splice, map_ranges, node_document, named, with_text, tail_of, with_data, point, Parting, parting_from, on_world}
use Rattle.dom_model.specs.declared.Kind.TheVariants.{Text}
use Rattle.dom_model.proofs.Forests.{Indices.child-listed, Siblings.next-child, OneMoreRoot.more, OneMoreRoot.more-once, OneMoreRoot.more-there, OneMoreRoot.new-there, OneMoreRoot.parent-new, OneMoreRoot.children-new, OneMoreRoot.parent-more, OneMoreRoot.children-more, OneMoreRoot.root-more, OneMoreRoot.index-more, OneMoreRoot.order-more}
use Rattle.dom_model.proofs.BoundaryPoints.{NestedAlike.order-nested, NestedAlike.nested-with_node, NestedAlike.nested-adopted, SplitOrder.split_point, SplitOrder.tail-settled, SplitOrder.split-order_kept, PointOrder.map_ranges-twice}

-- where a point goes as a Text is parted, and its tail leaves it
abbrev pub parted : World → ℕ → ℕ → ℕ → ℕ → Point → Point
parted w at offset new parent q = after_splice at offset (length (tail_of w at offset)) 0 (split_point at offset new parent (index_of w.forest at) q)

-- other node documents in a tree, and other data in a node
changed : (top document n : ℕ) (text : List ℕ) (f : Forest Content) (p q : Point) → order_of (with_node n (with_data text) (adopted top document f)) p q ≡ order_of f p q
changed top document n text f p q =
    sym (order-nested (adopted top document f) (with_node n (with_data text) (adopted top document f)) (nested-with_node n (with_data text) (λ x. refl) (adopted top document f)) p q)
    ∙ sym (order-nested f (adopted top document f) (nested-adopted top document f) p q)

module _ (w : World) (o : (m : ℕ) → occurs m w.forest ≤ 1) (at offset new parent : ℕ) (hat : 0 < occurs at w.forest) (par : parent_of w.forest at ≡ Some parent) (bare : children_of w.forest at ≡ []) (fresh : occurs new w.forest ≡ 0) where
  abbrev new_text : Node Content
  new_text = record { number = new; document = node_document w at; label = named Text []; body = with_text (tail_of w at offset) }

  abbrev with_new : Forest Content
  with_new = more w.forest o new_text fresh

  far : new ≡ at → ⊥
  far e = let k : occurs at w.forest ≡ 0 = ap (λ m. occurs m w.forest) (sym e) ∙ fresh in omega arith

  other : (n : ℕ) → 0 < occurs n w.forest → n ≡ new → ⊥
  other n h e = let k : occurs n w.forest ≡ 0 = ap (λ m. occurs m w.forest) e ∙ fresh in omega arith

  above : parent ≡ at → ⊥
  above e = let h = rw (ap (children_of w.forest) e ∙ bare) at (child-listed w.forest o at parent hat par) in omega arith

  abbrev put_next : Forest Content
  put_next = put parent new (next_of with_new at) with_new

  same_next : slice_get (children_of with_new parent) (index_of w.forest at + 1) ≡ next_of with_new at
  same_next =
      subst (λ k. slice_get (children_of with_new parent) (k + 1) ≡ next_of with_new at) (index-more w.forest o new_text fresh at hat)
      (next-child with_new (more-once w.forest o new_text fresh) at parent (more-there w.forest o new_text fresh at hat) (parent-more w.forest o new_text fresh at hat ∙ par))

  -- the new Text comes in after the other, where both have the points that they get
  put-order : (n m a d : ℕ) → 0 < occurs n w.forest → 0 < occurs m w.forest → root_of w.forest n ≡ root_of w.forest m →
      order_of put_next (split_point at offset new parent (index_of w.forest at) (point n a)) (split_point at offset new parent (index_of w.forest at) (point m d)) ≡ order_of w.forest (point n a) (point m d)
  put-order n m a d hn hm one =
      let there = more-there w.forest o new_text fresh in
      subst (λ k. order_of put_next (split_point at offset new parent k (point n a)) (split_point at offset new parent k (point m d)) ≡ order_of with_new (point n a) (point m d)) (index-more w.forest o new_text fresh at hat)
      (split-order_kept with_new (more-once w.forest o new_text fresh) parent at new offset (there at hat) (new-there w.forest o new_text fresh)
      (parent-more w.forest o new_text fresh at hat ∙ par) (parent-new w.forest o new_text fresh) (children-more w.forest o new_text fresh at hat ∙ bare) (children-new w.forest o new_text fresh)
      n m a d (there n hn) (there m hm) (other n hn) (other m hm)
      (root-more w.forest o new_text fresh n hn ∙ one ∙ sym (root-more w.forest o new_text fresh m hm)))
      ∙ order-more w.forest o new_text fresh n m a d hn hm

  settled : (q : Point) → parted w at offset new parent q ≡ split_point at offset new parent (index_of w.forest at) q
  settled q = tail-settled at offset new parent (index_of w.forest at) (length (tail_of w at offset)) far above q

  -- of two points of one root, which comes first stays
  pub parting-order_kept : (n m a d : ℕ) → 0 < occurs n w.forest → 0 < occurs m w.forest → root_of w.forest n ≡ root_of w.forest m →
      order_of (on_world (Parting (point at offset) new) w).forest (parted w at offset new parent (point n a)) (parted w at offset new parent (point m d)) ≡ order_of w.forest (point n a) (point m d)
  parting-order_kept n m a d hn hm one =
      subst (λ q. order_of (parting_from (point at offset) new q w).forest (parted w at offset new parent (point n a)) (parted w at offset new parent (point m d)) ≡ order_of w.forest (point n a) (point m d)) (sym par)
      (changed new _ at _ (put parent new (slice_get (children_of with_new parent) (index_of w.forest at + 1)) with_new) (parted w at offset new parent (point n a)) (parted w at offset new parent (point m d))
      ∙ ap (λ b. order_of (put parent new b with_new) (parted w at offset new parent (point n a)) (parted w at offset new parent (point m d))) same_next
      ∙ ap (λ q. order_of put_next q (parted w at offset new parent (point m d))) (settled (point n a))
      ∙ ap (order_of put_next (split_point at offset new parent (index_of w.forest at) (point n a))) (settled (point m d))
      ∙ put-order n m a d hn hm one)

  -- the ends of the live ranges go so
  pub parting-ends : (on_world (Parting (point at offset) new) w).ranges ≡ map_ranges (parted w at offset new parent) w.ranges
  parting-ends =
      subst (λ q. (parting_from (point at offset) new q w).ranges ≡ map_ranges (parted w at offset new parent) w.ranges) (sym par)
      (ap (map_ranges (after_splice at offset (length (tail_of w at offset)) 0)) (map_ranges-twice (after_split at offset new parent (index_of w.forest at)) (after_gap parent (index_of w.forest at + 1) 1) w.ranges)
      ∙ map_ranges-twice (after_splice at offset (length (tail_of w at offset)) 0) (λ q. after_split at offset new parent (index_of w.forest at) (after_gap parent (index_of w.forest at + 1) 1 q)) w.ranges)
