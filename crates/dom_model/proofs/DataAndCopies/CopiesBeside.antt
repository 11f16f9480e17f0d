-- Steps on younger trees leave the older ones: a forest as it was, with the younger trees after it.
use Rattle.std.proofs.Common.{◌≡◌, ℕ, ◌+◌, ◌≤◌, Bool, true, false, if◌then◌else◌, List, [], ◌∷◌, Option, Some, None, ap, sym, ◌∙◌, subst, arith}
use Rattle.dom_model.specs.Definitions.{children_in, Label, Forest, empty, node, size, beside, entry_in, parent_of, children_of, cut, put, adopted, in_document, EachNode, Content, World, made_node, tree_record_unless, emptied_fragment, taken_out, transients_made, removed_from, remove, remove_all, is_fragment, nodes_of, freed, node_document, put_in, put_all, insert_all, insert_nodes, append, renumbered, with_copies}
use Rattle.dom_model.proofs.Forests.{EachNode.EachNode-beside, EachNode.EachNode-cut, EachNode.EachNode-put, EachNode.EachNode-with_tree, Undone.beside-assoc, ForestsBeside.AreFrom, ForestsBeside.IsFrom, ForestsBeside.IsBelow, ForestsBeside.children-each, ForestsBeside.entry-younger, ForestsBeside.cut-younger, ForestsBeside.put-younger, ForestsBeside.adopted-younger}

-- v has the trees of f as they are, and after them others, whose numbers are at least `low`
pub record StandsBeside (f : Forest Content) (low : ℕ) (v : World) : Type 0 where
  pub others : Forest Content
  pub spelled : v.forest ≡ beside f others
  pub from : EachNode (IsFrom low) others
  pub made : low ≤ v.made

module _ (f : Forest Content) (low : ℕ) (below : IsBelow low f) where
  pub beside-same : (u v : World) → v.forest ≡ u.forest → v.made ≡ u.made → StandsBeside f low u → StandsBeside f low v
  beside-same u v e d s = record { others = s.others; spelled = e ∙ s.spelled; from = s.from; made = subst (λ k. low ≤ k) (sym d) s.made }

  record_unless-beside : (b : Bool) (n : ℕ) (xs ys : List ℕ) (p q : Option ℕ) (v : World) → StandsBeside f low v → StandsBeside f low (tree_record_unless b n xs ys p q v)
  record_unless-beside true n xs ys p q v s = s
  record_unless-beside false n xs ys p q v s = record { others = s.others; spelled = s.spelled; from = s.from; made = s.made }

  taken_out-beside : (n p : ℕ) (v : World) → low ≤ n → StandsBeside f low v → StandsBeside f low (transients_made n p (taken_out n p v))
  taken_out-beside n p v l s = record {
    others = cut n s.others;
    spelled = ap (cut n) s.spelled ∙ cut-younger low n f s.others l below;
    from = EachNode-cut (IsFrom low) n s.others s.from;
    made = s.made;
  }

  removed_from-beside : (b : Bool) (n : ℕ) (p : Option ℕ) (v : World) → low ≤ n → StandsBeside f low v → StandsBeside f low (removed_from b n p v)
  removed_from-beside b n None v l s = s
  removed_from-beside b n (Some p) v l s = record_unless-beside b p [] (n ∷ []) _ _ (transients_made n p (taken_out n p v)) (taken_out-beside n p v l s)

  remove-beside : (b : Bool) (n : ℕ) (v : World) → low ≤ n → StandsBeside f low v → StandsBeside f low (remove b n v)
  remove-beside b n v l s = removed_from-beside b n (parent_of v.forest n) v l s

  remove_all-beside : (ns : List ℕ) (v : World) → AreFrom low ns → StandsBeside f low v → StandsBeside f low (remove_all ns v)
  remove_all-beside [] v l s = s
  remove_all-beside (n ∷ ns) v l s = remove_all-beside ns (remove true n v) l.1 (remove-beside true n v l.0 s)

  freed-beside : (n : ℕ) (ns : List ℕ) (v : World) → low ≤ n → AreFrom low ns → StandsBeside f low v → StandsBeside f low (freed n ns v)
  freed-beside n ns v l k s = go (is_fragment v n)
    where
      go : (b : Bool) → StandsBeside f low (if b then emptied_fragment n ns v else remove false n v)
      go true = record_unless-beside false n [] ns None None (remove_all ns v) (remove_all-beside ns v k s)
      go false = remove-beside false n v l s

  put_in-beside : (p : ℕ) (c : Option ℕ) (n : ℕ) (v : World) → low ≤ p → low ≤ n → StandsBeside f low v → StandsBeside f low (put_in p c n v)
  put_in-beside p c n v k l s =
      let d = node_document v p in
      record {
        others = adopted n d (put p n c s.others);
        spelled = ap (λ (g : Forest Content). adopted n d (put p n c g)) s.spelled ∙ ap (adopted n d) (put-younger low p n c f s.others k l below) ∙ adopted-younger low n d f (put p n c s.others) l below;
        from = EachNode-with_tree (IsFrom low) n (in_document d) (λ x h. h) (put p n c s.others) (EachNode-put (IsFrom low) p n c s.others s.from);
        made = s.made;
      }

  put_all-beside : (p : ℕ) (c : Option ℕ) (ns : List ℕ) (v : World) → low ≤ p → AreFrom low ns → StandsBeside f low v → StandsBeside f low (put_all p c ns v)
  put_all-beside p c [] v k l s = s
  put_all-beside p c (n ∷ ns) v k l s = put_all-beside p c ns (put_in p c n v) k l.1 (put_in-beside p c n v k l.0 s)

  insert_all-beside : (b : Bool) (p : ℕ) (ns : List ℕ) (v : World) → low ≤ p → AreFrom low ns → StandsBeside f low v → StandsBeside f low (insert_all b p None ns v)
  insert_all-beside b p ns v k l s = record_unless-beside b p ns [] _ None (put_all p None ns v) (put_all-beside p None ns v k l s)

  insert_nodes-beside : (b : Bool) (n p : ℕ) (ns : List ℕ) (v : World) → low ≤ n → low ≤ p → AreFrom low ns → StandsBeside f low v → StandsBeside f low (insert_nodes b n p None ns v)
  insert_nodes-beside b n p [] v h k l s = s
  insert_nodes-beside b n p (m ∷ ms) v h k l s = insert_all-beside b p (m ∷ ms) (freed n (m ∷ ms) v) k l (freed-beside n (m ∷ ms) v h l s)

  nodes-from : (n : ℕ) (v : World) → low ≤ n → StandsBeside f low v → AreFrom low (nodes_of v n)
  nodes-from n v l s = go (is_fragment v n)
    where
      kids : AreFrom low (children_of v.forest n)
      kids =
          let e : children_of v.forest n ≡ children_in (entry_in s.others n) = ap (λ (g : Forest Content). children_of g n) s.spelled ∙ ap children_in (entry-younger n f s.others (below n l)) in
          rw e (children-each (λ m. low ≤ m) n None s.others s.from)

      go : (b : Bool) → AreFrom low (if b then children_of v.forest n else n ∷ [])
      go true = kids
      go false = (l, tt)

  -- a younger node is appended to another
  pub append-beside : (n p : ℕ) (v : World) → low ≤ n → low ≤ p → StandsBeside f low v → StandsBeside f low (append n p v)
  append-beside n p v h k s = insert_nodes-beside false n p (nodes_of v n) v h k (nodes-from n v h s) s

  renumbered-from : (document next : ℕ) (g : Forest Content) → low ≤ next → EachNode (IsFrom low) (renumbered document next g)
  renumbered-from document next empty h = tt
  renumbered-from document next (node x kids rest) h =
      (h, renumbered-from document (next + 1) kids (omega arith), renumbered-from document (next + 1 + size kids) rest (omega arith))

  -- copies, and new nodes
  pub copies-beside : (document : ℕ) (g : Forest Content) (v : World) → StandsBeside f low v → StandsBeside f low (with_copies document g v)
  copies-beside document g v s =
      let h = s.made in
      record {
        others = beside s.others (renumbered document v.made g);
        spelled = ap (λ (k : Forest Content). beside k (renumbered document v.made g)) s.spelled ∙ beside-assoc f s.others (renumbered document v.made g);
        from = EachNode-beside (IsFrom low) s.others (renumbered document v.made g) s.from (renumbered-from document v.made g h);
        made = omega arith;
      }

  pub made-beside : (document : ℕ) (label : Label) (body : Content) (v : World) → StandsBeside f low v → StandsBeside f low (made_node document label body v)
  made-beside document label body v s =
      let h = s.made in
      let new : Forest Content = node (record { number = v.made; document = document; label = label; body = body }) empty empty in
      record {
        others = beside s.others new;
        spelled = ap (λ (k : Forest Content). beside k new) s.spelled ∙ beside-assoc f s.others new;
        from = EachNode-beside (IsFrom low) s.others new s.from (h, tt, tt);
        made = omega arith;
      }
