-- What extracting leaves of the tree of a root: at each step of the paths the tree loses some children, or a node some units.
use Rattle.std.proofs.Common.{◌≡◌, ℕ, ◌-◌, ◌<◌, ◌≤◌, Bool, true, false, if◌then◌else◌, List, [], ◌∷◌, take, drop, length, ap, sym, subst, arith}
use Rattle.dom_model.specs.Definitions.{hits, past, up_to, children_in, is_character_data, Forest, occurs, without, children_of, map_nodes, substring, Content, World, entry_has, kind_passes, node_document, append, original, document_of_clone, clone_node, content_in, data_of, with_data, new_fragment, clone_with, units_into, children_into, copy_into, tail_into, head_into}
use Rattle.dom_model.proofs.Forests.Climbing.{hits-first}
use Rattle.dom_model.proofs.RangesAndContents.{DrawnPaths.hits-drop, DrawnPaths.hits-take, DrawnPaths.hits-past, DrawnPaths.hits-up_to, TreesOfRoots.taken, OldTrees.data_in, OldTrees.cut_data, OldTrees.HasTree, OldTrees.entry-tree, OldTrees.child-not_root, OldTrees.append-outside, OldTrees.IsOld, OldTrees.old-without, OldTrees.old-taken, OldTrees.old-cut, OldTrees.append-has, OldTrees.copies-has, OldTrees.fragment-has, OldTrees.replace-has}

abbrev pub has_data : Forest Content → ℕ → Bool
has_data t n = kind_passes is_character_data t n

-- the tree without what lies from an offset of the path's last node to the end of its first
abbrev pub tail_taken : ℕ → List ℕ → Forest Content → Forest Content
tail_taken offset [] t = t
tail_taken offset (n ∷ []) t = if has_data t n then cut_data n offset (length (data_in t n) - offset) t else taken (drop offset (children_of t n)) t
tail_taken offset (n ∷ m ∷ path) t = taken (past m (children_of t n)) (tail_taken offset (m ∷ path) t)

-- the tree without what lies from the start of the path's first node to an offset of its last
abbrev pub head_taken : ℕ → List ℕ → Forest Content → Forest Content
head_taken offset [] t = t
head_taken offset (n ∷ []) t = if has_data t n then cut_data n 0 offset t else taken (take offset (children_of t n)) t
head_taken offset (n ∷ m ∷ path) t = head_taken offset (m ∷ path) (taken (up_to m (children_of t n)) t)

-- the path's nodes are in the tree
abbrev pub AreIn : List ℕ → Forest Content → Type 0
AreIn [] t = Unit {0}
AreIn (n ∷ path) t = (0 < occurs n t) × AreIn path t

-- and so each is still when its turn comes
abbrev pub StayIn : List ℕ → Forest Content → Type 0
StayIn [] t = Unit {0}
StayIn (n ∷ []) t = 0 < occurs n t
StayIn (n ∷ m ∷ path) t = (0 < occurs n t) × StayIn (m ∷ path) (taken (up_to m (children_of t n)) t)

module _ (root low : ℕ) where
  old-if : (b : Bool) (t u : Forest Content) → IsOld root low t → IsOld root low u → IsOld root low (if b then t else u)
  old-if true t u h k = h
  old-if false t u h k = k

  pub old-tail : (offset : ℕ) (path : List ℕ) (t : Forest Content) → IsOld root low t → IsOld root low (tail_taken offset path t)
  old-tail offset [] t o = o
  old-tail offset (n ∷ []) t o =
      old-if (has_data t n) (cut_data n offset (length (data_in t n) - offset) t) (taken (drop offset (children_of t n)) t) (old-cut root low n offset (length (data_in t n) - offset) t o) (old-taken root low (drop offset (children_of t n)) t o)
  old-tail offset (n ∷ m ∷ path) t o = old-taken root low (past m (children_of t n)) (tail_taken offset (m ∷ path) t) (old-tail offset (m ∷ path) t o)

  pub old-head : (offset : ℕ) (path : List ℕ) (t : Forest Content) → IsOld root low t → IsOld root low (head_taken offset path t)
  old-head offset [] t o = o
  old-head offset (n ∷ []) t o =
      old-if (has_data t n) (cut_data n 0 offset t) (taken (take offset (children_of t n)) t) (old-cut root low n 0 offset t o) (old-taken root low (take offset (children_of t n)) t o)
  old-head offset (n ∷ m ∷ path) t o = old-head offset (m ∷ path) (taken (up_to m (children_of t n)) t) (old-taken root low (up_to m (children_of t n)) t o)

  pub children-has : (ns : List ℕ) (into : ℕ) (t : Forest Content) (v : World) → ((m : ℕ) → 0 < hits m ns → m ≡ root → ⊥) → low ≤ into → IsOld root low t → HasTree root low t v → HasTree root low (taken ns t) (children_into true into ns v)
  children-has [] into t v ne l o h = h
  children-has (n ∷ ns) into t v ne l o h =
      children-has ns into (without n t) (append n into v) (λ m k. ne m (omega arith)) l (old-without root low n t o) (append-has root low n into t v (ne n (hits-first n ns)) l o h)

  pub units-has : (n into offset count : ℕ) (t : Forest Content) (v : World) → 0 < occurs n t → low ≤ into → IsOld root low t → HasTree root low t v → HasTree root low (cut_data n offset count t) (units_into true into n offset count v)
  units-has n into offset count t v k l o h =
      let first : HasTree root low t (clone_with (substring offset count (data_of v n)) n v) = copies-has root low (node_document v n) (map_nodes (with_data (substring offset count (data_of v n))) (original false n v.forest)) t v h in
      let second = append-outside root low v.made into t (clone_with (substring offset count (data_of v n)) n v) (o.below v.made h.begun) (o.below into l) first in
      replace-has root low n offset count t (append v.made into (clone_with (substring offset count (data_of v n)) n v)) k second

  copy-has : (into n : ℕ) (t u : Forest Content) (v : World) (fill : ℕ → World → World) → low ≤ into → IsOld root low t → IsOld root low u → HasTree root low t v → ((inner : ℕ) (x : World) → low ≤ inner → HasTree root low t x → HasTree root low u (fill inner x)) → HasTree root low u (copy_into into n fill v)
  copy-has into n t u v fill l o p h each =
      let first : HasTree root low t (clone_node false n v) = copies-has root low (document_of_clone v n) (original false n v.forest) t v h in
      let second : HasTree root low t (append v.made into (clone_node false n v)) = append-outside root low v.made into t (clone_node false n v) (o.below v.made h.begun) (o.below into l) first in
      let third : HasTree root low t (new_fragment (node_document v n) (append v.made into (clone_node false n v))) = fragment-has root low (node_document v n) t (append v.made into (clone_node false n v)) second in
      let filled = each (append v.made into (clone_node false n v)).made (new_fragment (node_document v n) (append v.made into (clone_node false n v))) second.begun third in
      append-outside root low (append v.made into (clone_node false n v)).made v.made u (fill (append v.made into (clone_node false n v)).made (new_fragment (node_document v n) (append v.made into (clone_node false n v)))) (p.below (append v.made into (clone_node false n v)).made second.begun) (p.below v.made h.begun) filled

  module _ (n : ℕ) (t : Forest Content) (v : World) (k : 0 < occurs n t) (h : HasTree root low t v) where
    pub same-kind : kind_passes is_character_data v.forest n ≡ has_data t n
    same-kind = ap (entry_has is_character_data) (entry-tree root low t v h n k)

    pub same-data : data_of v n ≡ data_in t n
    same-data = ap (λ q. (content_in q).text) (entry-tree root low t v h n k)

    pub same-children : children_of v.forest n ≡ children_of t n
    same-children = ap children_in (entry-tree root low t v h n k)

    some-has : (ns : List ℕ) → ((m : ℕ) → hits m ns ≤ hits m (children_of v.forest n)) → (into : ℕ) (u : Forest Content) (x : World) → low ≤ into → IsOld root low u → HasTree root low u x → HasTree root low (taken ns u) (children_into true into ns x)
    some-has ns le into u x l o g = children-has ns into u x (λ m i. child-not_root root low t v h n m (let j = le m in omega arith)) l o g

  -- the last node of a path loses some units, or some children
  last-has : (n into start count : ℕ) (ns : List ℕ) (t : Forest Content) (v : World) → 0 < occurs n t → low ≤ into → IsOld root low t → HasTree root low t v → ((m : ℕ) → hits m ns ≤ hits m (children_of v.forest n)) →
      HasTree root low (if has_data t n then cut_data n start count t else taken ns t) (if kind_passes is_character_data v.forest n then units_into true into n start count v else copy_into into n (λ inner u. children_into true inner ns u) v)
  last-has n into start count ns t v k l o h among =
      subst (λ b. HasTree root low (if has_data t n then cut_data n start count t else taken ns t) (if b then units_into true into n start count v else copy_into into n (λ inner u. children_into true inner ns u) v)) (sym (same-kind n t v k h)) (go (has_data t n))
    where
      go : (b : Bool) → HasTree root low (if b then cut_data n start count t else taken ns t) (if b then units_into true into n start count v else copy_into into n (λ inner u. children_into true inner ns u) v)
      go true = units-has n into start count t v k l o h
      go false = copy-has into n t (taken ns t) v (λ inner u. children_into true inner ns u) l o (old-taken root low ns t o) h (λ inner x li hx. some-has n t v k h ns among inner t x li o hx)

  pub tail-has : (path : List ℕ) (into offset : ℕ) (t : Forest Content) (v : World) → low ≤ into → IsOld root low t → HasTree root low t v → AreIn path t → HasTree root low (tail_taken offset path t) (tail_into true into offset path v)
  tail-has [] into offset t v l o h i = h
  tail-has (n ∷ []) into offset t v l o h i =
      subst (λ xs. HasTree root low (if has_data t n then cut_data n offset (length xs - offset) t else taken (drop offset (children_of t n)) t) (tail_into true into offset (n ∷ []) v)) (same-data n t v i.0 h)
      (subst (λ ms. HasTree root low (if has_data t n then cut_data n offset (length (data_of v n) - offset) t else taken (drop offset ms) t) (tail_into true into offset (n ∷ []) v)) (same-children n t v i.0 h)
      (last-has n into offset (length (data_of v n) - offset) (drop offset (children_of v.forest n)) t v i.0 l o h (λ m. hits-drop m offset (children_of v.forest n))))
  tail-has (n ∷ m ∷ path) into offset t v l o h i =
      subst (λ ms. HasTree root low (taken (past m ms) (tail_taken offset (m ∷ path) t)) (tail_into true into offset (n ∷ m ∷ path) v)) (same-children n t v i.0 h)
      (copy-has into n t (taken (past m (children_of v.forest n)) (tail_taken offset (m ∷ path) t)) v (λ inner x. children_into true inner (past m (children_of v.forest n)) (tail_into true inner offset (m ∷ path) x)) l o
      (old-taken root low (past m (children_of v.forest n)) (tail_taken offset (m ∷ path) t) (old-tail offset (m ∷ path) t o)) h
      (λ inner x li hx. some-has n t v i.0 h (past m (children_of v.forest n)) (λ q. hits-past q m (children_of v.forest n)) inner (tail_taken offset (m ∷ path) t) (tail_into true inner offset (m ∷ path) x) li (old-tail offset (m ∷ path) t o)
      (tail-has (m ∷ path) inner offset t x li o hx i.1)))

  pub head-has : (path : List ℕ) (into offset : ℕ) (t : Forest Content) (v : World) → low ≤ into → IsOld root low t → HasTree root low t v → StayIn path t → HasTree root low (head_taken offset path t) (head_into true into offset path v)
  head-has [] into offset t v l o h i = h
  head-has (n ∷ []) into offset t v l o h i =
      subst (λ ms. HasTree root low (if has_data t n then cut_data n 0 offset t else taken (take offset ms) t) (head_into true into offset (n ∷ []) v)) (same-children n t v i h)
      (last-has n into 0 offset (take offset (children_of v.forest n)) t v i l o h (λ m. hits-take m offset (children_of v.forest n)))
  head-has (n ∷ m ∷ path) into offset t v l o h i =
      subst (λ ms. HasTree root low (head_taken offset (m ∷ path) (taken (up_to m ms) t)) (head_into true into offset (n ∷ m ∷ path) v)) (same-children n t v i.0 h)
      (copy-has into n t (head_taken offset (m ∷ path) (taken (up_to m (children_of v.forest n)) t)) v (λ inner x. head_into true inner offset (m ∷ path) (children_into true inner (up_to m (children_of v.forest n)) x)) l o
      (old-head offset (m ∷ path) (taken (up_to m (children_of v.forest n)) t) (old-taken root low (up_to m (children_of v.forest n)) t o)) h
      (λ inner x li hx. head-has (m ∷ path) inner offset (taken (up_to m (children_of v.forest n)) t) (children_into true inner (up_to m (children_of v.forest n)) x) li (old-taken root low (up_to m (children_of v.forest n)) t o)
      (some-has n t v i.0 h (up_to m (children_of v.forest n)) (λ q. hits-up_to q m (children_of v.forest n)) inner t x li o hx)
      (subst (λ ms. StayIn (m ∷ path) (taken (up_to m ms) t)) (sym (same-children n t v i.0 h)) i.1)))
