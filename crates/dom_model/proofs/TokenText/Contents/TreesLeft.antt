-- Extracting the contents of a live range, and deleting them, leave one tree of its root. DOM Standard, "Interface Range".
use Rattle.std.proofs.Common.{◌≡◌, ℕ, ◌-◌, ◌<◌, ◌≤◌, true, false, not, ◌&&◌, if◌then◌else◌, List, [], ◌∷◌, ◌++◌, length, reverse, Option, Some, None, refl, ap, sym, ◌∙◌, subst, arith, append_assoc, inl, inr}
use Rattle.std.proofs.lemmas.Bool.{cases_lt, false≢true, cases_Bool, false_from_ne_true}
use Rattle.dom_model.specs.Definitions.{hits, among, up_to, EachNode, is_character_data, Forest, empty, node, occurs, numbers, tree_at, parent_of, children_of, ancestors, root_of, KindsFit, Content, Range, World, IsRange, IsSound, if_given, kind_passes, node_document, unit_count, data_of, replace_data, remove_each, is_in_one_data, cut_from, cut_up_to, common_of, path_below, contained_in, contained_tops, contained_children, new_fragment, children_into, tail_into, head_into, parts_into, IsWay, tail_nodes, head_nodes}
use Rattle.dom_model.specs.declared.Kind.{Kind}
use Rattle.dom_model.proofs.PlainLists.{Numbers.same_or, Numbers.same, Numbers.apart, Members.hits-last_of}
use Rattle.dom_model.proofs.Forests.{Totals.IsOnce, Totals.tree_at-absent, Below.occurs-tree, Climbing.hits-append, Climbing.hits-first, Climbing.hits-among, Climbing.hits-ancestors, EachNode.EachNode-beside, Entries.occurs-HasNode, Indices.child-listed, Indices.child-parent, Lots.root-listed, Tops.hits-tops, WaysMeeting.above-root, WaysMeeting.above-itself, WaysMeeting.above-twice}
use Rattle.dom_model.proofs.Soundness.SoundNormalizing.{filter-passed}
use Rattle.dom_model.proofs.Traversal.IteratorsStay.{tree_at-inside}
use Rattle.dom_model.proofs.RangesAndContents.{ContainedAside.end-not_contained, DrawnPaths.hits-filter, PathsToEnds.below_kinds, PathsToEnds.path_without_top, WaysBelow.IsFork, WaysBelow.fork, WaysBelow.way-above, TopsOfTrees.is_top, TreesOfRoots.taken, TreesOfRoots.taken-append, TreesOfRoots.occurs-taken, TreesOfRoots.tree-taken, TreesOfRoots.entry-taken, OldTrees.data_in, OldTrees.cut_data, OldTrees.HasTree, OldTrees.child-not_root, OldTrees.remove_each-has, OldTrees.fragment-has, OldTrees.replace-has, OldTrees.IsInner, OldTrees.IsOld, OldTrees.old-taken, TreesDrawn.has_data, TreesDrawn.tail_taken, TreesDrawn.head_taken, TreesDrawn.AreIn, TreesDrawn.StayIn, TreesDrawn.same-kind, TreesDrawn.same-data, TreesDrawn.same-children, TreesDrawn.old-tail, TreesDrawn.children-has, TreesDrawn.tail-has, TreesDrawn.head-has}
use Rattle.dom_model.proofs.TokenText.{EditsMade.EditsOfDrawnContents.same_ancestors, EditsMade.EditsOfDrawnContents.common-same, EditsMade.EditsOfDrawnContents.contained_children-same, Contents.PathTokens.start_path, Contents.PathTokens.end_path, Contents.TopsByParts.data-childless, Contents.TopsByParts.tops-by_parts, Contents.NodesTaken.cut_tail, Contents.NodesTaken.cut_head, Contents.NodesTaken.tail-cut, Contents.NodesTaken.head-cut, Contents.NodesTaken.there-taken, Contents.NodesTaken.no_data-taken, Contents.NodesTaken.tail-as, Contents.NodesTaken.tail-held, Contents.NodesTaken.way-through, Contents.NodesTaken.Stays, Contents.NodesTaken.head-as, Contents.PlaceOfContents.last-on}

-- In the tree of a root no node but the root is a fragment.

below-inner : (root low : ℕ) (k : Kind) (f : Forest Content) → KindsFit (Some k) f → EachNode (IsInner root low) f
below-inner root low k empty h = tt
below-inner root low k (node y kids rest) h =
    (λ e. absurd (false≢true (sym (below_kinds k y.label.kind h.0).1 ∙ e)), below-inner root low y.label.kind kids h.1, below-inner root low k rest h.2)

tree-inner : (root low : ℕ) (q : Option Kind) (f : Forest Content) → KindsFit q f → EachNode (IsInner root low) (tree_at root f)
tree-inner root low q empty h = tt
tree-inner root low q (node x kids rest) h =
    elim (same_or x.number root) [
      | same d t ↦ rw t (λ e. d, below-inner root low x.label.kind kids h.1, tree-inner root low q rest h.2)
      | apart ne t ↦ rw t (EachNode-beside (IsInner root low) (tree_at root kids) (tree_at root rest) (tree-inner root low (Some x.label.kind) kids h.1) (tree-inner root low q rest h.2))
    ]

are-in : (path : List ℕ) (t : Forest Content) → ((x : ℕ) → 0 < hits x path → 0 < occurs x t) → AreIn path t
are-in [] t h = tt
are-in (n ∷ path) t h = (h n (hits-first n path), are-in path t (λ x k. h x (omega arith)))

module _ (w : World) (sound : IsSound w) (range : Range) (is : IsRange w.forest range) (root : ℕ) (rooted : root_of w.forest range.start.node ≡ Some root) where
  hs : 0 < occurs range.start.node w.forest
  hs = occurs-HasNode w.forest range.start.node is.starts.there

  he : 0 < occurs range.end.node w.forest
  he = occurs-HasNode w.forest range.end.node is.ends.there

  -- the tree of the root, as it is first
  abbrev pub first_tree : Forest Content
  first_tree = tree_at root w.forest

  pub first-has : HasTree root w.made (tree_at root w.forest) w
  first-has = record { once = sound.forest.once; small = sound.forest.small; top = root-listed range.start.node root w.forest rooted; tree = refl; begun = omega arith }

  pub first-old : IsOld root w.made (tree_at root w.forest)
  first-old =
      record {
        below = λ m l. (let a = sound.forest.small m l in let b = occurs-tree m root w.forest in omega arith);
        inner = tree-inner root w.made None w.forest sound.forest.kinds;
      }

  inside : (x : ℕ) → root_of w.forest x ≡ Some root → 0 < occurs x (tree_at root w.forest)
  inside x e = let a = hits-last_of (ancestors x w.forest) root e in let b = hits-ancestors root x w.forest sound.forest.once in omega arith

  pub start_in : 0 < occurs range.start.node (tree_at root w.forest)
  start_in = inside range.start.node rooted

  end_rooted : root_of w.forest range.end.node ≡ Some root
  end_rooted = sym is.one_root ∙ rooted

  forked : IsFork w.forest sound.forest.once range.start.node range.end.node (common_of w range)
  forked = fork w.forest sound.forest.once range.start.node range.end.node hs he is.one_root

  above_end : 0 < hits (common_of w range) (ancestors range.end.node w.forest)
  above_end = way-above w.forest sound.forest.once (common_of w range) (end_path w range) range.end.node forked.there he forked.second

  -- what is on a way down from the common ancestor is above the node at its end
  on-way : (m : ℕ) → 0 < occurs m w.forest → (path : List ℕ) → IsWay w.forest (common_of w range) path m → (x : ℕ) → 0 < hits x path → (0 < hits x (ancestors m w.forest)) × (0 < occurs x w.forest)
  on-way m hm [] way x k = absurd (omega arith)
  on-way m hm (n ∷ path) way x k = let i = way-through root w.made (tree_at root w.forest) w sound first-has m hm path n way.0 way.2 x k in (i.1, i.2)

  way-in : (m : ℕ) → 0 < occurs m w.forest → root_of w.forest m ≡ Some root → (path : List ℕ) → IsWay w.forest (common_of w range) path m → (x : ℕ) → 0 < hits x path → 0 < occurs x (tree_at root w.forest)
  way-in m hm e path way x k = let i = on-way m hm path way x k in inside x (above-root w.forest sound.forest.once x m hm i.1 i.0 ∙ e)

  -- no tree that goes has a node above the end inside
  clear : (c : ℕ) → 0 < hits c (contained_tops w range) → (x : ℕ) → 0 < hits x (ancestors range.end.node w.forest) → occurs x (tree_at c (tree_at root w.forest)) ≡ 0
  clear c k x l =
      let none : 0 < occurs x (tree_at c (tree_at root w.forest)) → ⊥ = λ lt.
      (let p = (filter-passed (is_top w range) (numbers w.forest) c k).0 in
      let e = ap (λ (g : Forest Content). occurs x g) (tree_at-inside c root w.forest sound.forest.once (held c lt)) in
      let a = hits-ancestors c x w.forest sound.forest.once in
      let up = above-twice w.forest sound.forest.once c x range.end.node he l (omega arith) in
      let free = end-not_contained w.forest sound.forest.once unit_count sound.forest.kinds range c he is.ends.within up in
      false≢true (sym (ap (λ v. v && not (if_given (contained_in w range) (parent_of w.forest c))) free) ∙ p))
      in
      omega arith
    where
      held : (c : ℕ) → 0 < occurs x (tree_at c (tree_at root w.forest)) → 0 < occurs c (tree_at root w.forest)
      held c lt =
          let none : occurs c (tree_at root w.forest) ≡ 0 → ⊥ = λ z.
          (let y = ap (λ (g : Forest Content). occurs x g) (tree_at-absent c (tree_at root w.forest) z) in omega arith)
          in
          omega arith

  -- the nodes beside the path to the start, and the contained children
  abbrev ahead : List ℕ
  ahead = tail_nodes w range.start.offset (start_path w range) ++ contained_children w range

  tops-are : contained_tops w range ≡ ahead ++ head_nodes w range.end.offset (end_path w range)
  tops-are = tops-by_parts w sound range is ∙ sym (append_assoc (tail_nodes w range.start.offset (start_path w range)) (contained_children w range) (head_nodes w range.end.offset (end_path w range)))

  ahead-tops : (c : ℕ) → 0 < hits c ahead → 0 < hits c (contained_tops w range)
  ahead-tops c k = let a = ap (hits c) tops-are in let b = hits-append c ahead (head_nodes w range.end.offset (end_path w range)) in omega arith

  -- none of them is a child of a node on the path to the end
  ahead-apart : (c x : ℕ) → 0 < hits c ahead → 0 < hits x (end_path w range) → hits c (children_of w.forest x) ≡ 0
  ahead-apart c x k l =
      let none : 0 < hits c (children_of w.forest x) → ⊥ = λ lt.
      (let p = child-parent w.forest sound.forest.once c x lt in
      elim (cases_lt 0 (hits c (tail_nodes w range.start.offset (start_path w range)))) [
        | inl some ↦ beside_start p some
        | inr none ↦ let a = hits-append c (tail_nodes w range.start.offset (start_path w range)) (contained_children w range) in in_middle p (omega arith)
      ])
      in
      omega arith
    where
      beside_start : parent_of w.forest c ≡ Some x → 0 < hits c (tail_nodes w range.start.offset (start_path w range)) → ⊥
      beside_start p some =
          let i = tail-held root w.made (tree_at root w.forest) w sound first-has range.start.offset (start_path w range) c some in
          let d : x ≡ i.0 = cc (child-parent w.forest sound.forest.once c i.0 i.2) in
          let up = (on-way range.end.node he (end_path w range) forked.second x l).0 in
          false≢true (sym (forked.off i.0 i.1) ∙ hits-among i.0 (ancestors range.end.node w.forest) (subst (λ y. 0 < hits y (ancestors range.end.node w.forest)) d up))

      in_middle : parent_of w.forest c ≡ Some x → 0 < hits c (contained_children w range) → ⊥
      in_middle p some =
          let a = hits-filter c (contained_in w range) (children_of w.forest (common_of w range)) in
          let d : x ≡ common_of w range = cc (child-parent w.forest sound.forest.once c (common_of w range) (omega arith)) in
          omega (arith, path_without_top w.forest (common_of w range) range.end.node, subst (λ v. 0 < hits v (end_path w range)) d l)

  -- nor is the start node on that path
  start-apart : (x : ℕ) → 0 < hits x (end_path w range) → x ≡ range.start.node → ⊥
  start-apart x l d = go (start_path w range) forked.first forked.off
    where
      go : (path : List ℕ) → IsWay w.forest (common_of w range) path range.start.node → ((y : ℕ) → 0 < hits y path → among y (ancestors range.end.node w.forest) ≡ false) → ⊥
      go [] way off = omega (arith, path_without_top w.forest (common_of w range) range.end.node, subst (λ v. 0 < hits v (end_path w range)) (d ∙ sym way) l)
      go (n ∷ path) way off =
          let up = subst (λ v. 0 < hits v (ancestors range.end.node w.forest)) d (on-way range.end.node he (end_path w range) forked.second x l).0 in
          false≢true (sym (off range.start.node (last-on w.forest n path range.start.node way.2)) ∙ hits-among range.start.node (ancestors range.end.node w.forest) up)

  module _ (two : is_in_one_data w range ≡ false) where
    -- An end node above the other has no data.

    one-data : range.start.node ≡ range.end.node → kind_passes is_character_data w.forest range.start.node ≡ true → ⊥
    one-data d k = elim (same_or range.start.node range.end.node) [ same _ t ↦ (let j = rw (t, k) at two in false≢true (sym j)) | apart ne t ↦ ne d ]

    childless-way : (n m : ℕ) → common_of w range ≡ n → kind_passes is_character_data w.forest n ≡ true → (path : List ℕ) → IsWay w.forest (common_of w range) path m → common_of w range ≡ m
    childless-way n m d k [] way = way
    childless-way n m d k (c ∷ path) way =
        absurd (data-childless w sound n c k (subst (λ q. 0 < hits c (children_of w.forest q)) d (child-listed w.forest sound.forest.once c (common_of w range) way.0 way.1)))

    bare : (n : ℕ) → (kind_passes is_character_data w.forest n ≡ true → ⊥) → 0 < occurs n (tree_at root w.forest) → has_data (tree_at root w.forest) n ≡ false
    bare n no_data k = sym (same-kind root w.made n (tree_at root w.forest) w k first-has) ∙ false_from_ne_true (kind_passes is_character_data w.forest n) no_data

    start-bare : common_of w range ≡ range.start.node → has_data (tree_at root w.forest) range.start.node ≡ false
    start-bare d = bare range.start.node (λ k. one-data (sym d ∙ childless-way range.start.node range.end.node d k (end_path w range) forked.second) k) start_in

    end-bare : common_of w range ≡ range.end.node → has_data (tree_at root w.forest) range.end.node ≡ false
    end-bare d =
        bare range.end.node
        (λ k.
        let e = sym (childless-way range.end.node range.start.node d k (start_path w range) forked.first) ∙ d in
        one-data e (subst (λ n. kind_passes is_character_data w.forest n ≡ true) (sym e) k))
        (inside range.end.node end_rooted)

    -- The tree once the units of the start node are gone, and then what is ahead of the path to the end.

    abbrev cut_first : Forest Content
    cut_first = cut_tail range.start.node range.start.offset (tree_at root w.forest)

    abbrev half_taken : Forest Content
    half_taken = taken ahead cut_first

    -- the tree that is left
    abbrev pub left_tree : Forest Content
    left_tree = cut_head range.end.node range.end.offset (taken (contained_tops w range) (cut_tail range.start.node range.start.offset (tree_at root w.forest)))

    first-once : IsOnce (tree_at root w.forest)
    first-once m = let a = sound.forest.once m in let b = occurs-tree m root w.forest in omega arith

    cut-once : IsOnce cut_first
    cut-once m = let c = tail-cut range.start.node range.start.offset (tree_at root w.forest) in let a = c.numbers m in let b = first-once m in omega arith

    tail-any : (path : List ℕ) → IsWay w.forest (common_of w range) path range.start.node → tail_taken range.start.offset path (tree_at root w.forest) ≡ taken (tail_nodes w range.start.offset path) cut_first
    tail-any [] way = sym (ap (λ b. if b then cut_data range.start.node range.start.offset (length (data_in (tree_at root w.forest) range.start.node) - range.start.offset) (tree_at root w.forest) else tree_at root w.forest) (start-bare way))
    tail-any (n ∷ path) way =
        tail-as root w.made (tree_at root w.forest) w sound first-has range.start.offset range.start.node path n way.2
        (are-in (n ∷ path) (tree_at root w.forest) (way-in range.start.node hs rooted (n ∷ path) way))

    half-is : taken (contained_children w range) (tail_taken range.start.offset (start_path w range) (tree_at root w.forest)) ≡ half_taken
    half-is =
        ap (taken (contained_children w range)) (tail-any (start_path w range) forked.first)
        ∙ sym (taken-append (tail_nodes w range.start.offset (start_path w range)) (contained_children w range) cut_first)

    stays : (x : ℕ) → 0 < hits x (end_path w range) → Stays root w.made (tree_at root w.forest) w sound first-has half_taken x
    stays x l =
        let c = tail-cut range.start.node range.start.offset (tree_at root w.forest) in
        let up = on-way range.end.node he (end_path w range) forked.second x l in
        let old = way-in range.end.node he end_rooted (end_path w range) forked.second x l in
        let a = c.numbers x in
        let i = entry-taken ahead x cut_first cut-once (omega arith) (λ d k. (
          c.trees x d ∙ clear d (ahead-tops d k) x up.0,
          ap (hits d) (c.lists x ∙ sym (same-children root w.made x (tree_at root w.forest) w old first-has)) ∙ ahead-apart d x k l,
        ))
        in
        record { there = i.0; same = i.1 ∙ c.entries x (start-apart x l); old = old }

    half-less : (m c : ℕ) → occurs m (tree_at c half_taken) ≤ occurs m (tree_at c (tree_at root w.forest))
    half-less m c = let k = tail-cut range.start.node range.start.offset (tree_at root w.forest) in let a = k.trees m c in let b = tree-taken m c ahead cut_first in omega arith

    head-any : (path : List ℕ) → IsWay w.forest (common_of w range) path range.end.node → ((x : ℕ) → 0 < hits x path → 0 < hits x (end_path w range)) → ((c : ℕ) → 0 < hits c (head_nodes w range.end.offset path) → 0 < hits c (contained_tops w range))
        → StayIn path half_taken × (head_taken range.end.offset path half_taken ≡ cut_head range.end.node range.end.offset (taken (head_nodes w range.end.offset path) half_taken))
    head-any [] way on_path on_top =
        let c = tail-cut range.start.node range.start.offset (tree_at root w.forest) in
        let no_units = no_data-taken ahead range.end.node cut_first cut-once (c.bare range.end.node ∙ end-bare way) in
        (tt, sym (ap (λ b. if b then cut_data range.end.node 0 range.end.offset half_taken else half_taken) no_units))
    head-any (n ∷ path) way on_path on_top =
        head-as root w.made (tree_at root w.forest) w sound first-has range.end.offset range.end.node he path n way.0 way.2 half_taken
        (λ m. let a = occurs-taken m ahead cut_first in let b = cut-once m in omega arith)
        (λ x l. stays x (on_path x l)) half-less (λ c k x l. clear c (on_top c k) x l)

    head-end : StayIn (end_path w range) half_taken × (head_taken range.end.offset (end_path w range) half_taken ≡ left_tree)
    head-end =
        let i = head-any (end_path w range) forked.second (λ x l. l) (λ c k. let a = ap (hits c) tops-are in let b = hits-append c ahead (head_nodes w range.end.offset (end_path w range)) in omega arith) in
        (i.0, i.1 ∙ ap (cut_head range.end.node range.end.offset) (sym (ap (λ ns. taken ns cut_first) tops-are ∙ taken-append ahead (head_nodes w range.end.offset (end_path w range)) cut_first)))

    -- Extracting leaves that tree.

    abbrev grown : World
    grown = new_fragment (node_document w range.start.node) w

    grown-has : HasTree root w.made (tree_at root w.forest) grown
    grown-has = fragment-has root w.made (node_document w range.start.node) (tree_at root w.forest) w first-has

    parts-are : parts_into true w.made range grown ≡ head_into true w.made range.end.offset (end_path w range) (children_into true w.made (contained_children w range) (tail_into true w.made range.start.offset (start_path w range) grown))
    parts-are =
        let first : path_below grown.forest (common_of grown range) range.start.node ≡ start_path w range =
        ap (λ ns. path_of (common_of grown range) ns) (same_ancestors w sound range is range.start.node hs) ∙ ap (λ a. path_of a (ancestors range.start.node w.forest)) (common-same w sound range is) in
        let last : path_below grown.forest (common_of grown range) range.end.node ≡ end_path w range =
        ap (λ ns. path_of (common_of grown range) ns) (same_ancestors w sound range is range.end.node he) ∙ ap (λ a. path_of a (ancestors range.end.node w.forest)) (common-same w sound range is) in
        rw (last, contained_children-same w sound range is, first) refl
      where
        path_of : ℕ → List ℕ → List ℕ
        path_of a ns = reverse (up_to a ns)

    pub extracted-has : HasTree root w.made left_tree (parts_into true w.made range grown)
    extracted-has =
        let tail = tail-has root w.made (start_path w range) w.made range.start.offset (tree_at root w.forest) grown (omega arith) first-old grown-has (are-in (start_path w range) (tree_at root w.forest) (way-in range.start.node hs rooted (start_path w range) forked.first)) in
        let old = old-tail root w.made range.start.offset (start_path w range) (tree_at root w.forest) first-old in
        let middle = children-has root w.made (contained_children w range) w.made (tail_taken range.start.offset (start_path w range) (tree_at root w.forest)) (tail_into true w.made range.start.offset (start_path w range) grown)
        (λ m k. child-not_root root w.made (tree_at root w.forest) w first-has (common_of w range) m (let a = hits-filter m (contained_in w range) (children_of w.forest (common_of w range)) in omega arith)) (omega arith) old tail in
        let half_old = subst (IsOld root w.made) half-is (old-taken root w.made (contained_children w range) (tail_taken range.start.offset (start_path w range) (tree_at root w.forest)) old) in
        let half = subst (λ (g : Forest Content). HasTree root w.made g (children_into true w.made (contained_children w range) (tail_into true w.made range.start.offset (start_path w range) grown))) half-is middle in
        let all = head-has root w.made (end_path w range) w.made range.end.offset half_taken (children_into true w.made (contained_children w range) (tail_into true w.made range.start.offset (start_path w range) grown)) (omega arith) half_old half head-end.0 in
        subst (λ (u : World). HasTree root w.made left_tree u) (sym parts-are)
        (subst (λ (g : Forest Content). HasTree root w.made g (head_into true w.made range.end.offset (end_path w range) (children_into true w.made (contained_children w range) (tail_into true w.made range.start.offset (start_path w range) grown)))) head-end.1 all)

    -- Deleting leaves it too.

    cut-units : (n offset : ℕ) (tree : Forest Content) (v : World) → 0 < occurs n tree → HasTree root w.made tree v → HasTree root w.made (cut_tail n offset tree) (cut_from n offset v)
    cut-units n offset tree v k h =
        rw (same-kind root w.made n tree v k h)
        (elim (cases_Bool (has_data tree n)) [
          | inl e ↦ rw e (subst (λ xs. HasTree root w.made (cut_data n offset (length xs - offset) tree) (replace_data n offset (length (data_of v n) - offset) [] v)) (same-data root w.made n tree v k h)
              (replace-has root w.made n offset (length (data_of v n) - offset) tree v k h))
          | inr e ↦ rw e h
        ])

    cut-units_up_to : (n offset : ℕ) (tree : Forest Content) (v : World) → 0 < occurs n tree → HasTree root w.made tree v → HasTree root w.made (cut_head n offset tree) (cut_up_to n offset v)
    cut-units_up_to n offset tree v k h =
        rw (same-kind root w.made n tree v k h)
        (elim (cases_Bool (has_data tree n)) [ inl e ↦ rw e (replace-has root w.made n 0 offset tree v k h) | inr e ↦ rw e h ])

    -- what is above the end stays
    stay-above : (x : ℕ) → 0 < hits x (ancestors range.end.node w.forest) → 0 < occurs x w.forest → 0 < occurs x (taken (contained_tops w range) cut_first)
    stay-above x l hx =
        let c = tail-cut range.start.node range.start.offset (tree_at root w.forest) in
        let a = c.numbers x in
        let i = inside x (above-root w.forest sound.forest.once x range.end.node he hx l ∙ end_rooted) in
        there-taken (contained_tops w range) x cut_first (λ d k. c.trees x d ∙ clear d k x l) (omega arith)

    -- the root does
    top-apart : (m : ℕ) → 0 < hits m (contained_tops w range) → m ≡ root → ⊥
    top-apart m k d =
        let up = hits-last_of (ancestors range.end.node w.forest) root end_rooted in
        let z = clear m k root up in
        let e = subst (λ q. occurs root (tree_at q (tree_at root w.forest)) ≡ 0) d z in
        let root_there : 0 < occurs root w.forest = omega (arith, hits-tops root w.forest, root-listed range.start.node root w.forest rooted) in
        let there : 0 < occurs root (tree_at root w.forest) = omega (arith, hits-ancestors root root w.forest sound.forest.once, above-itself w.forest sound.forest.once root root_there) in
        omega (arith, ap (λ (g : Forest Content). occurs root g) (tree_at-inside root root w.forest sound.forest.once there))

    pub deleted-has : HasTree root w.made left_tree (cut_up_to range.end.node range.end.offset (remove_each (contained_tops w range) (cut_from range.start.node range.start.offset w)))
    deleted-has =
        let first = cut-units range.start.node range.start.offset (tree_at root w.forest) w start_in first-has in
        let second = remove_each-has root w.made (contained_tops w range) cut_first (cut_from range.start.node range.start.offset w) top-apart first in
        cut-units_up_to range.end.node range.end.offset (taken (contained_tops w range) cut_first) (remove_each (contained_tops w range) (cut_from range.start.node range.start.offset w)) (stay-above range.end.node (above-itself w.forest sound.forest.once range.end.node he) he) second

    -- and the common ancestor is in it
    pub common-left : 0 < occurs (common_of w range) left_tree
    common-left =
        let c = head-cut range.end.node range.end.offset (taken (contained_tops w range) cut_first) in
        omega (arith, c.numbers (common_of w range), stay-above (common_of w range) above_end forked.there)
