-- The contained nodes whose parent is not contained, in the tree of a node: by the trees of its children; and all or nothing of a tree in
-- which neither end of the range stands. DOM Standard, "Interface Range".
use Rattle.std.proofs.Common.{◌≡◌, ℕ, ◌<◌, Bool, true, false, not, ◌&&◌, if◌then◌else◌, List, [], ◌∷◌, ◌++◌, filter, flat_map, refl, ap, sym, ◌∙◌, subst, arith, append-nil, Less, Greater}
use Rattle.std.proofs.Math.Bool.{and-false}
use Rattle.std.proofs.lemmas.List.Elements.{filter-append}
use Rattle.dom_model.specs.Definitions.{hits, is_same, Forest, empty, node, occurs, numbers, tops, tree_at, parent_of, children_of, ancestors, root_of, inclusive_descendants, children_in, Content, Range, World, IsRange, IsSound, order_of, if_given, unit_count, node_length, is_less, is_before, contained_in, point}
use Rattle.dom_model.proofs.PlainLists.Numbers.{same_or, same, apart}
use Rattle.dom_model.proofs.Forests.{Changes.seen, Changes.nothing, Changes.just, Totals.IsOnce, Climbing.hits-ancestors, Entries.occurs-HasNode, Listed.hits-other, Paths.parent-path, Paths.root-path, Standing.Tree, Standing.tree_of, Below.tree-top, Below.tree-beyond, Below.tree-kids, Below.kids_once, Below.no_top, Below.occurs-tree, TreeOrder.Flattened.hits-numbers, WaysMeeting.above-root, WaysMeeting.above-itself}
use Rattle.dom_model.proofs.RangesAndContents.{TreesAside.Aside, TreesAside.aside, ListsByParts.filter-nothing, RangesSet.same-itself}

module _ (f : Forest Content) (test : ℕ → Bool) where
  abbrev pub sifted : ℕ → List ℕ
  sifted n = filter test (inclusive_descendants f n)

  -- what passes among trees, by their tops
  pub filter-tops : (g : Forest Content) → IsOnce g → ((c : ℕ) → 0 < occurs c g → tree_at c g ≡ tree_at c f) → filter test (numbers g) ≡ flat_map sifted (tops g)
  filter-tops empty o h = refl
  filter-tops (node x kids rest) o h =
      let here : inclusive_descendants f x.number ≡ x.number ∷ (numbers kids ++ []) =
      ap (λ (t : Forest Content). numbers t) (sym (h x.number (top_there x.number)) ∙ tree-top x.number x kids rest o refl) in
      let others = filter-tops rest (λ m. let i = o m in omega arith) (λ c k. sym (tree-beyond c x kids rest o k) ∙ h c (omega arith)) in
      filter-append test (x.number ∷ numbers kids) (numbers rest)
      ∙ ap (λ ns. filter test (x.number ∷ ns) ++ filter test (numbers rest)) (sym (append-nil (numbers kids)))
      ∙ ap (λ ns. filter test ns ++ filter test (numbers rest)) (sym here)
      ∙ ap (λ ns. sifted x.number ++ ns) others
    where
      top_there : (n : ℕ) → 0 < occurs x.number (node x kids rest)
      top_there n = elim (same_or x.number x.number) [ same e t ↦ rw t (omega arith) | apart ne t ↦ absurd (ne refl) ]

  -- what passes in a tree: the node itself, and what passes in the trees of its children
  pub sifted-children : (o : IsOnce f) → (n : ℕ) → 0 < occurs n f → sifted n ≡ (if test n then n ∷ [] else []) ++ flat_map sifted (children_of f n)
  sifted-children o n h =
      let t = tree_of f o n h in
      let below = filter-tops t.kids (kids_once f o n t) (λ c k. tree-kids f o n t c k) in
      let listed : children_of f n ≡ tops t.kids = ap children_in t.entry in
      ap (λ (g : Forest Content). filter test (numbers g)) t.tree
      ∙ ap (λ ns. filter test (t.top.number ∷ ns)) (append-nil (numbers t.kids))
      ∙ ap (λ m. filter test (m ∷ numbers t.kids)) t.is_top
      ∙ filter-append test (n ∷ []) (numbers t.kids)
      ∙ ap (λ ns. (if test n then n ∷ [] else []) ++ ns) below
      ∙ ap (λ ns. (if test n then n ∷ [] else []) ++ flat_map sifted ns) (sym listed)

module _ (w : World) (range : Range) where
  -- contained, and its parent is not
  abbrev pub is_top : ℕ → Bool
  is_top n = contained_in w range n && not (if_given (contained_in w range) (parent_of w.forest n))

  abbrev pub tops_in : ℕ → List ℕ
  tops_in n = sifted w.forest is_top n

  abbrev pub itself_if : Bool → ℕ → List ℕ
  itself_if v n = if v then n ∷ [] else []

pub is_less-either : (v : Bool) → is_less (if v then Less else Greater) ≡ v
is_less-either true = refl
is_less-either false = refl

module _ (w : World) (sound : IsSound w) (range : Range) (is : IsRange w.forest range) where
  hs : 0 < occurs range.start.node w.forest
  hs = occurs-HasNode w.forest range.start.node is.starts.there

  he : 0 < occurs range.end.node w.forest
  he = occurs-HasNode w.forest range.end.node is.ends.there

  -- a node above neither end, and how it stands to both
  pub record IsOff (x : ℕ) : Type 0 where
    pub there : 0 < occurs x w.forest
    pub rooted : root_of w.forest x ≡ root_of w.forest range.start.node
    pub start : Aside w.forest sound.forest.once range.start.node range.start.offset x
    pub end : Aside w.forest sound.forest.once range.end.node range.end.offset x

  pub off : (x : ℕ) → 0 < occurs x w.forest → root_of w.forest x ≡ root_of w.forest range.start.node → hits x (ancestors range.start.node w.forest) ≡ 0 → hits x (ancestors range.end.node w.forest) ≡ 0 → IsOff x
  off x h e i j =
      record {
        there = h;
        rooted = e;
        start = aside w.forest sound.forest.once range.start.node range.start.offset x hs h (sym e) i;
        end = aside w.forest sound.forest.once range.end.node range.end.offset x he h (sym is.one_root ∙ sym e) j;
      }

  module _ (x : ℕ) (k : IsOff x) where
    -- all in its tree is contained, or nothing
    contained-alike : (m : ℕ) → 0 < occurs m w.forest → 0 < hits x (ancestors m w.forest) → contained_in w range m ≡ (is_same (root_of w.forest x) (root_of w.forest range.start.node) && (k.start.before && k.end.after))
    contained-alike m h i =
        let r = above-root w.forest sound.forest.once x m h k.there i in
        ap (λ o. is_same o (root_of w.forest range.start.node) && (is_before w.forest range.start (point m 0) && is_before w.forest (point m (node_length unit_count w.forest m)) range.end)) (sym r)
        ∙ ap (λ v. is_same (root_of w.forest x) (root_of w.forest range.start.node) && (v && is_before w.forest (point m (node_length unit_count w.forest m)) range.end)) (ap is_less (k.start.starts m 0 h i) ∙ is_less-either k.start.before)
        ∙ ap (λ v. is_same (root_of w.forest x) (root_of w.forest range.start.node) && (k.start.before && v)) (ap is_less (k.end.ends m (node_length unit_count w.forest m) h i) ∙ is_less-either k.end.after)

    pub contained-inside : (m : ℕ) → 0 < occurs m w.forest → 0 < hits x (ancestors m w.forest) → contained_in w range m ≡ contained_in w range x
    contained-inside m h i = contained-alike m h i ∙ sym (contained-alike x k.there (above-itself w.forest sound.forest.once x k.there))

    -- which is told by how the node stands to both ends
    pub contained-off : contained_in w range x ≡ (k.start.before && k.end.after)
    contained-off = contained-alike x k.there (above-itself w.forest sound.forest.once x k.there) ∙ ap (λ v. v && (k.start.before && k.end.after)) (ap (λ o. is_same o (root_of w.forest range.start.node)) k.rooted ∙ same-itself (root_of w.forest range.start.node))

    pub before-by : (v : Bool) → order_of w.forest range.start (point x 0) ≡ (if v then Less else Greater) → k.start.before ≡ v
    before-by v e =
        sym (ap is_less (k.start.starts x 0 k.there (above-itself w.forest sound.forest.once x k.there)) ∙ is_less-either k.start.before) ∙ ap is_less e ∙ is_less-either v

    pub after-by : (v : Bool) (i : ℕ) → order_of w.forest (point x i) range.end ≡ (if v then Less else Greater) → k.end.after ≡ v
    after-by v i e =
        sym (ap is_less (k.end.ends x i k.there (above-itself w.forest sound.forest.once x k.there)) ∙ is_less-either k.end.after) ∙ ap is_less e ∙ is_less-either v

    inside : (m : ℕ) → 0 < hits m (inclusive_descendants w.forest x) → (0 < occurs m w.forest) × (0 < hits x (ancestors m w.forest))
    inside m h =
        let a = hits-numbers m (tree_at x w.forest) in
        let b = occurs-tree m x w.forest in
        let c = hits-ancestors x m w.forest sound.forest.once in
        (omega arith, omega arith)

    -- what is below it has a parent in its tree
    below-not_top : contained_in w range x ≡ true → (m : ℕ) → (m ≡ x → ⊥) → 0 < occurs m w.forest → 0 < hits x (ancestors m w.forest) → is_top w range m ≡ false
    below-not_top c m ne h i =
        elim (seen (parent_of w.forest m)) [
          | nothing e ↦ absurd (let a = ap (hits x) (root-path w.forest sound.forest.once m h e) in let b = hits-other x m [] ne in omega arith)
          | just q e ↦
              let p = parent-path w.forest sound.forest.once m q h e in
              let a = ap (hits x) p.1 in
              let b = hits-other x m (ancestors q w.forest) ne in
              let d : contained_in w range q ≡ true = contained-inside q p.0 (omega arith) ∙ c in
              ap (λ o. contained_in w range m && not (if_given (contained_in w range) o)) e
              ∙ ap (λ v. contained_in w range m && not v) d
              ∙ and-false (contained_in w range m)
        ]

    kids-not_top : contained_in w range x ≡ true → (t : Tree w.forest x) → filter (is_top w range) (numbers t.kids) ≡ []
    kids-not_top c t =
        filter-nothing (is_top w range) (numbers t.kids) (λ m l.
        let a = hits-numbers m t.kids in
        let b : 0 < occurs m (tree_at x w.forest) = rw t.tree (omega arith) in
        let d = occurs-tree m x w.forest in
        let e = hits-ancestors x m w.forest sound.forest.once in
        let z = no_top w.forest sound.forest.once x t in
        below-not_top c m (λ q. let y = subst (λ n. 0 < hits n (numbers t.kids)) q l in let v = hits-numbers x t.kids in omega arith) (omega arith) (omega arith))

    -- so the tree gives its node or nothing
    pub tops-uniform : if_given (contained_in w range) (parent_of w.forest x) ≡ false → tops_in w range x ≡ itself_if w range (contained_in w range x) x
    tops-uniform free = go (contained_in w range x) refl
      where
        go : (v : Bool) → contained_in w range x ≡ v → tops_in w range x ≡ itself_if w range v x
        go true c =
            let t = tree_of w.forest sound.forest.once x k.there in
            ap (λ (g : Forest Content). filter (is_top w range) (numbers g)) t.tree
            ∙ ap (λ ns. filter (is_top w range) (t.top.number ∷ ns)) (append-nil (numbers t.kids))
            ∙ ap (λ m. filter (is_top w range) (m ∷ numbers t.kids)) t.is_top
            ∙ (rw (c, free) (ap (λ ns. x ∷ ns) (kids-not_top c t)))
        go false c = filter-nothing (is_top w range) (inclusive_descendants w.forest x) (λ m l.
            let i = inside m l in
            ap (λ v. v && not (if_given (contained_in w range) (parent_of w.forest m))) (contained-inside m i.0 i.1 ∙ c))
