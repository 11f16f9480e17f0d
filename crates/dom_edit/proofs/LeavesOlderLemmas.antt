-- What steps on newer nodes leave: the forest that was there, with newer trees beside it, and all that names its nodes.
use Rattle.std.proofs.Common.{◌≡◌, ℕ, ◌<◌, ◌≤◌, ◌==◌, Bool, true, false, not, ◌&&◌, if◌then◌else◌, List, [], ◌∷◌, Option, Some, None, IfSome, refl, ap, sym, ◌∙◌, subst, arith, ⊎_elim, All}
use Rattle.std.proofs.lemmas.{Bool.cases_lt, List.Elements.All-head, List.Elements.All-tail}
use Rattle.dom_model.specs.Definitions.{hits, among, parent_in, EachNode, Forest, HasNode, empty, occurs, one_at, beside, tree_at, cut, put, adopted, in_document, entry_in, parent_of, children_of, ancestors, inclusive_descendants, Content, Iterator, IsIterator, document_in, stepped_off, pre_removed, pre_removed_all}
use Rattle.dom_model.proofs.PlainLists.Numbers.{same_or, same, apart}
use Rattle.dom_model.proofs.Forests.{Below.occurs-tree, Climbing.hits-first, Climbing.hits-not_among, Climbing.hits-ancestors, EachNode.EachNode-cut, EachNode.EachNode-put, EachNode.EachNode-with_tree, Entries.occurs-HasNode, ForestsBeside.IsFrom, ForestsBeside.IsBelow, ForestsBeside.absent-from, ForestsBeside.entry-older, ForestsBeside.tree_at-older, ForestsBeside.tree_at-younger, ForestsBeside.cut-younger, ForestsBeside.put-younger, ForestsBeside.adopted-younger, Indices.child-parent, Indices.parent-there, Paths.parent-path, Totals.IsOnce, Totals.total-beside, TreeOrder.Flattened.hits-numbers}
use Rattle.dom_observe.specs.{ObservedNodes.referred_nodes, ObservedNodes.NamesNoneOf, Watchers.Watchers}
use Rattle.dom_edit.specs.{declared.world.World.World, Insertion.placed_in, Insertion.all_placed, OlderNodes.LeavesAll, OlderNodes.AreNewer, Whole.IsWhole}
use Rattle.dom_edit.proofs.PlacedWorldLemmas.{with_placed}

module _ (a : World) (h : IsWhole a) where
  abbrev f : Forest Content
  f = a.tree.forest

  abbrev low : ℕ
  low = a.tree.made

  below : IsBelow low f
  below = h.forest.small

  pub newer-two : (p n : ℕ) → low ≤ p → low ≤ n → AreNewer a (p ∷ n ∷ [])
  newer-two p n i j m k =
      elim (same_or p m) [
        | same d t ↦ subst (λ x. low ≤ x) d i
        | apart np t ↦
            let l = rw t at k in
            elim (same_or n m) [
              | same d _ ↦ subst (λ x. low ≤ x) d j
              | apart nn u ↦ absurd (let o = rw u at l in omega arith)
            ]
      ]

  pub newer-more : (p : ℕ) (ns : List ℕ) → low ≤ p → AreNewer a ns → AreNewer a (p ∷ ns)
  newer-more p ns i each m k =
      elim (same_or p m) [
        | same d t ↦ subst (λ x. low ≤ x) d i
        | apart np t ↦ each m (let l = rw t at k in omega arith)
      ]

  pub same-left : (v new : World) → new ≡ v → LeavesAll a v → LeavesAll a new
  same-left v new e l = subst (LeavesAll a) (sym e) l

  module _ (v : World) (l : LeavesAll a v) where
    -- a newer node is not named
    named-none : (n : ℕ) → low ≤ n → among n (referred_nodes v.observers) ≡ false
    named-none n k = go (among n (referred_nodes v.observers)) refl
      where
        go : (b : Bool) → among n (referred_nodes v.observers) ≡ b → among n (referred_nodes v.observers) ≡ false
        go false e = e
        go true e =
            let held : HasNode f n = h.observers.nodes n (ap (λ (o : Watchers). among n (referred_nodes o)) (sym l.observers) ∙ e) in
            let i = occurs-HasNode f n held in
            let z = below n k in
            absurd (omega arith)

    -- what stands above a newer node is newer
    newer-above : IsOnce v.tree.forest → (n m : ℕ) → low ≤ n → 0 < hits m (ancestors n v.tree.forest) → low ≤ m
    newer-above o n m k i =
        ⊎_elim
        (λ (lt : m < low).
        let s = hits-ancestors m n v.tree.forest o in
        let t = ap (λ (g : Forest Content). occurs n (tree_at m g)) l.forest in
        let u = ap (λ (g : Forest Content). occurs n g) (tree_at-older m f l.trees (absent-from low m l.trees l.numbers lt)) in
        let w = total-beside (one_at n) (tree_at m f) empty in
        let x = occurs-tree n m f in
        let z = below n k in
        absurd (omega arith))
        (λ (le : low ≤ m). le)
        (cases_lt m low)

    pub quiet-above : IsOnce v.tree.forest → (n : ℕ) → low ≤ n → NamesNoneOf (ancestors n v.tree.forest) v.observers
    quiet-above o n k m i = named-none m (newer-above o n m k i)

    -- a child of a newer node is newer
    pub child-newer : (n p : ℕ) → parent_of v.tree.forest n ≡ Some p → low ≤ p → low ≤ n
    child-newer n p e k =
        ⊎_elim
        (λ (lt : n < low).
        let same_entry = ap (λ (g : Forest Content). entry_in g n) l.forest ∙ entry-older n f l.trees (absent-from low n l.trees l.numbers lt) in
        let d : parent_of f n ≡ Some p = sym (ap parent_in same_entry) ∙ e in
        let i = (parent-path f h.forest.once n p (parent-there f n p d) d).0 in
        let z = below p k in
        absurd (omega arith))
        (λ (le : low ≤ n). le)
        (cases_lt n low)

    pub children-newer : IsOnce v.tree.forest → (n : ℕ) → low ≤ n → (ns : List ℕ) → ns ≡ children_of v.tree.forest n → AreNewer a ns
    children-newer o n k ns e = subst (AreNewer a) (sym e) (λ m i. child-newer m n (child-parent v.tree.forest o m n i) k)

    -- no iterator stands inside a newer node
    iterator-stays : (n : ℕ) → low ≤ n → (i : Iterator) → IsIterator f i → pre_removed v.tree.forest n i ≡ i
    iterator-stays n k i is =
        ap (λ b. if b && (not (n == i.root) && among n (inclusive_descendants v.tree.forest i.root)) then stepped_off n (inclusive_descendants v.tree.forest n) (inclusive_descendants v.tree.forest i.root) i else i)
        (hits-not_among i.reference (inclusive_descendants v.tree.forest n) none)
      where
        there : 0 < occurs i.reference f
        there =
            let s = hits-numbers i.reference (tree_at i.root f) in
            let t = occurs-tree i.reference i.root f in
            let u = is.inside in
            omega arith

        older : i.reference < low
        older =
            ⊎_elim
            (λ (lt : i.reference < low). lt)
            (λ (le : low ≤ i.reference). absurd (let z = below i.reference le in let u = there in omega arith))
            (cases_lt i.reference low)

        none : hits i.reference (inclusive_descendants v.tree.forest n) ≡ 0
        none =
            let s = hits-numbers i.reference (tree_at n v.tree.forest) in
            let t = ap (λ (g : Forest Content). occurs i.reference (tree_at n g)) l.forest in
            let u = ap (λ (g : Forest Content). occurs i.reference g) (tree_at-younger n f l.trees (below n k)) in
            let w = occurs-tree i.reference n l.trees in
            let z = absent-from low i.reference l.trees l.numbers older in
            omega arith

    iterators-stay : (n : ℕ) → low ≤ n → pre_removed_all v.tree.forest n v.iterators ≡ v.iterators
    iterators-stay n k = subst (λ (is : List (Option Iterator)). pre_removed_all v.tree.forest n is ≡ is) (sym l.iterators) (each a.iterators h.iterators)
      where
        each : (is : List (Option Iterator)) → All (λ (o : Option Iterator). IfSome o (IsIterator f)) is → pre_removed_all v.tree.forest n is ≡ is
        each [] w = refl
        each (None ∷ is) w = ap (λ xs. None ∷ xs) (each is (All-tail (λ (o : Option Iterator). IfSome o (IsIterator f)) None is w))
        each (Some i ∷ is) w =
            ap (λ (j : Iterator). Some j ∷ pre_removed_all v.tree.forest n is) (iterator-stays n k i (All-head (λ (o : Option Iterator). IfSome o (IsIterator f)) (Some i) is w))
            ∙ ap (λ xs. Some i ∷ xs) (each is (All-tail (λ (o : Option Iterator). IfSome o (IsIterator f)) (Some i) is w))

    -- a newer node becomes a root
    pub cut-left : (mid : World) (n : ℕ) → low ≤ n → mid ≡ record v { tree = record v.tree { forest = cut n v.tree.forest }; iterators = pre_removed_all v.tree.forest n v.iterators } → LeavesAll a mid
    cut-left mid n k e = subst (LeavesAll a) (sym e) (record {
      trees = cut n l.trees;
      forest = ap (cut n) l.forest ∙ cut-younger low n f l.trees k below;
      numbers = EachNode-cut (IsFrom low) n l.trees l.numbers;
      made = l.made;
      ranges = l.ranges;
      static_ranges = l.static_ranges;
      iterators = iterators-stay n k ∙ l.iterators;
      walkers = l.walkers;
      observers = l.observers;
    })

    -- other newer trees stand beside what was there
    grown : (g trees : Forest Content) → g ≡ beside f trees → EachNode (IsFrom low) trees → LeavesAll a (record v { tree = record v.tree { forest = g } })
    grown g trees e numbers = record {
      trees = trees;
      forest = e;
      numbers = numbers;
      made = l.made;
      ranges = l.ranges;
      static_ranges = l.static_ranges;
      iterators = l.iterators;
      walkers = l.walkers;
      observers = l.observers;
    }

    -- a newer root comes in last under a newer node
    one-placed : (p n : ℕ) → low ≤ p → low ≤ n → LeavesAll a (record v { tree = record v.tree { forest = placed_in p None n v.tree.forest } })
    one-placed p n i j =
        let d = document_in (entry_in v.tree.forest p) in
        grown (placed_in p None n v.tree.forest) (adopted n d (put p n None l.trees))
        (ap (λ (g : Forest Content). adopted n d (put p n None g)) l.forest
        ∙ ap (adopted n d) (put-younger low p n None f l.trees i j below)
        ∙ adopted-younger low n d f (put p n None l.trees) j below)
        (EachNode-with_tree (IsFrom low) n (in_document d) (λ x k. k) (put p n None l.trees) (EachNode-put (IsFrom low) p n None l.trees l.numbers))

  all-placed : (p : ℕ) → low ≤ p → (ns : List ℕ) → AreNewer a ns → (v : World) → LeavesAll a v → LeavesAll a (record v { tree = record v.tree { forest = all_placed p None ns v.tree.forest } })
  all-placed p i [] each v l = grown v l v.tree.forest l.trees l.forest l.numbers
  all-placed p i (n ∷ ns) each v l =
      all-placed p i ns (λ m k. each m (omega arith)) (record v { tree = record v.tree { forest = placed_in p None n v.tree.forest } }) (one-placed v l p n i (each n (hits-first n ns)))

  -- newer roots come in last under a newer node
  pub placed-left : (p : ℕ) (ns : List ℕ) → AreNewer a (p ∷ ns) → (v : World) → LeavesAll a v → LeavesAll a (with_placed p None ns v)
  placed-left p ns newer v l =
      let done = all-placed p (newer p (hits-first p ns)) ns (λ m k. newer m (omega arith)) v l in
      record {
        trees = done.trees;
        forest = done.forest;
        numbers = done.numbers;
        made = done.made;
        ranges = done.ranges;
        static_ranges = done.static_ranges;
        iterators = done.iterators;
        walkers = done.walkers;
        observers = done.observers;
      }
