-- The contained nodes whose parent is not contained, by parts: those beside the path to the start, the contained children of the common
-- ancestor, and those beside the path to the end. DOM Standard, "Interface Range".
use Rattle.std.proofs.Common.{◌≡◌, ℕ, ◌+◌, ◌*◌, ◌<◌, ◌≤◌, ◌==◌, nat_lt, Bool, true, false, not, ◌&&◌, if◌then◌else◌, List, [], ◌∷◌, ◌++◌, filter, flat_map, Some, refl, ap, sym, ◌∙◌, subst, arith, append-nil, append_assoc, eq-eqb, inl, inr, Less, Greater}
use Rattle.std.proofs.lemmas.{Bool.cases_lt, Bool.false≢true, Bool.lt-ltb, Bool.le-ltb, List.Elements.filter-append, Bool.and_left, Bool.and_right, Bool.cases_Bool}
use Rattle.dom_model.specs.Definitions.{hits, among, is_character_data, may_be_parent, occurs, one_at, without, parent_of, children_of, index_of, ancestors, root_of, inclusive_descendants, Range, World, IsRange, IsSound, path_places, order_of, if_given, kind_passes, same_root, unit_count, node_length, is_less, is_before, common_ancestor, path_below, common_of, contained_in, contained_tops, contained_children, point, IsWay, tail_nodes, head_nodes, up_to, past}
use Rattle.dom_model.proofs.PlainLists.Numbers.{same_or, same, apart}
use Rattle.dom_model.proofs.Forests.{Totals.total-tree_at, Chains.index-apart, Chains.root-child, Climbing.hits-append, Climbing.hits-first, Climbing.hits-among, Climbing.not_among-hits, Climbing.hits-ancestors, Indices.child-listed, Indices.child-once, Indices.child-parent, Indices.child-there, Indices.index-child, Indices.path-child, Entries.occurs-HasNode, TreeOrder.Flattened.hits-numbers, TreeOrder.Flattened.numbers-without, WaysMeeting.above-root, WaysMeeting.above-itself, WaysMeeting.above-twice, WaysMeeting.above-child, WaysMeeting.above-higher, WaysMeeting.above-apart, WaysMeeting.depth-child}
use Rattle.dom_model.proofs.BoundaryPoints.{PointOrder.order-above, OrderByWays.path-through, OrderByWays.order-below, OrderByWays.order-beside}
use Rattle.dom_model.proofs.Soundness.SoundForests.{parent-passes, parent_no_data, passes-also}
use Rattle.dom_model.proofs.RangesAndContents.{ContainedAside.start-not_contained, ContainedAside.end-not_contained, DrawnPaths.hits-past, DrawnPaths.hits-up_to, StartsAhead.got_place, WaysBelow.IsFork, WaysBelow.fork, WaysBelow.way-above, TreesAside.Aside, TreesAside.aside, TreesAside.swapped, ListsByParts.filter-nothing, ListsByParts.flat-none, ListsByParts.flat-same, ListsByParts.flat-filter, ListsByParts.flat-drop, ListsByParts.flat-take, ListsByParts.place-up_to, ListsByParts.place-past, ListsByParts.flat-first, ListsByParts.flat-last, ListsByParts.flat-past, ListsByParts.flat-up_to, TopsOfTrees.sifted-children, TopsOfTrees.is_top, TopsOfTrees.tops_in, TopsOfTrees.itself_if, TopsOfTrees.is_less-either, TopsOfTrees.IsOff, TopsOfTrees.off, TopsOfTrees.contained-off, TopsOfTrees.before-by, TopsOfTrees.after-by, TopsOfTrees.tops-uniform, RangesSet.same_option}
use Rattle.dom_model.proofs.TokenText.Contents.PathTokens.{start_path, end_path}

module _ (w : World) (sound : IsSound w) where
  -- of a child of a node
  root-kid : (n x : ℕ) → 0 < hits x (children_of w.forest n) → root_of w.forest x ≡ root_of w.forest n
  root-kid n x h = root-child w.forest sound.forest.once x n (child-there w.forest sound.forest.once x n h) (child-parent w.forest sound.forest.once x n h)

  path-kid : (n x : ℕ) → 0 < hits x (children_of w.forest n) → path_places w.forest x ≡ path_places w.forest n ++ (2 * index_of w.forest x + 1) ∷ []
  path-kid n x h = path-child w.forest sound.forest.once x n (child-there w.forest sound.forest.once x n h) (child-parent w.forest sound.forest.once x n h)

  above-kid : (n x m : ℕ) → 0 < occurs m w.forest → 0 < hits x (children_of w.forest n) → 0 < hits x (ancestors m w.forest) → 0 < hits n (ancestors m w.forest)
  above-kid n x m hm h up = above-child w.forest sound.forest.once x n m hm (child-there w.forest sound.forest.once x n h) up (child-parent w.forest sound.forest.once x n h)

  kids-apart : (n c x : ℕ) → 0 < hits c (children_of w.forest n) → 0 < hits x (children_of w.forest n) → index_of w.forest c ≡ index_of w.forest x → c ≡ x
  kids-apart n c x lc lx e =
      index-apart w.forest sound.forest.once c x n (child-there w.forest sound.forest.once c n lc) (child-parent w.forest sound.forest.once c n lc) (child-parent w.forest sound.forest.once x n lx) e

  -- a child of a node that is not above another is not above that either
  child-off : (n x m : ℕ) → 0 < occurs m w.forest → 0 < hits x (children_of w.forest n) → hits n (ancestors m w.forest) ≡ 0 → hits x (ancestors m w.forest) ≡ 0
  child-off n x m hm h z = let none : 0 < hits x (ancestors m w.forest) → ⊥ = λ lt. (let i = above-kid n x m hm h lt in omega arith) in omega arith

  -- a child of a node is not above it
  pub child-under : (n x : ℕ) → 0 < occurs n w.forest → parent_of w.forest x ≡ Some n → 0 < occurs x w.forest → hits x (ancestors n w.forest) ≡ 0
  child-under n x hn p hx =
      let none : 0 < hits x (ancestors n w.forest) → ⊥ = λ lt.
      (let i = above-higher w.forest sound.forest.once x n hn lt in let j = depth-child w.forest sound.forest.once x n hx p in omega arith)
      in
      omega arith

  -- of the children of one node, one at most is above another
  child-beside : (n c x m : ℕ) → 0 < occurs m w.forest → 0 < hits c (children_of w.forest n) → 0 < hits x (children_of w.forest n) → 0 < hits c (ancestors m w.forest) → (c ≡ x → ⊥) → hits x (ancestors m w.forest) ≡ 0
  child-beside n c x m hm lc lx above ne =
      let hc = child-there w.forest sound.forest.once c n lc in
      let hx = child-there w.forest sound.forest.once x n lx in
      let depth = depth-child w.forest sound.forest.once c n hc (child-parent w.forest sound.forest.once c n lc) ∙ sym (depth-child w.forest sound.forest.once x n hx (child-parent w.forest sound.forest.once x n lx)) in
      let none : 0 < hits x (ancestors m w.forest) → ⊥ = λ lt. ne (above-apart w.forest sound.forest.once c x m hm hc hx above lt depth) in
      omega arith

  -- no child stands under data
  pub data-childless : (n x : ℕ) → kind_passes is_character_data w.forest n ≡ true → 0 < hits x (children_of w.forest n) → ⊥
  data-childless n x k h =
      let p = child-parent w.forest sound.forest.once x n h in
      let hx = child-there w.forest sound.forest.once x n h in
      false≢true (sym (passes-also may_be_parent is_character_data false parent_no_data w.forest n (parent-passes sound.forest x n p hx)) ∙ k)

  -- a child ahead of another, or behind it, by where they are listed
  up_to-ahead : (n m x : ℕ) → parent_of w.forest m ≡ Some n → 0 < hits x (up_to m (children_of w.forest n)) → (0 < hits x (children_of w.forest n)) × (index_of w.forest x < index_of w.forest m) × (m ≡ x → ⊥)
  up_to-ahead n m x p h =
      let l : 0 < hits x (children_of w.forest n) = (let i = hits-up_to x m (children_of w.forest n) in omega arith) in
      let ix = index-child w.forest x n (child-parent w.forest sound.forest.once x n l) in
      let im = index-child w.forest m n p in
      let lt : index_of w.forest x < index_of w.forest m = omega (arith, place-up_to x m (children_of w.forest n) h) in
      (l, lt, λ d. let y = ap (index_of w.forest) d in omega arith)

  past-behind : (n m x : ℕ) → parent_of w.forest m ≡ Some n → 0 < hits x (past m (children_of w.forest n)) → (0 < hits x (children_of w.forest n)) × (index_of w.forest m < index_of w.forest x) × (m ≡ x → ⊥)
  past-behind n m x p h =
      let l : 0 < hits x (children_of w.forest n) = (let i = hits-past x m (children_of w.forest n) in omega arith) in
      let ix = index-child w.forest x n (child-parent w.forest sound.forest.once x n l) in
      let im = index-child w.forest m n p in
      let lt : index_of w.forest m < index_of w.forest x = omega (arith, place-past x m (children_of w.forest n) (child-once w.forest sound.forest.once x n) h) in
      (l, lt, λ d. let y = ap (index_of w.forest) d in omega arith)

not-greater : (v : Bool) → ((if v then Less else Greater) ≡ Greater → ⊥) → v ≡ true
not-greater v h = grind arith

module _ (w : World) (sound : IsSound w) (range : Range) (is : IsRange w.forest range) where
  hs : 0 < occurs range.start.node w.forest
  hs = occurs-HasNode w.forest range.start.node is.starts.there

  he : 0 < occurs range.end.node w.forest
  he = occurs-HasNode w.forest range.end.node is.ends.there

  -- a node that is not contained gives what its children give
  opened : (n : ℕ) → 0 < occurs n w.forest → contained_in w range n ≡ false → tops_in w range n ≡ flat_map (tops_in w range) (children_of w.forest n)
  opened n h e =
      sifted-children w.forest (is_top w range) sound.forest.once n h
      ∙ ap (λ v. (if v && not (if_given (contained_in w range) (parent_of w.forest n)) then n ∷ [] else []) ++ flat_map (tops_in w range) (children_of w.forest n)) e

  -- and of its children, one above neither end gives itself or nothing
  child-told : (n x : ℕ) → contained_in w range n ≡ false → parent_of w.forest x ≡ Some n → (k : IsOff w sound range is x) → tops_in w range x ≡ itself_if w range (k.start.before && k.end.after) x
  child-told n x e p k =
      tops-uniform w sound range is x k (ap (if_given (contained_in w range)) p ∙ e)
      ∙ ap (λ v. itself_if w range v x) (contained-off w sound range is x k)

  -- what stands under a node above the start, and not above the end, is before the end
  module _ (n : ℕ) (hn : 0 < occurs n w.forest) (rooted : root_of w.forest n ≡ root_of w.forest range.start.node) (above : 0 < hits n (ancestors range.start.node w.forest)) (clear : hits n (ancestors range.end.node w.forest) ≡ 0) where
    tail_aside : Aside w.forest sound.forest.once range.end.node range.end.offset n
    tail_aside = aside w.forest sound.forest.once range.end.node range.end.offset n he hn (sym is.one_root ∙ sym rooted) clear

    tail_after : tail_aside.after ≡ true
    tail_after = not-greater tail_aside.after (λ e. is.in_order (tail_aside.ends range.start.node range.start.offset hs above ∙ e))

    tail_off : (x : ℕ) → 0 < hits x (children_of w.forest n) → hits x (ancestors range.start.node w.forest) ≡ 0 → IsOff w sound range is x
    tail_off x h z =
        off w sound range is x (child-there w.forest sound.forest.once x n h) (root-kid w sound n x h ∙ rooted) z (child-off w sound n x range.end.node he h clear)

    tail-given : (x : ℕ) → 0 < hits x (children_of w.forest n) → (k : IsOff w sound range is x) → (v : Bool) → order_of w.forest range.start (point x 0) ≡ (if v then Less else Greater) → tops_in w range x ≡ itself_if w range v x
    tail-given x h k v e =
        let hx = child-there w.forest sound.forest.once x n h in
        let up = above-kid w sound n x x hx h (above-itself w.forest sound.forest.once x hx) in
        let b = after-by w sound range is x k tail_aside.after 0 (tail_aside.ends x 0 hx up) ∙ tail_after in
        child-told n x (start-not_contained w.forest sound.forest.once unit_count range n hs above) (child-parent w.forest sound.forest.once x n h) k
        ∙ ap (λ u. itself_if w range (u && k.end.after) x) (before-by w sound range is x k v e)
        ∙ ap (λ u. itself_if w range (v && u) x) b
        ∙ ap (λ u. itself_if w range u x) (let e : (v && true) ≡ v = grind arith in e)

  -- what stands under a node above the end, and not above the start, is behind the start
  module _ (n : ℕ) (hn : 0 < occurs n w.forest) (rooted : root_of w.forest n ≡ root_of w.forest range.start.node) (above : 0 < hits n (ancestors range.end.node w.forest)) (clear : hits n (ancestors range.start.node w.forest) ≡ 0) where
    head_aside : Aside w.forest sound.forest.once range.start.node range.start.offset n
    head_aside = aside w.forest sound.forest.once range.start.node range.start.offset n hs hn (sym rooted) clear

    head_before : head_aside.before ≡ true
    head_before = not-greater head_aside.before (λ e. is.in_order (head_aside.starts range.end.node range.end.offset he above ∙ e))

    head_off : (x : ℕ) → 0 < hits x (children_of w.forest n) → hits x (ancestors range.end.node w.forest) ≡ 0 → IsOff w sound range is x
    head_off x h z =
        off w sound range is x (child-there w.forest sound.forest.once x n h) (root-kid w sound n x h ∙ rooted) (child-off w sound n x range.start.node hs h clear) z

    head-given : (x : ℕ) → 0 < hits x (children_of w.forest n) → (k : IsOff w sound range is x) → (v : Bool) → order_of w.forest (point x 0) range.end ≡ (if v then Less else Greater) → tops_in w range x ≡ itself_if w range v x
    head-given x h k v e =
        let hx = child-there w.forest sound.forest.once x n h in
        let up = above-kid w sound n x x hx h (above-itself w.forest sound.forest.once x hx) in
        let b = before-by w sound range is x k head_aside.before (head_aside.starts x 0 hx up) ∙ head_before in
        child-told n x (end-not_contained w.forest sound.forest.once unit_count sound.forest.kinds range n he is.ends.within above) (child-parent w.forest sound.forest.once x n h) k
        ∙ ap (λ u. itself_if w range (u && k.end.after) x) b
        ∙ ap (λ u. itself_if w range u x) (after-by w sound range is x k v 0 e)

  -- Beside the path to the start.

  start-order : (n c x : ℕ) → 0 < hits c (children_of w.forest n) → 0 < hits x (children_of w.forest n) → 0 < hits c (ancestors range.start.node w.forest) → (c ≡ x → ⊥) → order_of w.forest range.start (point x 0) ≡ (if nat_lt (index_of w.forest c) (index_of w.forest x) then Less else Greater)
  start-order n c x lc lx above ne =
      let p = path-through w.forest sound.forest.once range.start.node n c hs above (child-parent w.forest sound.forest.once c n lc) in
      order-beside w.forest range.start.node x n (index_of w.forest c) (index_of w.forest x) range.start.offset 0 p.0 [] p.1 (path-kid w sound n x lx) (λ e. ne (kids-apart w sound n c x lc lx e))

  tail-tops : (path : List ℕ) (n : ℕ) → 0 < occurs n w.forest → root_of w.forest n ≡ root_of w.forest range.start.node → hits n (ancestors range.end.node w.forest) ≡ 0 → IsWay w.forest n path range.start.node → tops_in w range n ≡ tail_nodes w range.start.offset (n ∷ path)
  tail-tops [] n hn rooted clear way =
      let above = subst (λ m. 0 < hits m (ancestors range.start.node w.forest)) (sym way) (above-itself w.forest sound.forest.once range.start.node hs) in
      opened n hn (start-not_contained w.forest sound.forest.once unit_count range n hs above) ∙ elim (cases_Bool (kind_passes is_character_data w.forest n)) [
        | inl e ↦ rw e (flat-none (tops_in w range) (children_of w.forest n) (λ x h. absurd (data-childless w sound n x e h)))
        | inr e ↦ rw e
            (flat-drop (tops_in w range) (children_of w.forest n) range.start.offset (λ i x g.
            let at = got_place (children_of w.forest n) i x (λ m. child-once w.forest sound.forest.once m n) g in
            let p = child-parent w.forest sound.forest.once x n at.1 in
            let index = index-child w.forest x n p ∙ at.0 in
            let under = subst (λ m. hits x (ancestors m w.forest) ≡ 0) way (child-under w sound n x hn p (child-there w.forest sound.forest.once x n at.1)) in
            let k = tail_off n hn rooted above clear x at.1 under in
            let spelled = path-kid w sound n x at.1 ∙ ap (λ m. path_places w.forest m ++ (2 * index_of w.forest x + 1) ∷ []) way in
            let order = order-above w.forest range.start.node x (index_of w.forest x) range.start.offset 0 [] spelled ∙ swapped w.forest sound.forest.once (nat_lt (index_of w.forest x) range.start.offset) in
            let told = tail-given n hn rooted above clear x at.1 k (if nat_lt (index_of w.forest x) range.start.offset then false else true) order in
            (λ l. told ∙ (rw (lt-ltb (index_of w.forest x) range.start.offset (omega arith)) refl), λ l. told ∙ (rw (le-ltb (index_of w.forest x) range.start.offset (omega arith)) refl))))
      ]
  tail-tops (m ∷ path) n hn rooted clear way =
      let up = way-above w.forest sound.forest.once m path range.start.node way.0 hs way.2 in
      let above = above-child w.forest sound.forest.once m n range.start.node hs way.0 up way.1 in
      let lm = child-listed w.forest sound.forest.once m n way.0 way.1 in
      let inner = tail-tops path m way.0 (root-child w.forest sound.forest.once m n way.0 way.1 ∙ rooted) (child-off w sound n m range.end.node he lm clear) way.2 in
      let each : (x : ℕ) → 0 < hits x (children_of w.forest n) → (m ≡ x → ⊥) → tops_in w range x ≡ itself_if w range (nat_lt (index_of w.forest m) (index_of w.forest x)) x = λ x l ne.
      let k = tail_off n hn rooted above clear x l (child-beside w sound n m x range.start.node hs lm l up ne) in
      tail-given n hn rooted above clear x l k (nat_lt (index_of w.forest m) (index_of w.forest x)) (start-order n m x lm l up ne)
      in
      opened n hn (start-not_contained w.forest sound.forest.once unit_count range n hs above)
      ∙ flat-past (tops_in w range) (tops_in w range) m (tail_nodes w range.start.offset (m ∷ path)) (children_of w.forest n) lm inner
      (λ x h. let i = up_to-ahead w sound n m x way.1 h in each x i.0 i.2 ∙ (rw (le-ltb (index_of w.forest m) (index_of w.forest x) (omega arith)) refl))
      (λ x h. let i = past-behind w sound n m x way.1 h in each x i.0 i.2 ∙ (rw (lt-ltb (index_of w.forest m) (index_of w.forest x) (omega arith)) refl))

  -- Beside the path to the end.

  end-order : (n c x k : ℕ) → 0 < hits c (children_of w.forest n) → 0 < hits x (children_of w.forest n) → 0 < hits c (ancestors range.end.node w.forest) → (c ≡ x → ⊥) → order_of w.forest (point x k) range.end ≡ (if nat_lt (index_of w.forest x) (index_of w.forest c) then Less else Greater)
  end-order n c x k lc lx above ne =
      let p = path-through w.forest sound.forest.once range.end.node n c he above (child-parent w.forest sound.forest.once c n lc) in
      order-beside w.forest x range.end.node n (index_of w.forest x) (index_of w.forest c) k range.end.offset [] p.0 (path-kid w sound n x lx) p.1 (λ e. ne (kids-apart w sound n c x lc lx (sym e)))

  head-tops : (path : List ℕ) (n : ℕ) → 0 < occurs n w.forest → root_of w.forest n ≡ root_of w.forest range.start.node → hits n (ancestors range.start.node w.forest) ≡ 0 → IsWay w.forest n path range.end.node → tops_in w range n ≡ head_nodes w range.end.offset (n ∷ path)
  head-tops [] n hn rooted clear way =
      let above = subst (λ m. 0 < hits m (ancestors range.end.node w.forest)) (sym way) (above-itself w.forest sound.forest.once range.end.node he) in
      opened n hn (end-not_contained w.forest sound.forest.once unit_count sound.forest.kinds range n he is.ends.within above) ∙ elim (cases_Bool (kind_passes is_character_data w.forest n)) [
        | inl e ↦ rw e (flat-none (tops_in w range) (children_of w.forest n) (λ x h. absurd (data-childless w sound n x e h)))
        | inr e ↦ rw e
            (flat-take (tops_in w range) (children_of w.forest n) range.end.offset (λ i x g.
            let at = got_place (children_of w.forest n) i x (λ m. child-once w.forest sound.forest.once m n) g in
            let p = child-parent w.forest sound.forest.once x n at.1 in
            let index = index-child w.forest x n p ∙ at.0 in
            let under = subst (λ m. hits x (ancestors m w.forest) ≡ 0) way (child-under w sound n x hn p (child-there w.forest sound.forest.once x n at.1)) in
            let k = head_off n hn rooted above clear x at.1 under in
            let spelled = path-kid w sound n x at.1 ∙ ap (λ m. path_places w.forest m ++ (2 * index_of w.forest x + 1) ∷ []) way in
            let order = order-below w.forest x range.end.node (index_of w.forest x) 0 range.end.offset [] spelled in
            let told = head-given n hn rooted above clear x at.1 k (nat_lt (index_of w.forest x) range.end.offset) order in
            (λ l. told ∙ (rw (lt-ltb (index_of w.forest x) range.end.offset (omega arith)) refl), λ l. told ∙ (rw (le-ltb (index_of w.forest x) range.end.offset (omega arith)) refl))))
      ]
  head-tops (m ∷ path) n hn rooted clear way =
      let up = way-above w.forest sound.forest.once m path range.end.node way.0 he way.2 in
      let above = above-child w.forest sound.forest.once m n range.end.node he way.0 up way.1 in
      let lm = child-listed w.forest sound.forest.once m n way.0 way.1 in
      let inner = head-tops path m way.0 (root-child w.forest sound.forest.once m n way.0 way.1 ∙ rooted) (child-off w sound n m range.start.node hs lm clear) way.2 in
      let each : (x : ℕ) → 0 < hits x (children_of w.forest n) → (m ≡ x → ⊥) → tops_in w range x ≡ itself_if w range (nat_lt (index_of w.forest x) (index_of w.forest m)) x = λ x l ne.
      let k = head_off n hn rooted above clear x l (child-beside w sound n m x range.end.node he lm l up ne) in
      head-given n hn rooted above clear x l k (nat_lt (index_of w.forest x) (index_of w.forest m)) (end-order n m x 0 lm l up ne)
      in
      opened n hn (end-not_contained w.forest sound.forest.once unit_count sound.forest.kinds range n he is.ends.within above)
      ∙ flat-up_to (tops_in w range) (tops_in w range) m (head_nodes w range.end.offset (m ∷ path)) (children_of w.forest n) lm inner
      (λ x h. let i = up_to-ahead w sound n m x way.1 h in each x i.0 i.2 ∙ (rw (lt-ltb (index_of w.forest x) (index_of w.forest m) (omega arith)) refl))
      (λ x h. let i = past-behind w sound n m x way.1 h in each x i.0 i.2 ∙ (rw (le-ltb (index_of w.forest x) (index_of w.forest m) (omega arith)) refl))

  -- Under the common ancestor.

  abbrev common : ℕ
  common = common_of w range

  forked : IsFork w.forest sound.forest.once range.start.node range.end.node (common_of w range)
  forked = fork w.forest sound.forest.once range.start.node range.end.node hs he is.one_root

  abbrev kids : List ℕ
  kids = children_of w.forest (common_of w range)

  abbrev chosen : ℕ → List ℕ
  chosen x = if contained_in w range x then x ∷ [] else []

  -- what a child gives, where that on the way to the start gives what is beside that way
  abbrev given : List ℕ → ℕ → List ℕ
  given [] x = chosen x
  given (c ∷ path) x = if c == x then tail_nodes w range.start.offset (c ∷ path) else chosen x

  abbrev NotFirst : List ℕ → ℕ → Type 0
  NotFirst [] x = Unit {0}
  NotFirst (c ∷ path) x = c ≡ x → ⊥

  above_start : 0 < hits (common_of w range) (ancestors range.start.node w.forest)
  above_start = way-above w.forest sound.forest.once (common_of w range) (path_below w.forest (common_of w range) range.start.node) range.start.node forked.there hs forked.first

  above_end : 0 < hits (common_of w range) (ancestors range.end.node w.forest)
  above_end = way-above w.forest sound.forest.once (common_of w range) (path_below w.forest (common_of w range) range.end.node) range.end.node forked.there he forked.second

  common_rooted : root_of w.forest (common_of w range) ≡ root_of w.forest range.start.node
  common_rooted = above-root w.forest sound.forest.once (common_of w range) range.start.node hs forked.there above_start

  common-free : contained_in w range (common_of w range) ≡ false
  common-free = start-not_contained w.forest sound.forest.once unit_count range (common_of w range) hs above_start

  off-way : (path : List ℕ) (m : ℕ) → 0 < occurs m w.forest → IsWay w.forest (common_of w range) path m → (x : ℕ) → 0 < hits x kids → NotFirst path x → hits x (ancestors m w.forest) ≡ 0
  off-way [] m hm way x l ne =
      subst (λ z. hits x (ancestors z w.forest) ≡ 0) way
      (child-under w sound (common_of w range) x forked.there (child-parent w.forest sound.forest.once x (common_of w range) l) (child-there w.forest sound.forest.once x (common_of w range) l))
  off-way (c ∷ path) m hm way x l ne =
      child-beside w sound (common_of w range) c x m hm (child-listed w.forest sound.forest.once c (common_of w range) way.0 way.1) l (way-above w.forest sound.forest.once c path m way.0 hm way.2) ne

  -- a child that is on neither way
  chosen-off : (x : ℕ) → 0 < hits x kids → hits x (ancestors range.start.node w.forest) ≡ 0 → hits x (ancestors range.end.node w.forest) ≡ 0 → tops_in w range x ≡ chosen x
  chosen-off x l i j =
      tops-uniform w sound range is x
      (off w sound range is x (child-there w.forest sound.forest.once x (common_of w range) l) (root-kid w sound (common_of w range) x l ∙ common_rooted) i j)
      (ap (if_given (contained_in w range)) (child-parent w.forest sound.forest.once x (common_of w range) l) ∙ common-free)

  chosen-none : (x : ℕ) → contained_in w range x ≡ false → chosen x ≡ []
  chosen-none x e = ap (λ v. if v then x ∷ [] else []) e

  given-first : (c : ℕ) (path : List ℕ) → given (c ∷ path) c ≡ tail_nodes w range.start.offset (c ∷ path)
  given-first c path = rw (eq-eqb c c refl) refl

  given-other : (path : List ℕ) (x : ℕ) → NotFirst path x → given path x ≡ chosen x
  given-other [] x ne = refl
  given-other (c ∷ path) x ne = elim (same_or c x) [ same e t ↦ absurd (ne e) | apart nx t ↦ rw t refl ]

  child-gives : (first last : List ℕ) → IsWay w.forest (common_of w range) first range.start.node → IsWay w.forest (common_of w range) last range.end.node → ((y : ℕ) → 0 < hits y first → among y (ancestors range.end.node w.forest) ≡ false) → (x : ℕ) → 0 < hits x kids → NotFirst last x → tops_in w range x ≡ given first x
  child-gives [] last way u free x l ne = chosen-off x l (off-way [] range.start.node hs way x l tt) (off-way last range.end.node he u x l ne)
  child-gives (c ∷ path) last way u free x l ne =
      elim (same_or c x) [
        | same d t ↦
            ap (tops_in w range) (sym d)
            ∙ tail-tops path c way.0 (root-child w.forest sound.forest.once c (common_of w range) way.0 way.1 ∙ common_rooted) (not_among-hits c (ancestors range.end.node w.forest) (free c (hits-first c path))) way.2
            ∙ (rw t refl)
        | apart nx t ↦ chosen-off x l (off-way (c ∷ path) range.start.node hs way x l nx) (off-way last range.end.node he u x l ne) ∙ sym (given-other (c ∷ path) x nx)
      ]

  -- a child ahead of that towards the start is not contained, nor one behind that towards the end
  ahead-free : (c : ℕ) (path : List ℕ) → IsWay w.forest (common_of w range) (c ∷ path) range.start.node → (x : ℕ) → 0 < hits x kids → index_of w.forest x < index_of w.forest c → contained_in w range x ≡ false
  ahead-free c path way x l lt =
      let lc = child-listed w.forest sound.forest.once c (common_of w range) way.0 way.1 in
      let order = start-order (common_of w range) c x lc l (way-above w.forest sound.forest.once c path range.start.node way.0 hs way.2) (λ d. let y = ap (index_of w.forest) d in omega arith) in
      let late : is_before w.forest range.start (point x 0) ≡ false = ap is_less order ∙ is_less-either (nat_lt (index_of w.forest c) (index_of w.forest x)) ∙ (rw (le-ltb (index_of w.forest c) (index_of w.forest x) (omega arith)) refl) in
      and_right (same_root w.forest x range.start.node) (is_before w.forest range.start (point x 0) && is_before w.forest (point x (node_length unit_count w.forest x)) range.end) (and_left (is_before w.forest range.start (point x 0)) (is_before w.forest (point x (node_length unit_count w.forest x)) range.end) late)

  behind-free : (d : ℕ) (path : List ℕ) → IsWay w.forest (common_of w range) (d ∷ path) range.end.node → (x : ℕ) → 0 < hits x kids → index_of w.forest d < index_of w.forest x → contained_in w range x ≡ false
  behind-free d path way x l lt =
      let ld = child-listed w.forest sound.forest.once d (common_of w range) way.0 way.1 in
      let order = end-order (common_of w range) d x (node_length unit_count w.forest x) ld l (way-above w.forest sound.forest.once d path range.end.node way.0 he way.2) (λ e. let y = ap (index_of w.forest) e in omega arith) in
      let late : is_before w.forest (point x (node_length unit_count w.forest x)) range.end ≡ false = ap is_less order ∙ is_less-either (nat_lt (index_of w.forest x) (index_of w.forest d)) ∙ (rw (le-ltb (index_of w.forest x) (index_of w.forest d) (omega arith)) refl) in
      and_right (same_root w.forest x range.start.node) (is_before w.forest range.start (point x 0) && is_before w.forest (point x (node_length unit_count w.forest x)) range.end) (and_right (is_before w.forest range.start (point x 0)) (is_before w.forest (point x (node_length unit_count w.forest x)) range.end) late)

  -- the child towards the start is ahead of that towards the end
  ways-in_order : (c d : ℕ) (first last : List ℕ) → IsWay w.forest (common_of w range) (c ∷ first) range.start.node → IsWay w.forest (common_of w range) (d ∷ last) range.end.node → (c ≡ d → ⊥) → index_of w.forest c < index_of w.forest d
  ways-in_order c d first last v u ne =
      let p = path-through w.forest sound.forest.once range.start.node (common_of w range) c hs (way-above w.forest sound.forest.once c first range.start.node v.0 hs v.2) v.1 in
      let q = path-through w.forest sound.forest.once range.end.node (common_of w range) d he (way-above w.forest sound.forest.once d last range.end.node u.0 he u.2) u.1 in
      let order = order-beside w.forest range.start.node range.end.node (common_of w range) (index_of w.forest c) (index_of w.forest d) range.start.offset range.end.offset p.0 q.0 p.1 q.1 (λ e. ne (index-apart w.forest sound.forest.once c d (common_of w range) v.0 v.1 u.1 e)) in
      let no_later : index_of w.forest d ≤ index_of w.forest c → ⊥ = λ le. is.in_order (order ∙ (rw (le-ltb (index_of w.forest c) (index_of w.forest d) le) refl)) in
      omega arith

  -- the children but for the one towards the start
  after-first : (first : List ℕ) → IsWay w.forest (common_of w range) first range.start.node → flat_map (given first) kids ≡ tail_nodes w range.start.offset first ++ filter (contained_in w range) kids
  after-first [] v = flat-filter (contained_in w range) kids
  after-first (c ∷ path) v =
      let above = way-above w.forest sound.forest.once c path range.start.node v.0 hs v.2 in
      let lc = child-listed w.forest sound.forest.once c (common_of w range) v.0 v.1 in
      flat-first (given (c ∷ path)) chosen c (tail_nodes w range.start.offset (c ∷ path)) kids lc (given-first c path)
      (chosen-none c (start-not_contained w.forest sound.forest.once unit_count range c hs above))
      (λ x h.
      let i = up_to-ahead w sound (common_of w range) c x v.1 h in
      let none = chosen-none x (ahead-free c path v x i.0 i.1) in
      (given-other (c ∷ path) x i.2 ∙ none, none))
      (λ x h. given-other (c ∷ path) x (past-behind w sound (common_of w range) c x v.1 h).2)
      ∙ ap (λ ns. tail_nodes w range.start.offset (c ∷ path) ++ ns) (flat-filter (contained_in w range) kids)

  not-towards : (first : List ℕ) (d : ℕ) (last : List ℕ) → IsWay w.forest (common_of w range) first range.start.node → IsWay w.forest (common_of w range) (d ∷ last) range.end.node → ((x : ℕ) → 0 < hits x first → among x (ancestors range.end.node w.forest) ≡ false) → NotFirst first d
  not-towards [] d last v u clear = tt
  not-towards (c ∷ path) d last v u clear = λ e.
      let above = way-above w.forest sound.forest.once d last range.end.node u.0 he u.2 in
      false≢true (sym (clear c (hits-first c path)) ∙ ap (λ z. among z (ancestors range.end.node w.forest)) e ∙ hits-among d (ancestors range.end.node w.forest) above)

  behind-towards : (first : List ℕ) (d : ℕ) (last : List ℕ) → IsWay w.forest (common_of w range) first range.start.node → IsWay w.forest (common_of w range) (d ∷ last) range.end.node → NotFirst first d → (x : ℕ) → index_of w.forest d < index_of w.forest x → NotFirst first x
  behind-towards [] d last v u ne x lt = tt
  behind-towards (c ∷ path) d last v u ne x lt = λ e. let i = ways-in_order c d path last v u ne in let y = ap (index_of w.forest) e in omega arith

  -- all the children
  middle : (first last : List ℕ) → IsWay w.forest (common_of w range) first range.start.node → IsWay w.forest (common_of w range) last range.end.node → ((x : ℕ) → 0 < hits x first → among x (ancestors range.end.node w.forest) ≡ false) → flat_map (tops_in w range) kids ≡ flat_map (given first) kids ++ head_nodes w range.end.offset last
  middle first [] v u clear = flat-same (tops_in w range) (given first) kids (λ x l. child-gives first [] v u clear x l tt) ∙ sym (append-nil (flat_map (given first) kids))
  middle first (d ∷ last) v u clear =
      let above = way-above w.forest sound.forest.once d last range.end.node u.0 he u.2 in
      let ld = child-listed w.forest sound.forest.once d (common_of w range) u.0 u.1 in
      let ne = not-towards first d last v u clear in
      let off_start = off-way first range.start.node hs v d ld ne in
      flat-last (tops_in w range) (given first) d (head_nodes w range.end.offset (d ∷ last)) kids ld
      (head-tops last d u.0 (root-child w.forest sound.forest.once d (common_of w range) u.0 u.1 ∙ common_rooted) off_start u.2)
      (given-other first d ne ∙ chosen-none d (end-not_contained w.forest sound.forest.once unit_count sound.forest.kinds range d he is.ends.within above))
      (λ x h. let i = up_to-ahead w sound (common_of w range) d x u.1 h in child-gives first (d ∷ last) v u clear x i.0 i.2)
      (λ x h.
      let i = past-behind w sound (common_of w range) d x u.1 h in
      let none = given-other first x (behind-towards first d last v u ne x i.1) ∙ chosen-none x (behind-free d last u x i.0 i.1) in
      (child-gives first (d ∷ last) v u clear x i.0 i.2 ∙ none, none))

  -- Nothing is contained outside the common ancestor's tree.

  outside-free : (m : ℕ) → 0 < occurs m w.forest → hits (common_of w range) (ancestors m w.forest) ≡ 0 → contained_in w range m ≡ false
  outside-free m hm z =
      elim (cases_Bool (same_root w.forest m range.start.node)) [
        | inl e ↦
            let one = common_rooted ∙ sym (same_option (root_of w.forest m) (root_of w.forest range.start.node) e) in
            let k = fork w.forest sound.forest.once (common_of w range) m forked.there hm one in
            meet (common_ancestor w.forest (common_of w range) m) k.there (path_below w.forest (common_ancestor w.forest (common_of w range) m) (common_of w range)) (path_below w.forest (common_ancestor w.forest (common_of w range) m) m) k.first k.second k.off
        | inr e ↦ and_left (same_root w.forest m range.start.node) (is_before w.forest range.start (point m 0) && is_before w.forest (point m (node_length unit_count w.forest m)) range.end) e
      ]
    where
      meet : (top : ℕ) → 0 < occurs top w.forest → (first second : List ℕ) → IsWay w.forest top first (common_of w range) → IsWay w.forest top second m → ((y : ℕ) → 0 < hits y first → among y (ancestors m w.forest) ≡ false) → contained_in w range m ≡ false
      meet top there [] second v u clear = absurd (let i = subst (λ t. 0 < hits t (ancestors m w.forest)) v (way-above w.forest sound.forest.once top second m there hm u) in omega arith)
      meet top there (c ∷ first) [] v u clear =
          let up = subst (λ t. 0 < hits t (ancestors (common_of w range) w.forest)) u (way-above w.forest sound.forest.once top (c ∷ first) (common_of w range) there forked.there v) in
          start-not_contained w.forest sound.forest.once unit_count range m hs (above-twice w.forest sound.forest.once m (common_of w range) range.start.node hs above_start up)
      meet top there (c ∷ first) (d ∷ second) v u clear =
          let up = way-above w.forest sound.forest.once c first (common_of w range) v.0 forked.there v.2 in
          let over = way-above w.forest sound.forest.once d second m u.0 hm u.2 in
          let p = path-through w.forest sound.forest.once range.start.node top c hs (above-twice w.forest sound.forest.once c (common_of w range) range.start.node hs above_start up) v.1 in
          let q = path-through w.forest sound.forest.once range.end.node top c he (above-twice w.forest sound.forest.once c (common_of w range) range.end.node he above_end up) v.1 in
          let r = path-through w.forest sound.forest.once m top d hm over u.1 in
          let ne : index_of w.forest c ≡ index_of w.forest d → ⊥ = λ e.
          let s = index-apart w.forest sound.forest.once c d top v.0 v.1 u.1 e in
          false≢true (sym (clear c (hits-first c first)) ∙ hits-among c (ancestors m w.forest) (subst (λ t. 0 < hits t (ancestors m w.forest)) (sym s) over))
          in
          let starts = ap is_less (order-beside w.forest range.start.node m top (index_of w.forest c) (index_of w.forest d) range.start.offset 0 p.0 r.0 p.1 r.1 ne) ∙ is_less-either (nat_lt (index_of w.forest c) (index_of w.forest d)) in
          let ends = ap is_less (order-beside w.forest m range.end.node top (index_of w.forest d) (index_of w.forest c) (node_length unit_count w.forest m) range.end.offset r.0 q.0 r.1 q.1 (λ e. ne (sym e))) ∙ is_less-either (nat_lt (index_of w.forest d) (index_of w.forest c)) in
          elim (cases_lt (index_of w.forest c) (index_of w.forest d)) [
            | inl lt ↦ and_right (same_root w.forest m range.start.node) (is_before w.forest range.start (point m 0) && is_before w.forest (point m (node_length unit_count w.forest m)) range.end) (and_right (is_before w.forest range.start (point m 0)) (is_before w.forest (point m (node_length unit_count w.forest m)) range.end) (ends ∙ (rw (le-ltb (index_of w.forest d) (index_of w.forest c) (omega arith)) refl)))
            | inr le ↦ and_right (same_root w.forest m range.start.node) (is_before w.forest range.start (point m 0) && is_before w.forest (point m (node_length unit_count w.forest m)) range.end) (and_left (is_before w.forest range.start (point m 0)) (is_before w.forest (point m (node_length unit_count w.forest m)) range.end) (starts ∙ (rw (le-ltb (index_of w.forest c) (index_of w.forest d) le) refl)))
          ]

  not_top-outside : (m : ℕ) → 0 < occurs m (without (common_of w range) w.forest) → is_top w range m ≡ false
  not_top-outside m h =
      let t = total-tree_at (one_at m) (common_of w range) w.forest in
      let o = sound.forest.once m in
      let a = hits-ancestors (common_of w range) m w.forest sound.forest.once in
      and_left (contained_in w range m) (not (if_given (contained_in w range) (parent_of w.forest m))) (outside-free m (omega arith) (omega arith))

  all-inside : contained_tops w range ≡ tops_in w range (common_of w range)
  all-inside =
      let p = numbers-without (common_of w range) w.forest (let o = sound.forest.once (common_of w range) in let h = forked.there in omega arith) in
      let out : (m : ℕ) → 0 < hits m p.ahead + hits m p.behind → is_top w range m ≡ false = λ m l.
      let i = ap (hits m) p.leaves in
      let j = hits-append m p.ahead p.behind in
      let k = hits-numbers m (without (common_of w range) w.forest) in
      not_top-outside m (omega arith)
      in
      ap (filter (is_top w range)) p.holds
      ∙ filter-append (is_top w range) p.ahead (inclusive_descendants w.forest (common_of w range) ++ p.behind)
      ∙ ap (λ ns. ns ++ filter (is_top w range) (inclusive_descendants w.forest (common_of w range) ++ p.behind)) (filter-nothing (is_top w range) p.ahead (λ m l. out m (omega arith)))
      ∙ filter-append (is_top w range) (inclusive_descendants w.forest (common_of w range)) p.behind
      ∙ ap (λ ns. tops_in w range (common_of w range) ++ ns) (filter-nothing (is_top w range) p.behind (λ m l. out m (omega arith)))
      ∙ append-nil (tops_in w range (common_of w range))

  -- by parts, in tree order
  pub tops-by_parts : contained_tops w range ≡ tail_nodes w range.start.offset (start_path w range) ++ (contained_children w range ++ head_nodes w range.end.offset (end_path w range))
  tops-by_parts =
      all-inside
      ∙ opened (common_of w range) forked.there common-free
      ∙ middle (start_path w range) (end_path w range) forked.first forked.second forked.off
      ∙ ap (λ ns. ns ++ head_nodes w range.end.offset (end_path w range)) (after-first (start_path w range) forked.first)
      ∙ append_assoc (tail_nodes w range.start.offset (start_path w range)) (contained_children w range) (head_nodes w range.end.offset (end_path w range))
