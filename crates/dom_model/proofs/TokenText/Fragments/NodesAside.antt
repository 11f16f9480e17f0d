-- The children beside the paths to a range's ends, and those contained, stand aside: no node of a path is in their trees.
-- DOM Standard, "Interface Range".
use Rattle.std.proofs.Common.{◌≡◌, ℕ, ◌<◌, ◌≤◌, List, [], ◌∷◌, ◌++◌, None, Some, refl, ap, sym, ◌∙◌, subst, arith, append-nil, ◌⊎◌, ⊎_elim, eq-eqb}
use Rattle.std.proofs.lemmas.{Bool.cases_lt, Bool.false≢true, Bool.Decides.nat_tests}
use Rattle.dom_model.specs.Definitions.{hits, past, up_to, Forest, empty, node, occurs, one_at, tops, tree_at, parent_of, children_of, ancestors, EachNode, unit_count, Content, Range, World, IsRange, IsSound, path_below, common_of, contained_in, contained_children, no_marks, token_texts, tokens_among, opened_in, IsWay, tail_nodes, head_nodes}
use Rattle.dom_model.proofs.Forests.{Totals.total-tree_at, Climbing.hits-append, Climbing.hits-reverse, Climbing.hits-first, Climbing.hits-ancestors, Climbing.not_among-hits, Entries.occurs-HasNode, Indices.child-parent, Indices.child-once, Indices.child-there, Paths.parent-path, WaysMeeting.depth-child, WaysMeeting.above-itself, WaysMeeting.above-twice, WaysMeeting.above-child, WaysMeeting.above-higher, WaysMeeting.above-apart}
use Rattle.dom_model.proofs.Worlds.Parts.{path-there}
use Rattle.dom_model.proofs.Soundness.SoundNormalizing.{filter-passed}
use Rattle.dom_model.proofs.RangesAndContents.{ContainedAside.start-not_contained, ContainedAside.end-not_contained, DrawnPaths.hits-drop, DrawnPaths.hits-take, DrawnPaths.hits-past, DrawnPaths.hits-up_to, DrawnPaths.hits-filter, PathsToEnds.not_up_to, PathsToEnds.path_without_top, WaysBelow.IsFork, WaysBelow.fork, WaysBelow.way-above}
use Rattle.dom_model.proofs.TokenText.{AlikeTrees.TreesAlike.top_of, Marked.MarkedFirst.kinds-childless, Contents.PathTokens.start_path, Contents.PathTokens.end_path, Contents.WholePieces.tokens-own, Fragments.Shapes.shape, Fragments.Shapes.shape-children, Fragments.Shapes.tree_shape, Fragments.StandingTrees.stands-tags, Fragments.SteppedTrees.stands-tree_at, Fragments.SteppedTrees.stands-forest, Fragments.OpensInStep.tree_numbers, Fragments.OpensInStep.opened_in-children, Fragments.DrawnNodes.IsAside}

-- Lists.

past-once : (m : ℕ) (ns : List ℕ) → hits m ns ≤ 1 → hits m (past m ns) ≡ 0
past-once m [] h = refl
past-once m (x ∷ xs) h = grind (arith, nat_tests, past-once m xs)

none-hit : (m : ℕ) (ns : List ℕ) → (0 < hits m ns → ⊥) → hits m ns ≡ 0
none-hit m ns h = grind arith

each-occurs : (P : ℕ → Type 0) (f : Forest Content) → ((x : ℕ) → 0 < occurs x f → P x) → EachNode (λ x. P x.number) f
each-occurs P empty h = tt
each-occurs P (node x kids rest) h = (
  h x.number (rw (eq-eqb x.number x.number refl) (omega arith)),
  each-occurs P kids (λ y k. h y (omega arith)),
  each-occurs P rest (λ y k. h y (omega arith)),
)

module _ (w : World) (sound : IsSound w) where
  once : (m : ℕ) → occurs m w.forest ≤ 1
  once = sound.forest.once

  -- a node is not above its parent
  no_cycle : (c n : ℕ) → 0 < occurs c w.forest → parent_of w.forest c ≡ Some n → hits c (ancestors n w.forest) ≡ 0
  no_cycle c n h e =
      none-hit c (ancestors n w.forest)
      (λ l. let p = parent-path w.forest sound.forest.once c n h e in
      let a = above-higher w.forest sound.forest.once c n p.0 l in
      let b = depth-child w.forest sound.forest.once c n h e in
      omega arith)

  -- of the children of a node one at most is above another node
  sibling : (c m n x : ℕ) → 0 < occurs c w.forest → 0 < occurs m w.forest → 0 < occurs x w.forest → parent_of w.forest c ≡ Some n → parent_of w.forest m ≡ Some n → (c ≡ m → ⊥) → 0 < hits m (ancestors x w.forest) → hits c (ancestors x w.forest) ≡ 0
  sibling c m n x hc hm hx ec em ne above =
      none-hit c (ancestors x w.forest)
      (λ l. ne (above-apart w.forest sound.forest.once c m x hx hc hm l above (depth-child w.forest sound.forest.once c n hc ec ∙ sym (depth-child w.forest sound.forest.once m n hm em))))

  -- where a parent is not above a node, no child is
  child-off : (c n x : ℕ) → 0 < occurs c w.forest → 0 < occurs x w.forest → parent_of w.forest c ≡ Some n → hits n (ancestors x w.forest) ≡ 0 → hits c (ancestors x w.forest) ≡ 0
  child-off c n x hc hx e z = none-hit c (ancestors x w.forest) (λ l. let a = above-child w.forest sound.forest.once c n x hx hc l e in omega arith)

  way-through : (u : ℕ) (ms : List ℕ) (n x : ℕ) → IsWay w.forest u ms n → 0 < hits x ms → 0 < hits u (ancestors x w.forest)
  way-through u [] n x way h = absurd (omega arith)
  way-through u (m ∷ ms) n x way h =
      let self = above-itself w.forest sound.forest.once m way.0 in
      let deeper = way-through m ms n x way.2 in
      let there = there-on m ms n x way.2 in
      let up = above-child w.forest sound.forest.once m u x in
      let first = way.0 in
      let parent = way.1 in
      grind (arith, nat_tests)
    where
      there-on : (u : ℕ) (ms : List ℕ) (n x : ℕ) → IsWay w.forest u ms n → 0 < hits x ms → 0 < occurs x w.forest
      there-on u [] n x way h = absurd (omega arith)
      there-on u (m ∷ ms) n x way h =
          let first = way.0 in
          let others = there-on m ms n x way.2 in
          grind (arith, nat_tests)

  once-above : (c n : ℕ) → hits c (ancestors n w.forest) ≤ 1
  once-above c n = let a = hits-ancestors c n w.forest sound.forest.once in let b = total-tree_at (one_at n) c w.forest in let d = once n in omega arith

  path-above : (top n x : ℕ) → hits x (path_below w.forest top n) ≤ hits x (ancestors n w.forest)
  path-above top n x = let a = hits-reverse x (up_to top (ancestors n w.forest)) in let b = hits-up_to x top (ancestors n w.forest) in omega arith

  -- A node in no way to an end: it stands in the forest, and above neither end.
  pub record IsOff (s e c : ℕ) : Type 0 where
    pub there : 0 < occurs c w.forest
    pub start : hits c (ancestors s w.forest) ≡ 0
    pub end : hits c (ancestors e w.forest) ≡ 0

  module _ (s e : ℕ) (hs : 0 < occurs s w.forest) (he : 0 < occurs e w.forest) where
    -- a child of a node of the path to s, other than the next one
    beside-off : (c n : ℕ) → 0 < hits c (children_of w.forest n) → hits n (ancestors e w.forest) ≡ 0 → hits c (ancestors s w.forest) ≡ 0 → IsOff s e c
    beside-off c n h z off =
        let hc = child-there w.forest sound.forest.once c n h in
        record { there = hc; start = off; end = child-off c n e hc he (child-parent w.forest sound.forest.once c n h) z }

    last-off : (c n : ℕ) → n ≡ s → 0 < hits c (children_of w.forest n) → hits n (ancestors e w.forest) ≡ 0 → IsOff s e c
    last-off c n d h z =
        beside-off c n h z (subst (λ y. hits c (ancestors y w.forest) ≡ 0) d (no_cycle c n (child-there w.forest sound.forest.once c n h) (child-parent w.forest sound.forest.once c n h)))

    next-off : (c n m : ℕ) (path : List ℕ) → IsWay w.forest n (m ∷ path) s → 0 < hits c (children_of w.forest n) → (c ≡ m → ⊥) → hits n (ancestors e w.forest) ≡ 0 → IsOff s e c
    next-off c n m path way h ne z =
        beside-off c n h z (sibling c m n s (child-there w.forest sound.forest.once c n h) way.0 hs (child-parent w.forest sound.forest.once c n h) way.1 ne (way-above w.forest sound.forest.once m path s way.0 hs way.2))

    pub tail-off : (offset u : ℕ) (path : List ℕ) → IsWay w.forest u path s → ((x : ℕ) → 0 < hits x path → hits x (ancestors e w.forest) ≡ 0) → (c : ℕ) → 0 < hits c (tail_nodes w offset path) → IsOff s e c
    tail-off offset u [] way z c h = absurd (omega arith)
    tail-off offset u (n ∷ []) way z c h =
        let i = hits-drop c offset (children_of w.forest n) in
        last-off c n way.2 (grind arith) (z n (hits-first n []))
    tail-off offset u (n ∷ m ∷ path) way z c h =
        let i = hits-append c (tail_nodes w offset (m ∷ path)) (past m (children_of w.forest n)) in
        ⊎_elim
        (λ (lt : 0 < hits c (past m (children_of w.forest n))).
        next-off c n m path way.2 (let j = hits-past c m (children_of w.forest n) in omega arith)
        (λ d. let j = past-once m (children_of w.forest n) (child-once w.forest sound.forest.once m n) in let l = subst (λ y. 0 < hits y (past m (children_of w.forest n))) d lt in omega arith) (z n (hits-first n (m ∷ path))))
        (λ (le : hits c (past m (children_of w.forest n)) ≤ 0). tail-off offset n (m ∷ path) way.2 (λ x k. z x (omega arith)) c (omega arith))
        (cases_lt 0 (hits c (past m (children_of w.forest n))))

    pub head-off : (offset u : ℕ) (path : List ℕ) → IsWay w.forest u path s → ((x : ℕ) → 0 < hits x path → hits x (ancestors e w.forest) ≡ 0) → (c : ℕ) → 0 < hits c (head_nodes w offset path) → IsOff s e c
    head-off offset u [] way z c h = absurd (omega arith)
    head-off offset u (n ∷ []) way z c h =
        let i = hits-take c offset (children_of w.forest n) in
        last-off c n way.2 (grind arith) (z n (hits-first n []))
    head-off offset u (n ∷ m ∷ path) way z c h =
        let i = hits-append c (up_to m (children_of w.forest n)) (head_nodes w offset (m ∷ path)) in
        ⊎_elim
        (λ (lt : 0 < hits c (up_to m (children_of w.forest n))).
        next-off c n m path way.2 (let j = hits-up_to c m (children_of w.forest n) in omega arith)
        (λ d. let j = not_up_to m (children_of w.forest n) in let l = subst (λ y. 0 < hits y (up_to m (children_of w.forest n))) d lt in omega arith) (z n (hits-first n (m ∷ path))))
        (λ (le : hits c (up_to m (children_of w.forest n)) ≤ 0). head-off offset n (m ∷ path) way.2 (λ x k. z x (omega arith)) c (omega arith))
        (cases_lt 0 (hits c (up_to m (children_of w.forest n))))

module _ (w : World) (sound : IsSound w) (range : Range) (is : IsRange w.forest range) where
  pub hs : 0 < occurs range.start.node w.forest
  hs = occurs-HasNode w.forest range.start.node is.starts.there

  pub he : 0 < occurs range.end.node w.forest
  he = occurs-HasNode w.forest range.end.node is.ends.there

  pub forked : IsFork w.forest sound.forest.once range.start.node range.end.node (common_of w range)
  forked = fork w.forest sound.forest.once range.start.node range.end.node hs he is.one_root

  pub common_there : 0 < occurs (common_of w range) w.forest
  common_there = forked.there

  start_clear : (x : ℕ) → 0 < hits x (start_path w range) → hits x (ancestors range.end.node w.forest) ≡ 0
  start_clear x h = not_among-hits x (ancestors range.end.node w.forest) (forked.off x h)

  pub top_start : 0 < hits (common_of w range) (ancestors range.start.node w.forest)
  top_start = way-above w.forest sound.forest.once (common_of w range) (start_path w range) range.start.node forked.there hs forked.first

  pub top_end : 0 < hits (common_of w range) (ancestors range.end.node w.forest)
  top_end = way-above w.forest sound.forest.once (common_of w range) (end_path w range) range.end.node forked.there he forked.second

  end_clear : (x : ℕ) → 0 < hits x (end_path w range) → hits x (ancestors range.start.node w.forest) ≡ 0
  end_clear x h = go (end_path w range) (start_path w range) forked.second forked.first start_clear h
    where
      go : (second first : List ℕ) → IsWay w.forest (common_of w range) second range.end.node → IsWay w.forest (common_of w range) first range.start.node → ((y : ℕ) → 0 < hits y first → hits y (ancestors range.end.node w.forest) ≡ 0) → 0 < hits x second → hits x (ancestors range.start.node w.forest) ≡ 0
      go [] first b a z h = absurd (omega arith)
      go (m ∷ ms) first b a z h = none-hit x (ancestors range.start.node w.forest) (λ l. clash first a z (higher l))
        where
          higher : 0 < hits x (ancestors range.start.node w.forest) → 0 < hits m (ancestors range.start.node w.forest)
          higher l =
              let a = above-twice w.forest sound.forest.once m x range.start.node hs l in
              let b = way-through w sound m ms range.end.node x b.2 in
              grind (arith, nat_tests)

          clash : (first : List ℕ) → IsWay w.forest (common_of w range) first range.start.node → ((y : ℕ) → 0 < hits y first → hits y (ancestors range.end.node w.forest) ≡ 0) → 0 < hits m (ancestors range.start.node w.forest) → ⊥
          clash [] a z l = let c = no_cycle w sound m (common_of w range) b.0 b.1 in let k = subst (λ y. 0 < hits m (ancestors y w.forest)) (sym a) l in omega arith
          clash (c ∷ cs) a z l =
              let on_end = way-above w.forest sound.forest.once m ms range.end.node b.0 he b.2 in
              let on_start = way-above w.forest sound.forest.once c cs range.start.node a.0 hs a.2 in
              let k = z c (hits-first c cs) in
              let s = sibling w sound m c (common_of w range) range.start.node b.0 a.0 hs b.1 a.1 in
              grind arith

  pub below-made : (n : ℕ) → 0 < occurs n w.forest → n < w.made
  below-made n k = let z = sound.forest.small n in grind arith

  -- each node of the ways is above an end
  way-over : (x : ℕ) → 0 < hits x (start_path w range ++ (common_of w range ∷ end_path w range)) → (0 < hits x (ancestors range.start.node w.forest)) ⊎ (0 < hits x (ancestors range.end.node w.forest))
  way-over x h =
      let i = hits-append x (start_path w range) (common_of w range ∷ end_path w range) in
      let a = path-above w sound (common_of w range) range.start.node x in
      let b = path-above w sound (common_of w range) range.end.node x in
      let c = top_start in
      grind (arith, nat_tests)

  pub ways-old : (x : ℕ) → w.made ≤ x → hits x (start_path w range ++ (common_of w range ∷ end_path w range)) ≡ 0
  ways-old x l =
      none-hit x (start_path w range ++ (common_of w range ∷ end_path w range))
      (λ h. let t : 0 < occurs x w.forest = ⊎_elim (λ (a : 0 < hits x (ancestors range.start.node w.forest)). path-there w.forest sound.forest.once range.start.node x a) (λ (b : 0 < hits x (ancestors range.end.node w.forest)). path-there w.forest sound.forest.once range.end.node x b) (way-over x h) in
      let z = sound.forest.small x l in omega arith)

  -- what is off both ways stands aside
  pub aside-off : (c : ℕ) → IsOff w sound range.start.node range.end.node c → IsAside w.made (start_path w range ++ (common_of w range ∷ end_path w range)) w c
  aside-off c k =
      let t = top_of None c w.forest sound.forest.once k.there in
      record {
        top = ap tops t.at ∙ ap (λ m. m ∷ []) t.named;
        far = each-occurs (λ x. (x < w.made) × (hits x (start_path w range ++ (common_of w range ∷ end_path w range)) ≡ 0)) (tree_at c w.forest) far;
        told = ap tree_shape t.at ∙ sym (shape-children 0 0 (node t.top t.kids empty)) ∙ ap shape (sym (tokens-own w.forest sound.forest.once (kinds-childless None w.forest sound.forest.kinds) c t)) ∙ ap shape (sym (append-nil (tokens_among c (token_texts no_marks w.forest))));
        tagged = stands-tags w (tree_at c w.forest) (stands-tree_at w c w.forest (stands-forest w sound));
        opens = ap tree_numbers t.at ∙ sym (opened_in-children 0 0 (node t.top t.kids empty)) ∙ ap opened_in (sym (tokens-own w.forest sound.forest.once (kinds-childless None w.forest sound.forest.kinds) c t)) ∙ ap opened_in (sym (append-nil (tokens_among c (token_texts no_marks w.forest))));
      }
    where
      far : (x : ℕ) → 0 < occurs x (tree_at c w.forest) → (x < w.made) × (hits x (start_path w range ++ (common_of w range ∷ end_path w range)) ≡ 0)
      far x h =
          let a = hits-ancestors c x w.forest sound.forest.once in
          let there : 0 < occurs x w.forest = (let b = total-tree_at (one_at x) c w.forest in omega arith) in (
            below-made x there,
            none-hit x (start_path w range ++ (common_of w range ∷ end_path w range))
                (λ l. ⊎_elim
                (λ (i : 0 < hits x (ancestors range.start.node w.forest)). let j = above-twice w.forest sound.forest.once c x range.start.node hs i (omega arith) in let z = k.start in omega arith)
                (λ (i : 0 < hits x (ancestors range.end.node w.forest)). let j = above-twice w.forest sound.forest.once c x range.end.node he i (omega arith) in let z = k.end in omega arith)
                (way-over x l)),
          )

  pub tail-aside : (c : ℕ) → 0 < hits c (tail_nodes w range.start.offset (start_path w range)) → IsAside w.made (start_path w range ++ (common_of w range ∷ end_path w range)) w c
  tail-aside c h = aside-off c (tail-off w sound range.start.node range.end.node hs he range.start.offset (common_of w range) (start_path w range) forked.first start_clear c h)

  pub head-aside : (c : ℕ) → 0 < hits c (head_nodes w range.end.offset (end_path w range)) → IsAside w.made (start_path w range ++ (common_of w range ∷ end_path w range)) w c
  head-aside c h =
      let k = head-off w sound range.end.node range.start.node he hs range.end.offset (common_of w range) (end_path w range) forked.second end_clear c h in
      aside-off c (record { there = k.there; start = k.end; end = k.start })

  pub contained-aside : (c : ℕ) → 0 < hits c (contained_children w range) → IsAside w.made (start_path w range ++ (common_of w range ∷ end_path w range)) w c
  contained-aside c h =
      let i = hits-filter c (contained_in w range) (children_of w.forest (common_of w range)) in
      let yes = (filter-passed (contained_in w range) (children_of w.forest (common_of w range)) c h).0 in
      aside-off c (record {
        there = child-there w.forest sound.forest.once c (common_of w range) (omega arith);
        start = none-hit c (ancestors range.start.node w.forest) (λ l. false≢true (sym (start-not_contained w.forest sound.forest.once unit_count range c hs l) ∙ yes));
        end = none-hit c (ancestors range.end.node w.forest) (λ l. false≢true (sym (end-not_contained w.forest sound.forest.once unit_count sound.forest.kinds range c he is.ends.within l) ∙ yes));
      })

  -- The ways stand apart, and no node stands twice on one.

  pub start-once : (x : ℕ) → hits x (start_path w range) ≤ 1
  start-once x = let a = path-above w sound (common_of w range) range.start.node x in let b = once-above w sound x range.start.node in omega arith

  pub end-once : (x : ℕ) → hits x (end_path w range) ≤ 1
  end-once x = let a = path-above w sound (common_of w range) range.end.node x in let b = once-above w sound x range.end.node in omega arith

  pub end-apart : (x : ℕ) → 0 < hits x (end_path w range) → hits x (start_path w range) ≡ 0
  end-apart x h = let a = path-above w sound (common_of w range) range.start.node x in let z = end_clear x h in omega arith

  pub common-off_start : hits (common_of w range) (start_path w range) ≡ 0
  common-off_start = path_without_top w.forest (common_of w range) range.start.node

  pub common-off_end : hits (common_of w range) (end_path w range) ≡ 0
  common-off_end = path_without_top w.forest (common_of w range) range.end.node
