-- The contents of a range that is not within one node with data come into a fragment with the tokens between its ends, all pairs matched.
-- DOM Standard, "Interface Range": extract, clone the contents.
use Rattle.std.proofs.Common.{◌≡◌, ℕ, ◌<◌, ◌≤◌, Bool, List, [], ◌∷◌, ◌++◌, length, None, Some, refl, ap, sym, ◌∙◌, subst, arith, append_assoc, replicate, reverse}
use Rattle.std.proofs.lemmas.Bool.Decides.{nat_tests}
use Rattle.dom_model.specs.Definitions.{hits, up_to, Forest, empty, node, occurs, tree_at, parent_of, children_of, ancestors, Content, Range, World, no_content, IsRange, IsSound, node_document, named, new_fragment, common_of, path_below, contained_in, contained_children, children_into, tail_into, head_into, parts_into, check_draw, Token, Close, opened_in, tail_nodes, head_nodes}
use Rattle.dom_model.specs.declared.Kind.TheVariants.{DocumentFragment}
use Rattle.dom_model.proofs.PlainLists.Numbers.{same_or, same, apart}
use Rattle.dom_model.proofs.Forests.Climbing.{hits-append, hits-first}
use Rattle.dom_model.proofs.Soundness.{SoundWorlds.child_there, SoundDeleting.offset_of_start}
use Rattle.dom_model.proofs.RangesAndContents.{Drawing.IsDrawing, Drawing.Extends, Drawing.extends-then, Drawing.passes_there, Drawing.IsHolder, Drawing.holder-extends, DrawnPieces.is_drawn, DrawnPieces.IsDrawable, DrawnPaths.ArePath, DrawnPaths.IsWithin, DrawnPaths.hits-filter, PathsToEnds.path-within, PathsToEnds.path-down}
use Rattle.dom_model.proofs.TokenText.{Fragments.MatchedParts.contained_there, EditsMade.EditsOfDrawnContents.at_start, EditsMade.EditsOfDrawnContents.first, EditsMade.EditsOfDrawnContents.holds, EditsMade.EditsOfDrawnContents.same_ancestors, EditsMade.EditsOfDrawnContents.common-same, EditsMade.EditsOfDrawnContents.contained_children-same, EditsMade.EditsOfDrawnContents.contained_drawable, Contents.PathTokens.nodes_tokens, Contents.PathTokens.tail_tokens, Contents.PathTokens.head_tokens, Contents.PathTokens.start_path, Contents.PathTokens.end_path, Contents.PathTokens.parts_tokens, Contents.PathShapes.opens_of, Fragments.Shapes.shape, Fragments.StandingTrees.Stands, Fragments.StandingTrees.Keeps, Fragments.SteppedTrees.stands-tree_at, Fragments.SteppedTrees.stands-forest, Fragments.SteppedTrees.keeps-copies, Fragments.DrawnTrees.Drew, Fragments.DrawnTrees.drew-as, Fragments.DrawnTrees.AreOld, Fragments.DrawnTrees.drew-then, Fragments.DrawnNodes.IsAside, Fragments.DrawnNodes.old-one, Fragments.DrawnTails.IsReady, Fragments.DrawnTails.old-ones, Fragments.DrawnTails.aside-stands, Fragments.DrawnTails.ready-later, Fragments.DrawnTails.some-drew, Fragments.DrawnTails.tail-drew, Fragments.DrawnTails.head-drew, Fragments.NodesAside.hs, Fragments.NodesAside.he, Fragments.NodesAside.top_start, Fragments.NodesAside.top_end, Fragments.NodesAside.common_there, Fragments.NodesAside.below-made, Fragments.NodesAside.ways-old, Fragments.NodesAside.tail-aside, Fragments.NodesAside.head-aside, Fragments.NodesAside.contained-aside, Fragments.NodesAside.start-once, Fragments.NodesAside.end-once, Fragments.NodesAside.end-apart, Fragments.NodesAside.common-off_start, Fragments.NodesAside.common-off_end}

path-drawable : (low : ℕ) (v : World) (path : List ℕ) → ArePath low v path → (n : ℕ) → 0 < hits n path → IsDrawable low v n
path-drawable low v [] p n h = absurd (omega arith)
path-drawable low v (m ∷ []) p n h = elim (same_or m n) [ same e t ↦ subst (λ x. IsDrawable low v x) e p | apart ne t ↦ absurd (let k = rw t at h in omega arith) ]
path-drawable low v (m ∷ l ∷ path) p n h =
    elim (same_or m n) [
      | same e t ↦ subst (λ x. IsDrawable low v x) e p.0
      | apart ne t ↦ (let k = rw t at h in path-drawable low v (l ∷ path) p.2 n (omega arith))
    ]

module _ (w : World) (sound : IsSound w) (range : Range) (is : IsRange w.forest range) where
  abbrev grown : World
  grown = new_fragment (node_document w range.start.node) w

  abbrev new_node : Forest Content
  new_node = node (record { number = 0; document = node_document w range.start.node; label = named DocumentFragment []; body = no_content }) empty empty

  abbrev bad : List ℕ
  bad = start_path w range ++ (common_of w range ∷ end_path w range)

  old : (x : ℕ) → w.made ≤ x → hits x bad ≡ 0
  old = ways-old w sound range is

  start : IsDrawing w.made w
  start = at_start w sound range is

  begins : IsDrawing w.made grown
  begins = (first w sound range is).drawing

  grows : Extends w grown
  grows = (first w sound range is).extends

  into_holds : IsHolder w.made grown w.made
  into_holds = holds w sound range is

  kept : (x : ℕ) → 0 < occurs x w.forest → Keeps w grown x
  kept = keeps-copies (node_document w range.start.node) new_node w

  old_child : (c q : ℕ) → parent_of w.forest c ≡ Some q → c < w.made
  old_child c q e = below-made w sound range is c (child_there w.forest c q e)

  start_down : ArePath w.made w (start_path w range)
  start_down = path-down w.made w sound old_child (common_of w range) range.start.node (hs w sound range is) is.starts.kind (top_start w sound range is)

  end_down : ArePath w.made w (end_path w range)
  end_down = path-down w.made w sound old_child (common_of w range) range.end.node (he w sound range is) is.ends.kind (top_end w sound range is)

  within : IsWithin range.start.offset w (start_path w range)
  within = path-within w (common_of w range) range.start.node range.start.offset (hs w sound range is) (offset_of_start w range is)

  none_touched : AreOld w.made bad []
  none_touched = record { old = old; within = λ x z. refl }

  start_in : (n : ℕ) → 0 < hits n (start_path w range) → 0 < hits n bad
  start_in n h = let i = hits-append n (start_path w range) (common_of w range ∷ end_path w range) in omega arith

  end_in : (n : ℕ) → 0 < hits n (end_path w range) → 0 < hits n bad
  end_in n h = let i = hits-append n (start_path w range) (common_of w range ∷ end_path w range) in omega arith

  common_in : 0 < hits (common_of w range) bad
  common_in =
      let i = hits-append (common_of w range) (start_path w range) (common_of w range ∷ end_path w range) in
      let j = hits-first (common_of w range) (end_path w range) in
      omega arith

  -- trees aside stand in the grown world
  stand : (c : ℕ) → IsAside w.made bad w c → Stands grown (tree_at c w.forest)
  stand c a = aside-stands w.made bad [] none_touched w w grown w.made (omega arith) grows (λ y t ne z. kept y t) c a (stands-tree_at w c w.forest (stands-forest w sound))

  -- a path and the nodes beside it, as the drawing starts
  ready : (path beside : List ℕ) → ((n : ℕ) → 0 < hits n path → 0 < hits n bad) → ((n : ℕ) → hits n path ≤ 1) → ArePath w.made w path → ((c : ℕ) → 0 < hits c beside → IsAside w.made bad w c) → IsReady w.made bad w grown path beside
  ready path beside in_bad once down aside = record {
    in_bad = in_bad;
    once = once;
    drawable = path-drawable w.made w path down;
    keeps = λ n h. let d = path-drawable w.made w path down n h in kept n (passes_there is_drawn w.forest n d.kind);
    aside = aside;
    stands = λ c h. stand c (aside c h);
  }

  start_ready : IsReady w.made bad w grown (start_path w range) (tail_nodes w range.start.offset (start_path w range))
  start_ready =
      ready (start_path w range) (tail_nodes w range.start.offset (start_path w range)) start_in (start-once w sound range is) start_down (tail-aside w sound range is)

  end_ready : IsReady w.made bad w grown (end_path w range) (head_nodes w range.end.offset (end_path w range))
  end_ready =
      ready (end_path w range) (head_nodes w range.end.offset (end_path w range)) end_in (end-once w sound range is) end_down (head-aside w sound range is)

  path-same : (n : ℕ) → 0 < occurs n w.forest → path_below grown.forest (common_of grown range) n ≡ path_below w.forest (common_of w range) n
  path-same n h =
      ap (λ ns. reverse (up_to (common_of grown range) ns)) (same_ancestors w sound range is n h)
      ∙ ap (λ m. reverse (up_to m (ancestors n w.forest))) (common-same w sound range is)

  module _ (no_doctype : check_draw w range ≡ None) (moves : Bool) where
    abbrev opens : List Token
    opens = opens_of (start_path w range)

    abbrev closes : List Token
    closes = replicate (length (end_path w range)) Close

    abbrev after_tail : World
    after_tail = tail_into moves w.made range.start.offset (start_path w range) grown

    abbrev after_children : World
    after_children = children_into moves w.made (contained_children w range) after_tail

    abbrev after_head : World
    after_head = head_into moves w.made range.end.offset (end_path w range) after_children

    tail_came : Drew w moves w.made bad (start_path w range) grown after_tail w.made (opens ++ tail_tokens w range.start.offset (start_path w range))
    tail_came = tail-drew w.made bad old w start moves range.start.offset (start_path w range) w.made grown begins grows into_holds start_down within start_ready

    to_tail : Extends w after_tail
    to_tail = extends-then w grown after_tail grows tail_came.extends

    child_drawable : (c : ℕ) → 0 < hits c (contained_children w range) → IsDrawable w.made w c
    child_drawable c h =
        let k = contained_drawable w sound range is no_doctype c (subst (λ ns. 0 < hits c ns) (sym (contained_children-same w sound range is)) h) in
        record { old = k.old; kind = sym (grows.kinds is_drawn c (contained_there w sound range is c h)) ∙ k.kind }

    common_kept : children_of after_tail.forest (common_of w range) ≡ children_of w.forest (common_of w range)
    common_kept =
        let h = common_there w sound range is in
        let l = below-made w sound range is (common_of w range) h in
        let a = kept (common_of w range) h in
        let b = tail_came.keeps (common_of w range) (grows.there (common_of w range) h) (λ e. omega arith) (common-off_start w sound range is) in
        b.children ∙ a.children

    children_came : Drew w moves w.made bad (common_of w range ∷ []) after_tail after_children w.made (nodes_tokens w.forest (contained_children w range))
    children_came =
        some-drew w.made bad old w start moves (common_of w range) (contained_children w range) (below-made w sound range is (common_of w range) (common_there w sound range is)) common_in
        (λ c. hits-filter c (contained_in w range) (children_of w.forest (common_of w range))) child_drawable (contained-aside w sound range is) w.made after_tail tail_came.drawing to_tail (holder-extends w.made grown after_tail w.made tail_came.extends into_holds) common_kept
        (λ c h. let a = contained-aside w sound range is c h in aside-stands w.made bad (start_path w range) (old-ones w.made bad (start_path w range) old start_in) w grown after_tail w.made (omega arith) tail_came.extends tail_came.keeps c a (stand c a))

    to_children : Extends grown after_children
    to_children = extends-then grown after_tail after_children tail_came.extends children_came.extends

    head_ready : IsReady w.made bad w after_children (end_path w range) (head_nodes w range.end.offset (end_path w range))
    head_ready =
        ready-later w.made bad (common_of w range ∷ []) (old-one w.made bad old (common_of w range) common_in) w after_tail after_children w.made (omega arith) to_tail children_came.extends children_came.keeps (end_path w range) (head_nodes w range.end.offset (end_path w range)) (end_path w range) (head_nodes w range.end.offset (end_path w range)) (λ n. omega arith) far (λ n. omega arith)
        (ready-later w.made bad (start_path w range) (old-ones w.made bad (start_path w range) old start_in) w grown after_tail w.made (omega arith) grows tail_came.extends tail_came.keeps (end_path w range) (head_nodes w range.end.offset (end_path w range)) (end_path w range) (head_nodes w range.end.offset (end_path w range)) (λ n. omega arith) (end-apart w sound range is) (λ n. omega arith) end_ready)
      where
        far : (n : ℕ) → 0 < hits n (end_path w range) → hits n (common_of w range ∷ []) ≡ 0
        far n h = let z = common-off_end w sound range is in grind (arith, nat_tests)

    head_came : Drew w moves w.made bad (end_path w range) after_children after_head w.made (head_tokens w range.end.offset (end_path w range) ++ closes)
    head_came =
        head-drew w.made bad old w start moves range.end.offset (end_path w range) w.made after_children children_came.drawing (extends-then w grown after_children grows to_children) (holder-extends w.made grown after_children w.made to_children into_holds) end_down head_ready

    five : (a b c d e : List Token) → (a ++ b) ++ (c ++ (d ++ e)) ≡ a ++ ((b ++ (c ++ d)) ++ e)
    five a b c d e = simp append_assoc

    parts-same : after_head ≡ parts_into moves w.made range grown
    parts-same =
        sym (ap (λ ns. head_into moves w.made range.end.offset ns (children_into moves w.made (contained_children grown range) (tail_into moves w.made range.start.offset (path_below grown.forest (common_of grown range) range.start.node) grown))) (path-same range.end.node (he w sound range is))
        ∙ ap (λ ns. head_into moves w.made range.end.offset (end_path w range) (children_into moves w.made ns (tail_into moves w.made range.start.offset (path_below grown.forest (common_of grown range) range.start.node) grown))) (contained_children-same w sound range is)
        ∙ ap (λ ns. head_into moves w.made range.end.offset (end_path w range) (children_into moves w.made (contained_children w range) (tail_into moves w.made range.start.offset ns grown))) (path-same range.start.node (hs w sound range is)))

    pub parts-drew : Drew w moves w.made bad bad grown (parts_into moves w.made range grown) w.made (opens_of (start_path w range) ++ (parts_tokens w range ++ replicate (length (end_path w range)) Close))
    parts-drew =
        let less : w.made < grown.made = omega arith in
        let m1 = tail_came.extends.made in
        subst (λ u. Drew w moves w.made bad bad grown u w.made (opens ++ (parts_tokens w range ++ closes))) parts-same
        (drew-as w moves w.made bad bad bad grown after_head w.made _ (opens ++ (parts_tokens w range ++ closes)) (ap shape (five opens (tail_tokens w range.start.offset (start_path w range)) (nodes_tokens w.forest (contained_children w range)) (head_tokens w range.end.offset (end_path w range)) closes)) (ap opened_in (five opens (tail_tokens w range.start.offset (start_path w range)) (nodes_tokens w.forest (contained_children w range)) (head_tokens w range.end.offset (end_path w range)) closes)) (λ x z. z)
        (drew-then w moves w.made bad (start_path w range) (common_of w range ∷ end_path w range) (old-ones w.made bad (common_of w range ∷ end_path w range) old rest_in) grown after_tail after_head w.made (opens ++ tail_tokens w range.start.offset (start_path w range)) (nodes_tokens w.forest (contained_children w range) ++ (head_tokens w range.end.offset (end_path w range) ++ closes)) (omega arith) less (omega arith) tail_came
        (drew-then w moves w.made bad (common_of w range ∷ []) (end_path w range) (old-ones w.made bad (end_path w range) old end_in) after_tail after_children after_head w.made (nodes_tokens w.forest (contained_children w range)) (head_tokens w range.end.offset (end_path w range) ++ closes) (omega arith) (omega arith) (omega arith) children_came head_came)))
      where
        rest_in : (n : ℕ) → 0 < hits n (common_of w range ∷ end_path w range) → 0 < hits n bad
        rest_in n h = let i = hits-append n (start_path w range) (common_of w range ∷ end_path w range) in omega arith
