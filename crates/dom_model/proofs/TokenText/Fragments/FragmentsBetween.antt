-- The fragment that extracting or cloning the contents of a live range makes holds what lies between the range's markers.
-- DOM Standard, "Interface Range": extractContents, cloneContents.
use Rattle.std.proofs.Common.{◌≡◌, ℕ, suc, ◌-◌, ◌<◌, ◌≤◌, ◌==◌, Bool, true, false, ◌||◌, if◌then◌else◌, List, [], ◌∷◌, ◌++◌, take, drop, length, Option, Some, None, refl, ap, sym, ◌∙◌, subst, arith, append-nil, length-drop, eq-eqb, map, replicate}
use Rattle.std.proofs.lemmas.{List.length-take-le, Bool.Decides.nat_tests}
use Rattle.dom_model.specs.Definitions.{hits, last_of, is_character_data, may_be_parent, Entry, parent_in, children_in, Node, Forest, empty, node, occurs, tops, entry_in, parent_of, children_of, root_of, substring, Content, Range, World, no_content, IsRange, IsSound, entry_has, kind_passes, node_document, named, data_of, is_collapsed, range_at, with_range, collapsed_at, for_range, is_in_one_data, new_place, new_fragment, units_into, parts_into, contents_drawn, check_draw, check_extract, extracted, extract, clone_contents, Token, Open, Close, no_marks, unit_tokens, texts_of, text_among, root_text, tokens_ahead, between, without_first, same_shape, are_units, fragment_shape, opened_in, opened_inside, InStep}
use Rattle.dom_model.specs.declared.Kind.TheVariants.{DocumentFragment}
use Rattle.dom_model.proofs.Forests.{Changes.seen, Changes.nothing, Changes.just, Climbing.hits-first, Entries.Lies-entry_in, Entries.occurs-HasNode, OneMoreRoot.entry-new, Paths.root-path}
use Rattle.dom_model.proofs.MutationAlgorithms.{Loosened.root-listed, Extending.tag_at}
use Rattle.dom_model.proofs.TokenText.{Marked.MarkedFirst.kinds-childless, EditsMade.EditsOfDrawnContents.sound-range, EditsMade.EditsOfDrawnContents.check-range, EditsMade.EditsOfDrawnContents.first, EditsMade.EditsOfDrawnContents.holds, EditsMade.EditsOfDrawnContents.start_data, EditsMade.EditsOfDrawnContents.start_within, EditsMade.EditsOfDrawnContents.second-too, Contents.TextsOfRoots.TreeOf, Contents.TextsOfRoots.tree_of_root, Contents.PartsByGaps.parts-by_gaps, Contents.DeletedInPlace.same-ends, Contents.WithinData.BothIn, Contents.WithinData.both-in, Contents.WithinData.end-fits, Contents.WithinData.in_order, Contents.WithinData.between-within, Contents.PathTokens.start_path, Contents.PathTokens.end_path, Contents.PathTokens.parts_tokens, Contents.PathShapes.opens_of, Contents.BetweenParts.between-parts, Fragments.Shapes.shape, Fragments.Shapes.shape-append, Fragments.Shapes.shape-same, Fragments.Shapes.shape-children, Fragments.Shapes.tree_shape, Fragments.OpensInStep.steps-right, Fragments.OpensInStep.steps-map, Fragments.OpensInStep.opened_in-children, Fragments.OpensInStep.tree_nodes, Fragments.OpensInStep.tree_numbers, Fragments.OpensInStep.numbers-nodes, Fragments.StandingTrees.tag_of, Fragments.StandingTrees.Stands, Fragments.StandingTrees.stands-lies, Fragments.StandingTrees.stands-shape, Fragments.StandingTrees.stands-numbers, Fragments.StandingTrees.stands-tags, Fragments.DrawnTrees.IsFrom, Fragments.DrawnTrees.TagFrom, Fragments.DrawnTrees.Drew, Fragments.DrawnTrees.drew-none, Fragments.DrawnCopies.units-drew, Fragments.DrawnParts.parts-drew, Fragments.MatchedParts.parts-shape}
use Rattle.dom_model.proofs.RangesAndContents.Drawing.{IsDrawing, passes_there}

-- The text of a root that holds trees.

module _ (v : World) (sound : IsSound v) (n : ℕ) (there : 0 < occurs n v.forest) (top : parent_of v.forest n ≡ None) (no_data : kind_passes is_character_data v.forest n ≡ false) where
  tree : TreeOf (entry_in v.forest) n v.forest
  tree =
      tree_of_root (entry_in v.forest) n v.forest sound.forest.once (Lies-entry_in v.forest sound.forest.once) (kinds-childless None v.forest sound.forest.kinds)
      (root-listed v.forest sound.forest.once n top there)

  top_there : 0 < occurs tree.top.number (node tree.top tree.kids empty)
  top_there = rw (eq-eqb tree.top.number tree.top.number refl) (omega arith)

  in_forest : 0 < occurs tree.top.number v.forest
  in_forest = occurs-HasNode v.forest tree.top.number (rw tree.entry refl)

  named_so : tree.top.number ≡ n
  named_so =
      let a = root-path v.forest sound.forest.once tree.top.number in_forest (ap (λ (o : Option (Entry (Node Content))). parent_in o) tree.entry) in
      let e : Some tree.top.number ≡ Some n = sym (ap last_of a) ∙ tree.inside tree.top.number top_there in
      cc e

  bare : is_character_data tree.top.label.kind ≡ false
  bare = sym (ap (entry_has is_character_data) tree.entry) ∙ ap (kind_passes is_character_data v.forest) named_so ∙ no_data

  listed : children_of v.forest n ≡ tops tree.kids
  listed = ap (children_of v.forest) (sym named_so) ∙ ap children_in tree.entry

  pub text-shape : (trees : Forest Content) → Stands v trees → children_of v.forest n ≡ tops trees → shape (root_text v.forest n) ≡ Open 0 ∷ (tree_shape trees ++ (Close ∷ []))
  text-shape trees s e =
      ap shape tree.text
      ∙ shape-children 0 0 (node tree.top tree.kids empty)
      ∙ (rw bare refl)
      ∙ ap (λ ts. Open 0 ∷ (ts ++ (Close ∷ []))) (stands-shape v tree.kids trees (stands-lies v (Some tree.top.number) tree.kids tree.lies) s (sym listed ∙ e))

  -- and its opens but the root's
  pub text-numbers : (trees : Forest Content) → Stands v trees → children_of v.forest n ≡ tops trees → opened_inside (root_text v.forest n) ≡ tree_numbers trees
  text-numbers trees s e =
      ap (λ ts. without_first (opened_in ts)) tree.text
      ∙ ap without_first (opened_in-children 0 0 (node tree.top tree.kids empty))
      ∙ (rw bare (append-nil (tree_numbers tree.kids)))
      ∙ stands-numbers v tree.kids trees (stands-lies v (Some tree.top.number) tree.kids tree.lies) s (sym listed ∙ e)

-- a node of the second forest has the label and the attributes of one of the first
abbrev pub TaggedAs : Forest Content → Forest Content → ℕ → ℕ → Type 0
TaggedAs f g n m = tag_at g m ≡ tag_at f n

-- opens that stand in front, by their shape
shape-opens : (path : List ℕ) (ts : List Token) → shape (opens_of path ++ ts) ≡ shape (replicate (length path) (Open 0) ++ ts)
shape-opens [] ts = refl
shape-opens (n ∷ path) ts = ap (λ us. Open 0 ∷ us) (shape-opens path ts)

-- ends in one node that are not one point
apart-ends : (range : Range) → range.start.node ≡ range.end.node → is_collapsed range ≡ false → range.start.offset ≤ range.end.offset → range.start.offset < range.end.offset
apart-ends range one wide le = grind (arith, nat_tests)

-- nothing is between ends that are one point
pub between-none : (w : World) → IsSound w → (range : Range) (r root : ℕ) → range_at w r ≡ Some range → root_of w.forest range.start.node ≡ Some root → is_collapsed range ≡ true → between r (text_among root (texts_of w)) ≡ []
between-none w sound range r root h rooted one =
    let p = parts-by_gaps w r root range sound h rooted in
    let e : Some p.a ≡ Some p.b = sym p.starts ∙ ap (λ q. tokens_ahead q [] (root_text w.forest root)) (same-ends range one) ∙ p.ends in
    let d : p.a ≡ p.b = cc e in
    let z : p.b - p.a ≡ 0 = omega arith in
    p.inside ∙ ap (λ k. take k (drop p.a (root_text w.forest root))) z

pub units-are : (n i : ℕ) (us : List ℕ) → are_units (unit_tokens no_marks n i us) ≡ true
units-are n i [] = refl
units-are n i (u ∷ us) = units-are n (suc i) us

-- The fragment of a drawing.

module _ (w : World) (sound : IsSound w) (range : Range) (is : IsRange w.forest range) where
  abbrev grown : World
  grown = new_fragment (node_document w range.start.node) w

  abbrev fragment : Node Content
  fragment = record { number = w.made; document = node_document w range.start.node; label = named DocumentFragment []; body = no_content }

  pub begins : IsDrawing w.made grown
  begins = (first w sound range is).drawing

  fragment_entry : entry_in grown.forest w.made ≡ Some (record { value = fragment; parent = None; children = [] })
  fragment_entry = entry-new w.forest sound.forest.once fragment (sound.forest.small w.made (omega arith))

  fragment_there : 0 < occurs w.made grown.forest
  fragment_there = passes_there may_be_parent grown.forest w.made (holds w sound range is).kind

  module _ (moves : Bool) (bad touched : List ℕ) (u : World) (ts : List Token) (d : Drew w moves w.made bad touched grown u w.made ts) where
    fragment_root : parent_of u.forest w.made ≡ None
    fragment_root =
        elim (seen (parent_of u.forest w.made)) [
          | nothing e ↦ e
          | just q e ↦ absurd (let i = d.drawing.rising w.made q (omega arith) e in let a = i.0 in let b = i.1 in omega arith)
        ]

    fragment_bare : kind_passes is_character_data u.forest w.made ≡ false
    fragment_bare = d.extends.kinds is_character_data w.made fragment_there ∙ ap (entry_has is_character_data) fragment_entry

    fragment_children : children_of u.forest w.made ≡ tops d.trees
    fragment_children = d.added ∙ ap (λ ns. ns ++ tops d.trees) (ap children_in fragment_entry)

    -- the fragment has the shape of what was drawn
    drawn-shape : shape (root_text u.forest w.made) ≡ Open 0 ∷ (shape ts ++ (Close ∷ []))
    drawn-shape =
        text-shape u d.drawing.sound w.made (d.extends.there w.made fragment_there) fragment_root fragment_bare d.trees d.stands fragment_children
        ∙ ap (λ us. Open 0 ∷ (us ++ (Close ∷ []))) d.shaped

    drawn-numbers : map (λ (x : Node Content). x.number) (tree_nodes d.trees) ≡ opened_inside (root_text u.forest w.made)
    drawn-numbers = numbers-nodes d.trees ∙ sym (text-numbers u d.drawing.sound w.made (d.extends.there w.made fragment_there) fragment_root fragment_bare d.trees d.stands fragment_children)

    -- and its opens are in step with those of what was drawn
    pub drawn-steps : InStep (IsFrom moves w.made bad) (opened_in ts) (opened_inside (root_text u.forest w.made))
    drawn-steps =
        subst (λ ns. InStep (IsFrom moves w.made bad) (opened_in ts) ns) drawn-numbers
        (steps-map (IsFrom moves w.made bad) (λ (x : Node Content). x.number) (opened_in ts) (tree_nodes d.trees) d.steps)

    -- with the labels and attributes of the nodes that they stand for
    pub drawn-tags : InStep (TaggedAs w.forest u.forest) (opened_in ts) (opened_inside (root_text u.forest w.made))
    drawn-tags =
        subst (λ ns. InStep (TaggedAs w.forest u.forest) (opened_in ts) ns) drawn-numbers
        (steps-map (TaggedAs w.forest u.forest) (λ (x : Node Content). x.number) (opened_in ts) (tree_nodes d.trees)
        (steps-right (TagFrom w) (λ n x. TaggedAs w.forest u.forest n x.number) (λ (x : Node Content). tag_at u.forest x.number ≡ tag_of x) (opened_in ts) (tree_nodes d.trees) (λ n x i j. i ∙ sym j) (stands-tags u d.trees d.stands) d.tagged))

  module _ (r root : ℕ) (h : range_at w r ≡ Some range) (rooted : root_of w.forest range.start.node ≡ Some root) (moves : Bool) where
    abbrev wanted : List Token
    wanted = shape (fragment_shape (between r (text_among root (texts_of w))))

    -- a range whose ends are one point
    of_none : is_collapsed range ≡ true → shape (root_text grown.forest w.made) ≡ wanted
    of_none one =
        let none = between-none w sound range r root h rooted one in
        drawn-shape moves [] [] grown [] (drew-none w moves w.made [] [] grown w.made begins) ∙ sym (ap (λ ts. shape (fragment_shape ts)) none)

    -- one within a node with data
    one_node-shape : (n : ℕ) (us : List ℕ) → 0 < length us → fragment_shape (unit_tokens no_marks n 0 us) ≡ Open 0 ∷ ((Open 0 ∷ (unit_tokens no_marks n 0 us ++ (Close ∷ []))) ++ (Close ∷ []))
    one_node-shape n [] l = absurd (omega arith)
    one_node-shape n (u ∷ us) l = rw (units-are n 1 us) refl

    one_old : (x : ℕ) → w.made ≤ x → hits x (range.start.node ∷ []) ≡ 0
    one_old x l =
        let z = sound.forest.small x l in
        let i = occurs-HasNode w.forest range.start.node is.starts.there in
        grind (arith, nat_tests)

    pub units-came : is_in_one_data w range ≡ true → Drew w moves w.made (range.start.node ∷ []) (range.start.node ∷ []) grown (units_into moves w.made range.start.node range.start.offset (range.end.offset - range.start.offset) grown) w.made (Open range.start.node ∷ (unit_tokens no_marks range.start.node 0 (substring range.start.offset (range.end.offset - range.start.offset) (data_of grown range.start.node)) ++ (Close ∷ [])))
    units-came one =
        let has = second-too (range.start.node == range.end.node) (kind_passes is_character_data w.forest range.start.node) one in
        let g = (first w sound range is).extends in
        let hs = occurs-HasNode w.forest range.start.node is.starts.there in
        units-drew w.made (range.start.node ∷ []) one_old w.made range.start.node range.start.offset (range.end.offset - range.start.offset) grown begins (holds w sound range is) (g.kinds is_character_data range.start.node hs ∙ has) (start_within w sound range is (g.kinds is_character_data range.start.node hs ∙ has)) (hits-first range.start.node []) w (sym (g.tags range.start.node hs)) moves

    -- the units between its ends are some
    pub units-some : is_collapsed range ≡ false → is_in_one_data w range ≡ true → 0 < length (take (range.end.offset - range.start.offset) (drop range.start.offset (data_of w range.start.node)))
    units-some wide one =
        let both = both-in w range one in
        let i = in_order w r root range sound h rooted both in
        let j = end-fits w r root range sound h rooted both in
        let k = length-drop range.start.offset (data_of w range.start.node) in
        let l = length-take-le (range.end.offset - range.start.offset) (drop range.start.offset (data_of w range.start.node)) (omega arith) in
        let ne = apart-ends range both.one wide i in
        omega arith

    of_units : is_collapsed range ≡ false → is_in_one_data w range ≡ true → shape (root_text (units_into moves w.made range.start.node range.start.offset (range.end.offset - range.start.offset) grown).forest w.made) ≡ wanted
    of_units wide one =
        drawn-shape moves (range.start.node ∷ []) (range.start.node ∷ []) _ _ (units-came one)
        ∙ ap (λ (us : List ℕ). Open 0 ∷ (shape (Open range.start.node ∷ (unit_tokens no_marks range.start.node 0 (take (range.end.offset - range.start.offset) (drop range.start.offset us)) ++ (Close ∷ []))) ++ (Close ∷ []))) (start_data w sound range is)
        ∙ ap (λ ts. Open 0 ∷ ts) (sym (shape-append (Open range.start.node ∷ (unit_tokens no_marks range.start.node 0 units ++ (Close ∷ []))) (Close ∷ [])))
        ∙ sym (ap shape (one_node-shape range.start.node units (units-some wide one)))
        ∙ sym (ap (λ ts. shape (fragment_shape ts)) (between-within w r root range sound h rooted both))
      where
        units : List ℕ
        units = take (range.end.offset - range.start.offset) (drop range.start.offset (data_of w range.start.node))

        both : BothIn w range
        both = both-in w range one

    -- any other
    of_parts : is_collapsed range ≡ false → is_in_one_data w range ≡ false → check_draw w range ≡ None → shape (root_text (parts_into moves w.made range grown).forest w.made) ≡ wanted
    of_parts wide two no_doctype =
        drawn-shape moves _ _ _ _ (parts-drew w sound range is no_doctype moves)
        ∙ ap (λ ts. Open 0 ∷ (ts ++ (Close ∷ []))) (shape-opens (start_path w range) (parts_tokens w range ++ replicate (length (end_path w range)) Close))
        ∙ ap (λ ts. Open 0 ∷ ts) (sym (shape-append (replicate (length (start_path w range)) (Open 0) ++ (parts_tokens w range ++ replicate (length (end_path w range)) Close)) (Close ∷ [])))
        ∙ sym (ap shape (parts-shape w sound range is))
        ∙ sym (ap (λ ts. shape (fragment_shape ts)) (between-parts w r root range sound h rooted wide two))

    drawn-between : check_draw w range ≡ None → shape (root_text (contents_drawn moves range w).forest w.made) ≡ wanted
    drawn-between no_doctype = go (is_collapsed range) (is_in_one_data w range) refl refl
      where
        go : (a b : Bool) → is_collapsed range ≡ a → is_in_one_data w range ≡ b → shape (root_text (if a then grown else if b then units_into moves w.made range.start.node range.start.offset (range.end.offset - range.start.offset) grown else parts_into moves w.made range grown).forest w.made) ≡ wanted
        go true b e d = of_none e
        go false true e d = of_units e d
        go false false e d = of_parts e d no_doctype

-- the forests that cloning and extracting the contents leave

pub cloned-forest : (w : World) (r : ℕ) (range : Range) → range_at w r ≡ Some range → (clone_contents r w).forest ≡ (contents_drawn false range w).forest
cloned-forest w r range h = ap (λ (o : Option Range). (for_range o w (λ x. contents_drawn false x w)).forest) h

pub extracted-forest : (w : World) (r : ℕ) (range : Range) → range_at w r ≡ Some range → (extract r w).forest ≡ (contents_drawn true range w).forest
extracted-forest w r range h = ap (λ (o : Option Range). (for_range o w (λ x. extracted r x w)).forest) h ∙ go (is_collapsed range || is_in_one_data w range)
  where
    go : (v : Bool) → (if v then contents_drawn true range w else with_range r (collapsed_at (new_place w.forest range)) (contents_drawn true range w)).forest ≡ (contents_drawn true range w).forest
    go true = refl
    go false = refl

-- clone the contents
pub cloned-between : (w : World) (r root : ℕ) (range : Range) → IsSound w → range_at w r ≡ Some range → root_of w.forest range.start.node ≡ Some root → check_extract r w ≡ None →
    same_shape (root_text (clone_contents r w).forest w.made) (fragment_shape (between r (text_among root (texts_of w)))) ≡ true
cloned-between w r root range sound h rooted fits =
    let is = sound-range w r range sound h in
    let e = drawn-between w sound range is r root h rooted false (check-range w r range h fits) in
    shape-same (root_text (clone_contents r w).forest w.made) (fragment_shape (between r (text_among root (texts_of w)))) (ap (λ f. shape (root_text f w.made)) (cloned-forest w r range h) ∙ e)

-- extract
pub extracted-between : (w : World) (r root : ℕ) (range : Range) → IsSound w → range_at w r ≡ Some range → root_of w.forest range.start.node ≡ Some root → check_extract r w ≡ None →
    same_shape (root_text (extract r w).forest w.made) (fragment_shape (between r (text_among root (texts_of w)))) ≡ true
extracted-between w r root range sound h rooted fits =
    let is = sound-range w r range sound h in
    let e = drawn-between w sound range is r root h rooted true (check-range w r range h fits) in
    shape-same (root_text (extract r w).forest w.made) (fragment_shape (between r (text_among root (texts_of w)))) (ap (λ f. shape (root_text f w.made)) (extracted-forest w r range h) ∙ e)
