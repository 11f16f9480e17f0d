-- The edits of extracting and of cloning the contents of a live range leave what these leave, and the contents that are drawn leave a sound
-- world. DOM Standard, "Interface Range": extractContents, cloneContents.
use Rattle.std.proofs.Common.{◌≡◌, ℕ, ◌+◌, ◌-◌, ◌<◌, ◌≤◌, ◌==◌, Bool, true, false, ◌&&◌, ◌||◌, if◌then◌else◌, List, [], ◌∷◌, length, filter, Option, Some, None, is_some, unwrap_or, refl, ap, sym, ◌∙◌, subst, arith, inl, inr}
use Rattle.std.proofs.lemmas.Bool.{cases_lt, false≢true, or_parts}
use Rattle.std.specs.List.{list_any}
use Rattle.dom_model.specs.Definitions.{hits, among, head_of, first_refusal, is_same, is_kind, is_character_data, may_be_parent, Node, empty, node, occurs, entry_in, parent_of, children_of, ancestors, root_of, Content, Range, World, no_content, order_of, has_kind, entry_has, kind_passes, is_of_kind, node_document, unit_count, node_length, named, data_of, is_collapsed, is_less, range_at, collapsed_at, with_range, for_range, is_in_one_data, new_place, new_fragment, common_of, path_below, contained_in, contained_children, units_into, children_into, tail_into, parts_into, contents_drawn, check_draw, check_extract, extracted, extract, clone_contents, point, Trace, doing_fragment, doing_units, doing_children, doing_tail, doing_head, doing_parts, doing_ends, drawn_trace, extracted_trace, extract_edits, clone_contents_edits, IsRange, IsSound}
use Rattle.dom_model.specs.declared.{DomError.TheVariants.HierarchyRequestError, Kind.Kind, Kind.TheVariants.DocumentType, Kind.TheVariants.DocumentFragment}
use Rattle.dom_model.proofs.PlainLists.Numbers.{same_or, same, apart}
use Rattle.dom_model.proofs.Forests.{Entries.occurs-HasNode, Indices.child-parent, Indices.child-there, OneMoreRoot.more-once, OneMoreRoot.entry-more, OneMoreRoot.entry-new, OneMoreRoot.children-more, OneMoreRoot.root-more, OneMoreRoot.order-more}
use Rattle.dom_model.proofs.Worlds.{Measured.length-beside, Parts.ancestors-part, Parts.path-there}
use Rattle.dom_model.proofs.Soundness.{SoundWorlds.IsLive, SoundWorlds.child_there, SoundRangeSteps.live_range, SoundDeleting.offset_of_start, SoundContents.sound-extracted}
use Rattle.dom_model.proofs.DataAndCopies.CopiesPlaced.{parent-copies}
use Rattle.dom_model.proofs.RangesAndContents.{LiveRangesKept.is_live, LiveRangesKept.live-there, Drawing.IsDrawing, Drawing.data-copies, Drawing.extends-then, Drawing.Draws, Drawing.draws-none, Drawing.draws-then, Drawing.draws-as, Drawing.passes_there, Drawing.IsHolder, Drawing.holder-extends, DrawnPieces.is_drawn, DrawnPieces.IsDrawable, DrawnPieces.drawable-extends, DrawnPieces.draws-fragment, DrawnPieces.draws-units, DrawnPieces.draws-children, DrawnPaths.ArePath, DrawnPaths.path-extends, DrawnPaths.kind-drawn, DrawnPaths.hits-filter, DrawnPaths.draws-tail, DrawnPaths.draws-head, PathsToEnds.common-above, PathsToEnds.path-down, PathsToEnds.path-within}
use Rattle.dom_model.proofs.TokenText.{EditsMade.EditsOfSteps.range-of_sound, EditsMade.EditsLeave.Leave, EditsMade.EditsLeave.leave-none, EditsMade.EditsLeave.Comes, EditsMade.EditsLeave.comes-then, EditsMade.EditsOfDeletedContents.follows-ends}
use Rattle.dom_model.proofs.MutationAlgorithms.ChecksKept.{filter-same}

-- A live range of a sound world is in order.

pub sound-range : (w : World) (r : ℕ) (range : Range) → IsSound w → range_at w r ≡ Some range → IsRange w.forest range
sound-range w r range s e = subst (IsLive w.forest) e (live_range w s r)

-- Lists and tests.

hits-passing : (n : ℕ) (test : ℕ → Bool) (ns : List ℕ) → list_any test ns ≡ false → 0 < hits n ns → test n ≡ false
hits-passing n test [] e h = absurd (omega arith)
hits-passing n test (m ∷ ns) e h =
    let p = or_parts (test m) (list_any test ns) e in
    elim (same_or m n) [ same d s ↦ ap test (sym d) ∙ p.0 | apart ne s ↦ hits-passing n test ns p.1 (let j = rw s at h in omega arith) ]

no_refusal : (b : Bool) → first_refusal ((b, HierarchyRequestError) ∷ []) ≡ None → b ≡ false
no_refusal true h = absurd (let k : Some HierarchyRequestError ≡ None = h in cc k)
no_refusal false h = refl

pub second-too : (a b : Bool) → (a && b) ≡ true → b ≡ true
second-too true b h = h
second-too false b h = absurd (false≢true h)

-- A new fragment beside the trees.

module _ (w : World) (s : IsSound w) (range : Range) (h : IsRange w.forest range) where
  abbrev document : ℕ
  document = node_document w range.start.node

  abbrev grown : World
  grown = new_fragment document w

  abbrev fragment : Node Content
  fragment = record { number = w.made; document = document; label = named DocumentFragment []; body = no_content }

  fresh : occurs w.made w.forest ≡ 0
  fresh = s.forest.small w.made (omega arith)

  pub at_start : IsDrawing w.made w
  at_start = record { sound = s; begun = omega arith; rising = λ n q l e. absurd (let i = child_there w.forest n q e in let z = s.forest.small n l in omega arith) }

  pub first : Draws w.made (doing_fragment document) w grown
  first = draws-fragment w.made w at_start document

  pub holds : IsHolder w.made grown w.made
  holds = record { fresh = omega arith; kind = ap (entry_has may_be_parent) (entry-new w.forest s.forest.once fragment fresh) }

  below-made : (n : ℕ) → 0 < occurs n w.forest → n < w.made
  below-made n k = elim (cases_lt n w.made) [ inl lt ↦ lt | inr le ↦ absurd (let z = s.forest.small n le in omega arith) ]

  -- each node with a parent is old
  old : (c q : ℕ) → parent_of grown.forest c ≡ Some q → c < w.made
  old c q e = elim (parent-copies document w.made w.forest (node fragment empty empty) c q e) [
    | inl i ↦ below-made c (child_there w.forest c q i)
    | inr i ↦
        let k = child_there grown.forest c q e in
        let a = i.0 in
        let b = i.1 in
        elim (cases_lt c (w.made + 1)) [ inl lt ↦ absurd (omega arith) | inr ge ↦ absurd (let z = first.drawing.sound.forest.small c ge in omega arith) ]
  ]

  hs : 0 < occurs range.start.node w.forest
  hs = occurs-HasNode w.forest range.start.node h.starts.there

  he : 0 < occurs range.end.node w.forest
  he = occurs-HasNode w.forest range.end.node h.ends.there

  same_entry : (m : ℕ) → 0 < occurs m w.forest → entry_in grown.forest m ≡ entry_in w.forest m
  same_entry m k = entry-more w.forest s.forest.once fragment fresh m k

  pub same_ancestors : (n : ℕ) → 0 < occurs n w.forest → ancestors n grown.forest ≡ ancestors n w.forest
  same_ancestors n k = ancestors-part w.forest grown.forest s.forest.once (more-once w.forest s.forest.once fragment fresh) same_entry n k

  there : (n : ℕ) → 0 < occurs n w.forest → 0 < occurs n grown.forest
  there n k = first.extends.there n k

  same_kind : (test : Kind → Bool) (n : ℕ) → 0 < occurs n w.forest → kind_passes test grown.forest n ≡ kind_passes test w.forest n
  same_kind test n k = first.extends.kinds test n k

  -- The range stands to the trees as it did.

  pub common-same : common_of grown range ≡ common_of w range
  common-same =
      ap (λ ns. unwrap_or (head_of (filter (λ a. among a ns) (ancestors range.start.node grown.forest))) range.start.node) (same_ancestors range.end.node he)
      ∙ ap (λ ns. unwrap_or (head_of (filter (λ a. among a (ancestors range.end.node w.forest)) ns)) range.start.node) (same_ancestors range.start.node hs)

  one_root : root_of grown.forest range.start.node ≡ root_of grown.forest range.end.node
  one_root = root-more w.forest s.forest.once fragment fresh range.start.node hs ∙ h.one_root ∙ sym (root-more w.forest s.forest.once fragment fresh range.end.node he)

  above : (0 < hits (common_of grown range) (ancestors range.start.node grown.forest)) × (0 < hits (common_of grown range) (ancestors range.end.node grown.forest))
  above = common-above grown.forest range.start.node range.end.node (there range.start.node hs) one_root

  common_there : 0 < occurs (common_of w range) w.forest
  common_there = let i = common-above w.forest range.start.node range.end.node hs h.one_root in path-there w.forest s.forest.once range.start.node (common_of w range) i.0

  start_path : ArePath w.made grown (path_below grown.forest (common_of grown range) range.start.node)
  start_path = path-down w.made grown first.drawing.sound old (common_of grown range) range.start.node (there range.start.node hs) (same_kind (is_kind DocumentType) range.start.node hs ∙ h.starts.kind) above.0

  end_path : ArePath w.made grown (path_below grown.forest (common_of grown range) range.end.node)
  end_path = path-down w.made grown first.drawing.sound old (common_of grown range) range.end.node (there range.end.node he) (same_kind (is_kind DocumentType) range.end.node he ∙ h.ends.kind) above.1

  -- and its start is within the data of its node
  pub start_data : data_of grown range.start.node ≡ data_of w range.start.node
  start_data = data-copies w.made w at_start document (node (record { number = 0; document = document; label = named DocumentFragment []; body = no_content }) empty empty) range.start.node hs

  pub start_within : kind_passes is_character_data grown.forest range.start.node ≡ true → range.start.offset ≤ length (data_of grown range.start.node)
  start_within k = subst (λ (xs : List ℕ). range.start.offset ≤ length xs) (sym start_data) (offset_of_start w range h (sym (same_kind is_character_data range.start.node hs) ∙ k))

  contained-same : (n : ℕ) → 0 < occurs n w.forest → contained_in grown range n ≡ contained_in w range n
  contained-same n k =
      let root = root-more w.forest s.forest.once fragment fresh in
      let order = order-more w.forest s.forest.once fragment fresh in
      let whole = node_length unit_count w.forest n in
      let a = ap (λ x. is_same x (root_of grown.forest range.start.node)) (root n k) ∙ ap (λ x. is_same (root_of w.forest n) x) (root range.start.node hs) in
      let b = ap is_less (order range.start.node n range.start.offset 0 hs k) in
      let c = ap (λ x. is_less (order_of grown.forest (point n x) range.end)) (length-beside w.forest (node fragment empty empty) n k) ∙ ap is_less (order n range.end.node whole range.end.offset k he) in
      rw (a, b, c) refl

  pub contained_children-same : contained_children grown range ≡ contained_children w range
  contained_children-same =
      ap (λ m. filter (contained_in grown range) (children_of grown.forest m)) common-same
      ∙ ap (λ ns. filter (contained_in grown range) ns) (children-more w.forest s.forest.once fragment fresh (common_of w range) common_there)
      ∙ filter-same (contained_in grown range) (contained_in w range) (children_of w.forest (common_of w range)) (λ n k. contained-same n (child-there w.forest s.forest.once n (common_of w range) k))

  module _ (no_doctype : check_draw w range ≡ None) where
    pub contained_drawable : (c : ℕ) → 0 < hits c (contained_children grown range) → IsDrawable w.made grown c
    contained_drawable c k =
        let parent = common_of w range in
        let kw : 0 < hits c (contained_children w range) = subst (λ ns. 0 < hits c ns) contained_children-same k in
        let kc : 0 < hits c (children_of w.forest parent) = let i = hits-filter c (contained_in w range) (children_of w.forest parent) in omega arith in
        let hc = child-there w.forest s.forest.once c parent kc in
        let p = child-parent w.forest s.forest.once c parent kc in
        let d = hits-passing c (is_of_kind DocumentType w.forest) (contained_children w range) (no_refusal (has_kind DocumentType w.forest (contained_children w range)) no_doctype) kw in
        record { old = below-made c hc; kind = same_kind is_drawn c hc ∙ kind-drawn w.forest w.made s.forest c parent p hc d }

    draws-parts : (moves : Bool) → Draws w.made (doing_parts moves w.made range) grown (parts_into moves w.made range grown)
    draws-parts moves =
        let start_down = path_below grown.forest (common_of grown range) range.start.node in
        let end_down = path_below grown.forest (common_of grown range) range.end.node in
        let ns = contained_children grown range in
        let u = tail_into moves w.made range.start.offset start_down grown in
        let x = children_into moves w.made ns u in
        let a = draws-tail w.made moves w.made range.start.offset start_down grown first.drawing holds start_path (path-within grown (common_of grown range) range.start.node range.start.offset (there range.start.node hs) start_within) in
        let ku = holder-extends w.made grown u w.made a.extends holds in
        let b = draws-children w.made moves w.made ns u a.drawing ku (λ c k. drawable-extends w.made grown u c a.extends (contained_drawable c k)) in
        let e = extends-then grown u x a.extends b.extends in
        let c = draws-head w.made moves w.made range.end.offset end_down x b.drawing (holder-extends w.made grown x w.made e holds) (path-extends w.made grown x e end_down end_path) in
        draws-as w.made grown (parts_into moves w.made range grown) (λ t. doing_head moves w.made range.end.offset end_down (doing_children moves w.made ns (doing_tail moves w.made range.start.offset start_down t))) (doing_parts moves w.made range) (λ es. refl)
        (draws-then w.made grown x (parts_into moves w.made range grown) (λ t. doing_children moves w.made ns (doing_tail moves w.made range.start.offset start_down t)) (doing_head moves w.made range.end.offset end_down)
        (draws-then w.made grown u x (doing_tail moves w.made range.start.offset start_down) (doing_children moves w.made ns) a b) c)

    -- what is done once the fragment is made
    abbrev rest_of : Bool → Bool → Bool → Trace → Trace
    rest_of moves v u t =
        if v then t
        else if u then doing_units moves w.made range.start.node range.start.offset (range.end.offset - range.start.offset) t
        else doing_parts moves w.made range t

    draws-rest : (moves v u : Bool) → is_in_one_data w range ≡ u → Draws w.made (rest_of moves v u) grown (if v then grown else if u then units_into moves w.made range.start.node range.start.offset (range.end.offset - range.start.offset) grown else parts_into moves w.made range grown)
    draws-rest moves true u e = draws-none w.made grown first.drawing
    draws-rest moves false true e =
        let k = second-too (range.start.node == range.end.node) (kind_passes is_character_data w.forest range.start.node) e in
        let has_data = same_kind is_character_data range.start.node hs ∙ k in
        draws-units w.made moves w.made range.start.node range.start.offset (range.end.offset - range.start.offset) grown first.drawing holds has_data (start_within has_data)
    draws-rest moves false false e = draws-parts moves

    -- the contents are drawn
    draws-contents : (moves : Bool) → Draws w.made (λ t. rest_of moves (is_collapsed range) (is_in_one_data w range) (doing_fragment document t)) w (contents_drawn moves range w)
    draws-contents moves =
        draws-then w.made w grown (contents_drawn moves range w) (doing_fragment document) (rest_of moves (is_collapsed range) (is_in_one_data w range)) first (draws-rest moves (is_collapsed range) (is_in_one_data w range) refl)

    comes-drawn : (moves : Bool) → Comes w (drawn_trace moves range w) (contents_drawn moves range w)
    comes-drawn moves = let a = draws-contents moves in a.follows w [] (leave-none w w refl)

    pub sound-contents_drawn : (moves : Bool) → IsSound (contents_drawn moves range w)
    sound-contents_drawn moves = let a = draws-contents moves in a.drawing.sound

    pub live-contents_drawn : (moves : Bool) (r : ℕ) → is_live r (contents_drawn moves range w) ≡ is_live r w
    live-contents_drawn moves r = let a = draws-contents moves in a.extends.live r

    pub there-contents_drawn : (moves : Bool) (m : ℕ) → 0 < occurs m w.forest → 0 < occurs m (contents_drawn moves range w).forest
    there-contents_drawn moves m k = let a = draws-contents moves in a.extends.there m k

    -- the fragment is there too
    pub fragment-contents_drawn : (moves : Bool) → 0 < occurs w.made (contents_drawn moves range w).forest
    fragment-contents_drawn moves =
        let a = draws-rest moves (is_collapsed range) (is_in_one_data w range) refl in
        a.extends.there w.made (passes_there may_be_parent grown.forest w.made holds.kind)

-- Extract, and clone the contents.

pub check-range : (w : World) (r : ℕ) (range : Range) → range_at w r ≡ Some range → check_extract r w ≡ None → check_draw w range ≡ None
check-range w r range e c = ap (λ o. for_range o None (λ range. check_draw w range)) (sym e) ∙ c

pub leave-extract : (r : ℕ) (w : World) → IsSound w → check_extract r w ≡ None → Leave (extract_edits r w) w (extract r w)
leave-extract r w s c = go (range_at w r) refl
  where
    part : (range : Range) → range_at w r ≡ Some range → (v : Bool) → (is_collapsed range || is_in_one_data w range) ≡ v → Leave (if v then drawn_trace true range w else doing_ends r (collapsed_at (new_place w.forest range)) (drawn_trace true range w)).edits w (if v then contents_drawn true range w else with_range r (collapsed_at (new_place w.forest range)) (contents_drawn true range w))
    part range e true x = let k = comes-drawn w s range (sound-range w r range s e) (check-range w r range e c) true in k.left
    part range e false x =
        let h = sound-range w r range s e in
        let d = check-range w r range e c in
        let u = contents_drawn true range w in
        let place = collapsed_at (new_place w.forest range) in
        let live = live-contents_drawn w s range h d true r ∙ ap is_some e in
        let old = live-there r u live in
        let all = subst (λ v. IsSound (if v then u else with_range r place u)) x (sound-extracted r range w s h d) in
        let k = comes-then w (drawn_trace true range w) u (with_range r place u) (doing_ends r place) (follows-ends r place u (sound-contents_drawn w s range h d true) (range-of_sound r old.0 place u old.1 all) live) (comes-drawn w s range h d true) in
        k.left

    go : (o : Option Range) → range_at w r ≡ o → Leave (for_range o [] (λ range. (extracted_trace r range w).edits)) w (for_range o w (λ range. extracted r range w))
    go None e = leave-none w w refl
    go (Some range) e = part range e (is_collapsed range || is_in_one_data w range) refl

pub leave-clone_contents : (r : ℕ) (w : World) → IsSound w → check_extract r w ≡ None → Leave (clone_contents_edits r w) w (clone_contents r w)
leave-clone_contents r w s c = go (range_at w r) refl
  where
    go : (o : Option Range) → range_at w r ≡ o → Leave (for_range o [] (λ range. (drawn_trace false range w).edits)) w (for_range o w (λ range. contents_drawn false range w))
    go None e = leave-none w w refl
    go (Some range) e = let k = comes-drawn w s range (sound-range w r range s e) (check-range w r range e c) false in k.left
