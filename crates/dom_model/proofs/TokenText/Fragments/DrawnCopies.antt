-- A copy of some units comes into a fragment, and a copy of a node that is filled: each with the tokens of what it holds around them.
-- DOM Standard, "Interface Range": extract, clone the contents.
use Rattle.std.proofs.Common.{◌≡◌, ℕ, ◌<◌, ◌≤◌, Bool, true, false, List, [], ◌∷◌, ◌++◌, length, None, refl, ap, sym, ◌∙◌, subst, arith, inl, inr}
use Rattle.dom_model.specs.Definitions.{hits, is_kind, is_character_data, may_be_parent, Node, Forest, empty, node, occurs, tops, map_nodes, entry_in, children_of, substring, Content, World, no_content, entry_has, kind_passes, is_fragment, node_document, append, named, data_of, with_data, renumbered, alone_of, original, document_of_clone, clone_node, new_fragment, clone_with, cut_if, units_into, copy_into, Token, Open, Close, no_marks, unit_tokens, opened_in, InStep, doing_clone_with, doing_append, doing_clone, doing_fragment, IsInsertable}
use Rattle.dom_model.specs.declared.Kind.TheVariants.{Document, DocumentType, DocumentFragment}
use Rattle.dom_model.proofs.DataAndCopies.CopiesPlaced.{kind-copy}
use Rattle.dom_model.proofs.TokenText.{AlikeTrees.TreesAlike.Top, AlikeTrees.TreesAlike.top_of, Fragments.Shapes.shape, Fragments.Shapes.shape-append, Fragments.Shapes.shape-units, Fragments.Shapes.tree_shape, Fragments.OpensInStep.opened_in-append, Fragments.OpensInStep.opened_in-units, Fragments.OpensInStep.tree_nodes, Fragments.StandingTrees.IsAs, Fragments.StandingTrees.Stands, Fragments.StandingTrees.Keeps, Fragments.StandingTrees.keeps-then, Fragments.StandingTrees.stands-kept, Fragments.SteppedTrees.keeps-copies, Fragments.SteppedTrees.stands-copies, Fragments.SteppedTrees.unlisted-copies, Fragments.SteppedTrees.keeps-alone, Fragments.SteppedTrees.added-alone, Fragments.SteppedTrees.keeps-children, Fragments.SteppedTrees.added-children, Fragments.SteppedTrees.data-kept, Fragments.SteppedTrees.keeps-cut_if, Fragments.DrawnTrees.NodeFrom, Fragments.DrawnTrees.IsCopy, Fragments.DrawnTrees.is_copy, Fragments.DrawnTrees.TagFrom, Fragments.DrawnTrees.steps-one, Fragments.DrawnTrees.steps-around, Fragments.DrawnTrees.IsSafe, Fragments.DrawnTrees.each-weaker, Fragments.DrawnTrees.copies-safe, Fragments.DrawnTrees.Drew, Fragments.DrawnTrees.AreOld, Fragments.DrawnTrees.safe-kept, Fragments.DrawnNodes.old-one, Fragments.DrawnNodes.far-from}
use Rattle.dom_model.proofs.MutationAlgorithms.Extending.{tag_in, tag_at}
use Rattle.dom_model.proofs.RangesAndContents.{Drawing.IsDrawing, Drawing.Extends, Drawing.extends-then, Drawing.Draws, Drawing.passes_there, Drawing.data-copies, Drawing.IsHolder, Drawing.holder-extends, Drawing.IsComing, Drawing.may_come, Drawing.data-append, Drawing.draws-append, DrawnPieces.draws-clone_with, DrawnPieces.draws-cut_if, DrawnPieces.new-greater, DrawnPieces.is_drawn, DrawnPieces.data-drawn, DrawnPieces.IsDrawable, DrawnPaths.first, DrawnPaths.second, DrawnPaths.third, DrawnPaths.kind_copied, DrawnPaths.copy_holds, DrawnPaths.kind_inner, DrawnPaths.greater, DrawnPaths.inner_there, DrawnPaths.inner_holds, DrawnPaths.extended}
use Rattle.dom_model.proofs.Soundness.SoundForests.{passes-also}

-- Units.

module _ (low : ℕ) (bad : List ℕ) (old : (x : ℕ) → low ≤ x → hits x bad ≡ 0) (into n offset count : ℕ) (v : World) (d : IsDrawing low v) (k : IsHolder low v into) (has_data : kind_passes is_character_data v.forest n ≡ true) (within : offset ≤ length (data_of v n)) (n_bad : 0 < hits n bad) where
  abbrev copied : World
  copied = clone_with (substring offset count (data_of v n)) n v

  abbrev original_copy : Forest Content
  original_copy = map_nodes (with_data (substring offset count (data_of v n))) (original false n v.forest)

  into_there : 0 < occurs into v.forest
  into_there = passes_there may_be_parent v.forest into k.kind

  n_there : 0 < occurs n v.forest
  n_there = passes_there is_character_data v.forest n has_data

  made : Draws low (doing_clone_with (substring offset count (data_of v n)) n) v copied
  made = draws-clone_with low v d (substring offset count (data_of v n)) n

  copy_drawn : kind_passes is_drawn copied.forest v.made ≡ true
  copy_drawn =
      kind-copy is_drawn (node_document v n) v.made false (with_data (substring offset count (data_of v n))) (λ x. refl) n v.forest d.sound.forest.once (d.sound.forest.small v.made (omega arith)) n_there
      ∙ passes-also is_character_data is_drawn true data-drawn v.forest n has_data

  copy : IsCopy low v copied into
  copy = is_copy low v copied into d k made.drawing made.extends copy_drawn

  abbrev put : World
  put = append v.made into copied

  came : Draws low (doing_append v.made into) copied put
  came = draws-append low copied made.drawing into v.made copy.holder copy.comes

  top : Top n v.forest (entry_in v.forest n)
  top = top_of None n v.forest d.sound.forest.once n_there

  abbrev copies : Forest Content
  copies = renumbered (node_document v n) v.made original_copy

  abbrev first_node : Node Content
  first_node = record (with_data (substring offset count (data_of v n)) top.top) { number = v.made; document = node_document v n }

  one : copies ≡ node first_node empty empty
  one = ap (λ g. renumbered (node_document v n) v.made (map_nodes (with_data (substring offset count (data_of v n))) (alone_of g))) top.at

  top_data : is_character_data top.top.label.kind ≡ true
  top_data = sym (ap (entry_has is_character_data) top.told) ∙ has_data

  has_shape : tree_shape copies ≡ shape (Open n ∷ (unit_tokens no_marks n 0 (substring offset count (data_of v n)) ++ (Close ∷ [])))
  has_shape =
      ap tree_shape one
      ∙ (rw top_data refl)
      ∙ ap (λ ts. Open 0 ∷ (ts ++ (Close ∷ []))) (sym (shape-units n 0 (substring offset count (data_of v n))))
      ∙ ap (λ ts. Open 0 ∷ ts) (sym (shape-append (unit_tokens no_marks n 0 (substring offset count (data_of v n))) (Close ∷ [])))

  in_one : (related : ℕ → Node Content → Type 0) → related n first_node → InStep related (opened_in (Open n ∷ (unit_tokens no_marks n 0 (substring offset count (data_of v n)) ++ (Close ∷ [])))) (tree_nodes copies)
  in_one related h =
      rw (opened_in-append (unit_tokens no_marks n 0 (substring offset count (data_of v n))) (Close ∷ []), opened_in-units n 0 (substring offset count (data_of v n)), one)
      (steps-one related n first_node h)

  unlisted : (x : ℕ) → hits v.made (children_of copied.forest x) ≡ 0
  unlisted = unlisted-copies (node_document v n) original_copy v d.sound made.drawing.sound

  keeps_first : (x : ℕ) → 0 < occurs x v.forest → Keeps v copied x
  keeps_first = keeps-copies (node_document v n) original_copy v

  keeps_put : (x : ℕ) → 0 < occurs x copied.forest → (x ≡ into → ⊥) → Keeps copied put x
  keeps_put x h ne = keeps-alone v.made into copied made.drawing.sound copy.fits copy.alone x h ne (unlisted x)

  same_data : data_of put n ≡ data_of v n
  same_data =
      data-append low copied made.drawing into v.made copy.holder copy.comes n (made.extends.there n n_there)
      ∙ data-copies low v d (node_document v n) original_copy n n_there

  put_extends : Extends v put
  put_extends = extends-then v copied put made.extends came.extends

  pub units-drew : (w : World) → tag_at w.forest n ≡ tag_at v.forest n → (moves : Bool) → Drew w moves low bad (n ∷ []) v (units_into moves into n offset count v) into (Open n ∷ (unit_tokens no_marks n 0 (substring offset count (data_of v n)) ++ (Close ∷ [])))
  units-drew w same_tag moves =
      let cut = draws-cut_if low put came.drawing moves n offset count (put_extends.kinds is_character_data n n_there ∙ has_data) (subst (λ (xs : List ℕ). offset ≤ length xs) (sym same_data) within) in
      let safe = copies-safe low bad v.made (node_document v n) v.made original_copy (omega arith) in
      let far : (x : ℕ) → low ≤ x → x ≡ n → ⊥ = λ x l e. let z = old x l in let i = subst (λ m. 0 < hits m bad) (sym e) n_bad in omega arith in
      let all : Extends copied (cut_if moves n offset count put) = extends-then copied put (cut_if moves n offset count put) came.extends cut.extends in
      let later : (x : ℕ) → 0 < occurs x copied.forest → (x ≡ into → ⊥) → hits x (n ∷ []) ≡ 0 → Keeps copied (cut_if moves n offset count put) x = λ x h ne z. keeps-then copied put (cut_if moves n offset count put) x (keeps_put x h ne) (keeps-cut_if n offset count put moves x (far-from n x z)) in
      let into_kept = keeps-cut_if n offset count put moves into (far into k.fresh) in
      let into_first = keeps_first into into_there in
      record {
        trees = copies;
        stands =
            safe-kept low bad (n ∷ []) (old-one low bad old n n_bad) v.made copied (cut_if moves n offset count put) into k.fresh (new-greater low v d into into_there) d.begun all later copies safe
            (stands-copies (node_document v n) original_copy v d.sound made.drawing.sound);
        added =
            into_kept.children
            ∙ added-alone v.made into copied made.drawing.sound copy.fits copy.alone (unlisted into)
            ∙ ap (λ ns. ns ++ (v.made ∷ [])) into_first.children
            ∙ ap (λ g. children_of v.forest into ++ tops g) (sym one);
        shaped = has_shape;
        steps = in_one (NodeFrom moves low bad) (inr (inr n_bad, d.begun));
        tagged = in_one (TagFrom w) (same_tag ∙ ap tag_in top.told);
        safe = safe;
        keeps = λ x h ne z. keeps-then v copied (cut_if moves n offset count put) x (keeps_first x h) (later x (made.extends.there x h) ne z);
        drawing = cut.drawing;
        extends = extends-then v put (cut_if moves n offset count put) put_extends cut.extends;
      }

-- A copy that is filled.

module _ (low : ℕ) (bad : List ℕ) (into n : ℕ) (v : World) (d : IsDrawing low v) (k : IsHolder low v into) (drawable : IsDrawable low v n) (no_data : kind_passes is_character_data v.forest n ≡ false) where
  abbrev one_copy : World
  one_copy = clone_node false n v

  abbrev held : World
  held = append v.made into one_copy

  abbrev begun : World
  begun = new_fragment (node_document v n) held

  abbrev new_node : Forest Content
  new_node = node (record { number = 0; document = node_document v n; label = named DocumentFragment []; body = no_content }) empty empty

  v_into : 0 < occurs into v.forest
  v_into = passes_there may_be_parent v.forest into k.kind

  v_n : 0 < occurs n v.forest
  v_n = passes_there is_drawn v.forest n drawable.kind

  a : Draws low (doing_clone false n) v one_copy
  a = first low into n v d k drawable no_data

  b : Draws low (doing_append v.made into) one_copy held
  b = second low into n v d k drawable no_data

  c : Draws low (doing_fragment (node_document v n)) held begun
  c = third low into n v d k drawable no_data

  -- the copy that comes first

  copy_top : Top n v.forest (entry_in v.forest n)
  copy_top = top_of None n v.forest d.sound.forest.once v_n

  abbrev copy_node : Node Content
  copy_node = record copy_top.top { number = v.made; document = document_of_clone v n }

  copy_is : IsAs one_copy copy_node []
  copy_is =
      let e : renumbered (document_of_clone v n) v.made (original false n v.forest) ≡ node copy_node empty empty = ap (λ g. renumbered (document_of_clone v n) v.made (alone_of g)) copy_top.at in
      let s = subst (Stands one_copy) e (stands-copies (document_of_clone v n) (original false n v.forest) v d.sound a.drawing.sound) in
      s.0

  copy_no_data : is_character_data copy_top.top.label.kind ≡ false
  copy_no_data = sym (ap (entry_has is_character_data) copy_top.told) ∙ no_data

  copy_kind : kind_passes is_drawn one_copy.forest v.made ≡ true
  copy_kind = kind_copied low into n v d k drawable no_data is_drawn ∙ drawable.kind

  first_copy : IsCopy low v one_copy into
  first_copy = is_copy low v one_copy into d k a.drawing a.extends copy_kind

  copy_unlisted : (x : ℕ) → hits v.made (children_of one_copy.forest x) ≡ 0
  copy_unlisted = unlisted-copies (document_of_clone v n) (original false n v.forest) v d.sound a.drawing.sound

  to_copy : (x : ℕ) → 0 < occurs x v.forest → Keeps v one_copy x
  to_copy = keeps-copies (document_of_clone v n) (original false n v.forest) v

  to_held : (x : ℕ) → 0 < occurs x one_copy.forest → (x ≡ into → ⊥) → Keeps one_copy held x
  to_held x h ne = keeps-alone v.made into one_copy a.drawing.sound first_copy.fits first_copy.alone x h ne (copy_unlisted x)

  to_begun : (x : ℕ) → 0 < occurs x held.forest → Keeps held begun x
  to_begun = keeps-copies (node_document v n) new_node held

  -- nothing that was there is touched but what holds the copy
  from_old : (x : ℕ) → 0 < occurs x v.forest → (x ≡ into → ⊥) → Keeps v begun x
  from_old x h ne =
      let i = a.extends.there x h in
      let j = b.extends.there x i in
      keeps-then v one_copy begun x (to_copy x h) (keeps-then one_copy held begun x (to_held x i ne) (to_begun x j))

  inner_empty : children_of begun.forest held.made ≡ []
  inner_empty = let s = stands-copies (node_document v n) new_node held b.drawing.sound c.drawing.sound in s.0.children

  into_less : into < v.made
  into_less = new-greater low v d into v_into

  copy_less : v.made < held.made
  copy_less = greater low into n v d k drawable no_data

  module _ (w : World) (same_tag : tag_at w.forest n ≡ tag_at v.forest n) (moves : Bool) (n_bad : 0 < hits n bad) (touched : List ℕ) (o : AreOld low bad touched) (filled : World) (ts : List Token) (f : Drew w moves low bad touched begun filled held.made ts) where
    abbrev final : World
    final = append held.made v.made filled

    here : (x : ℕ) → low ≤ x → hits x touched ≡ 0
    here x l = o.within x (o.old x l)

    fill_holder : IsHolder low filled v.made
    fill_holder = holder-extends low begun filled v.made f.extends (holder-extends low held begun v.made c.extends (copy_holds low into n v d k drawable no_data))

    fragment_there : 0 < occurs held.made begun.forest
    fragment_there = inner_there low into n v d k drawable no_data

    fragment_comes : IsComing low filled v.made held.made
    fragment_comes = record {
      there = f.extends.there held.made fragment_there;
      no_document = f.extends.kinds (is_kind Document) held.made fragment_there ∙ kind_inner low into n v d k drawable no_data (is_kind Document);
      no_doctype = f.extends.kinds (is_kind DocumentType) held.made fragment_there ∙ kind_inner low into n v d k drawable no_data (is_kind DocumentType);
      place = inr copy_less;
    }

    fragment_fits : IsInsertable filled.forest held.made v.made None
    fragment_fits = may_come low filled f.drawing v.made held.made fill_holder fragment_comes

    is_one : is_fragment filled held.made ≡ true
    is_one = f.extends.kinds (is_kind DocumentFragment) held.made fragment_there ∙ kind_inner low into n v d k drawable no_data (is_kind DocumentFragment)

    last : Draws low (doing_append held.made v.made) filled final
    last = draws-append low filled f.drawing v.made held.made fill_holder fragment_comes

    to_final : (x : ℕ) → 0 < occurs x filled.forest → (x ≡ v.made → ⊥) → (x ≡ held.made → ⊥) → Keeps filled final x
    to_final = keeps-children held.made v.made filled f.drawing.sound fragment_fits is_one

    -- the copy up to there
    copy_kept : Keeps one_copy filled v.made
    copy_kept =
        let i = b.extends.there v.made copy_is.there in
        keeps-then one_copy held filled v.made (to_held v.made copy_is.there (λ e. let l = into_less in omega arith))
        (keeps-then held begun filled v.made (to_begun v.made i) (f.keeps v.made (c.extends.there v.made i) (λ e. let l = copy_less in omega arith) (here v.made d.begun)))

    copy_children : children_of final.forest v.made ≡ tops f.trees
    copy_children =
        added-children held.made v.made filled f.drawing.sound fragment_fits is_one (λ e. let l = copy_less in omega arith)
        ∙ ap (λ ns. ns ++ children_of filled.forest held.made) (copy_kept.children ∙ copy_is.children)
        ∙ f.added
        ∙ ap (λ ns. ns ++ tops f.trees) inner_empty

    from_begun : Extends begun final
    from_begun = extends-then begun filled final f.extends last.extends

    whole : Extends v final
    whole = extends-then v begun final (extended low into n v d k drawable no_data) from_begun

    copy_stands : IsAs final copy_node (tops f.trees)
    copy_stands =
        let i = b.extends.there v.made copy_is.there in
        let j = c.extends.there v.made i in
        let e = extends-then one_copy held final b.extends (extends-then held begun final c.extends from_begun) in
        record {
          there = e.there v.made copy_is.there;
          kind = e.kinds is_character_data v.made copy_is.there ∙ copy_is.kind;
          tag = e.tags v.made copy_is.there ∙ copy_is.tag;
          text = data-kept held.made v.made filled f.drawing.sound fragment_fits v.made (f.extends.there v.made j) ∙ copy_kept.text ∙ copy_is.text;
          children = copy_children;
        }

    inside_stand : Stands final f.trees
    inside_stand = stands-kept filled final last.extends (IsSafe low bad begun.made) each f.trees f.safe f.stands
      where
        each : (x : ℕ) → IsSafe low bad begun.made x → 0 < occurs x filled.forest → Keeps filled final x
        each x (inl i) h = let l = copy_less in to_final x h (λ e. omega arith) (λ e. omega arith)
        each x (inr i) h = let l = copy_less in let z = i.0 in let y = d.begun in to_final x h (λ e. omega arith) (λ e. omega arith)

    into_children : children_of final.forest into ≡ children_of v.forest into ++ (v.made ∷ [])
    into_children =
        let l = into_less in
        let m = copy_less in
        let h1 = a.extends.there into v_into in
        let h2 = b.extends.there into h1 in
        let h3 = c.extends.there into h2 in
        let k1 = to_copy into v_into in
        let k3 = to_begun into h2 in
        let k4 = f.keeps into h3 (λ e. omega arith) (here into k.fresh) in
        let k5 = to_final into (f.extends.there into h3) (λ e. omega arith) (λ e. omega arith) in
        k5.children
        ∙ k4.children
        ∙ k3.children
        ∙ added-alone v.made into one_copy a.drawing.sound first_copy.fits first_copy.alone (copy_unlisted into)
        ∙ ap (λ ns. ns ++ (v.made ∷ [])) k1.children

    filled-drew : Drew w moves low bad touched v final into (Open n ∷ (ts ++ (Close ∷ [])))
    filled-drew = record {
      trees = node copy_node f.trees empty;
      stands = (copy_stands, inside_stand, tt);
      added = into_children;
      shaped =
          (rw copy_no_data refl)
          ∙ ap (λ us. Open 0 ∷ (us ++ (Close ∷ []))) f.shaped
          ∙ ap (λ us. Open 0 ∷ us) (sym (shape-append ts (Close ∷ [])));
      steps = steps-around (NodeFrom moves low bad) n copy_node f.trees ts copy_no_data (inr (inr n_bad, d.begun)) f.steps;
      tagged = steps-around (TagFrom w) n copy_node f.trees ts copy_no_data (same_tag ∙ ap tag_in copy_top.told) f.tagged;
      safe = (inl (omega arith), each-weaker (IsSafe low bad begun.made) (IsSafe low bad v.made) later f.trees f.safe, tt);
      keeps = λ x h ne z.
          let l = new-greater low v d x h in
          let m = copy_less in
          let e = extended low into n v d k drawable no_data in
          let i = e.there x h in
          keeps-then v begun final x (from_old x h ne)
          (keeps-then begun filled final x (f.keeps x i (λ j. omega arith) z) (to_final x (f.extends.there x i) (λ j. omega arith) (λ j. omega arith)));
      drawing = last.drawing;
      extends = whole;
    }
      where
        later : (x : ℕ) → IsSafe low bad begun.made x → IsSafe low bad v.made x
        later x (inl i) = let m = copy_less in inl (omega arith)
        later x (inr i) = inr i

  pub copy-drew : (w : World) → tag_at w.forest n ≡ tag_at v.forest n → (moves : Bool) → 0 < hits n bad → (touched : List ℕ) → AreOld low bad touched → (fill : ℕ → World → World) (ts : List Token) → ((inner : ℕ) (x : World) → IsDrawing low x → Extends v x → IsHolder low x inner → ((y : ℕ) → 0 < occurs y v.forest → (y ≡ into → ⊥) → Keeps v x y) → Drew w moves low bad touched x (fill inner x) inner ts) →
      Drew w moves low bad touched v (copy_into into n fill v) into (Open n ∷ (ts ++ (Close ∷ [])))
  copy-drew w same_tag moves n_bad touched o fill ts each =
      filled-drew w same_tag moves n_bad touched o (fill held.made begun) ts (each held.made begun c.drawing (extended low into n v d k drawable no_data) (inner_holds low into n v d k drawable no_data) from_old)
