-- A contained child comes into a fragment, itself or as a copy, and children come one after another: the fragment has their tokens.
-- DOM Standard, "Interface Range": extract, clone the contents.
use Rattle.std.proofs.Common.{◌≡◌, ℕ, ◌<◌, ◌≤◌, Bool, true, false, List, [], ◌∷◌, ◌++◌, Some, None, refl, ap, sym, ◌∙◌, subst, arith, append-nil, inl, inr}
use Rattle.std.proofs.lemmas.Bool.Decides.{nat_tests}
use Rattle.dom_model.specs.Definitions.{hits, is_kind, may_be_parent, Forest, occurs, tops, tree_at, parent_of, children_of, EachNode, Content, World, kind_passes, is_fragment, append, renumbered, document_of_clone, clone_node, child_into, children_into, no_marks, token_texts, tokens_among, opened_in, InStep, doing_clone, IsInsertable}
use Rattle.dom_model.specs.declared.Kind.TheVariants.{DocumentFragment}
use Rattle.dom_model.proofs.Forests.{Climbing.hits-first, Indices.child-parent}
use Rattle.dom_model.proofs.DataAndCopies.CopiesPlaced.{kind-clone}
use Rattle.dom_model.proofs.TokenText.{AlikeTrees.TreesAlike.top_of, Contents.PathTokens.nodes_tokens, Fragments.Shapes.shape, Fragments.Shapes.tree_shape, Fragments.Shapes.tree_shape-renumbered, Fragments.OpensInStep.tree_nodes, Fragments.OpensInStep.tree_numbers, Fragments.StandingTrees.Stands, Fragments.StandingTrees.stands-shape, Fragments.StandingTrees.stands-numbers, Fragments.StandingTrees.stands-tags, Fragments.StandingTrees.Keeps, Fragments.StandingTrees.keeps-then, Fragments.SteppedTrees.stands-tree_at, Fragments.SteppedTrees.stands-forest, Fragments.SteppedTrees.keeps-copies, Fragments.SteppedTrees.parent_kept-copies, Fragments.SteppedTrees.stands-copies, Fragments.SteppedTrees.unlisted-copies, Fragments.SteppedTrees.keeps-alone, Fragments.SteppedTrees.added-alone, Fragments.SteppedTrees.parent_kept-alone, Fragments.DrawnTrees.IsCopy, Fragments.DrawnTrees.is_copy, Fragments.DrawnTrees.NodeFrom, Fragments.DrawnTrees.TagFrom, Fragments.DrawnTrees.AreTagged, Fragments.DrawnTrees.tags-itself, Fragments.DrawnTrees.tags-copies, Fragments.DrawnTrees.steps-itself, Fragments.DrawnTrees.steps-copies, Fragments.DrawnTrees.IsSafe, Fragments.DrawnTrees.each-weaker, Fragments.DrawnTrees.copies-safe, Fragments.DrawnTrees.Drew, Fragments.DrawnTrees.drew-none, Fragments.DrawnTrees.drew-as, Fragments.DrawnTrees.AreOld, Fragments.DrawnTrees.safe-kept, Fragments.DrawnTrees.drew-then}
use Rattle.dom_model.proofs.RangesAndContents.{Drawing.IsDrawing, Drawing.extends-then, Drawing.Draws, Drawing.passes_there, Drawing.IsHolder, Drawing.holder-extends, Drawing.IsComing, Drawing.may_come, Drawing.draws-append, DrawnPieces.draws-clone, DrawnPieces.new-greater, DrawnPieces.is_drawn, DrawnPieces.drawn-fragment, DrawnPieces.IsDrawable, DrawnPieces.drawable-extends, DrawnPieces.coming}
use Rattle.dom_model.proofs.Soundness.SoundForests.{passes-also}

-- an old tree that is nowhere on the ways to the ends, with its tokens
pub record IsAside (low : ℕ) (bad : List ℕ) (w : World) (n : ℕ) : Type 0 where
  pub top : tops (tree_at n w.forest) ≡ n ∷ []
  pub far : EachNode (λ x. (x.number < low) × (hits x.number bad ≡ 0)) (tree_at n w.forest)
  pub told : tree_shape (tree_at n w.forest) ≡ shape (nodes_tokens w.forest (n ∷ []))
  pub tagged : AreTagged w (tree_at n w.forest)
  pub opens : tree_numbers (tree_at n w.forest) ≡ opened_in (nodes_tokens w.forest (n ∷ []))

pub old-one : (low : ℕ) (bad : List ℕ) → ((x : ℕ) → low ≤ x → hits x bad ≡ 0) → (p : ℕ) → 0 < hits p bad → AreOld low bad (p ∷ [])
old-one low bad old p h = record {
  old = old;
  within = λ x z. grind (arith, nat_tests);
}

pub far-from : (p x : ℕ) → hits x (p ∷ []) ≡ 0 → x ≡ p → ⊥
far-from p x z e = grind (arith, nat_tests)

-- a node is the child of its parent alone
unlisted : (v : World) (low : ℕ) → IsDrawing low v → (n p x : ℕ) → parent_of v.forest n ≡ Some p → (x ≡ p → ⊥) → hits n (children_of v.forest x) ≡ 0
unlisted v low d n p x e ne = let c = child-parent v.forest d.sound.forest.once n x in grind arith

module _ (low : ℕ) (bad : List ℕ) (old : (x : ℕ) → low ≤ x → hits x bad ≡ 0) (w : World) (into n p : ℕ) (v : World) (d : IsDrawing low v) (k : IsHolder low v into) (h : IsDrawable low v n) (e : parent_of v.forest n ≡ Some p) (p_old : p < low) (p_bad : 0 < hits p bad) where
  into_there : 0 < occurs into v.forest
  into_there = passes_there may_be_parent v.forest into k.kind

  -- the child itself

  no_fragment : is_fragment v n ≡ false
  no_fragment = passes-also is_drawn (is_kind DocumentFragment) false drawn-fragment v.forest n h.kind

  comes : IsComing low v into n
  comes = coming low v into n h.kind (inl (h.old, no_fragment))

  fits : IsInsertable v.forest n into None
  fits = may_come low v d into n k comes

  itself : IsAside low bad w n → Stands v (tree_at n w.forest) → Drew w true low bad (p ∷ []) v (append n into v) into (nodes_tokens w.forest (n ∷ []))
  itself a st =
      let g = draws-append low v d into n k comes in
      let keeps : (x : ℕ) → 0 < occurs x v.forest → (x ≡ into → ⊥) → hits x (p ∷ []) ≡ 0 → Keeps v (append n into v) x = λ x i ne z. keeps-alone n into v d.sound fits no_fragment x i ne (unlisted v low d n p x e (far-from p x z)) in
      let safe = each-weaker (λ x. (x < low) × (hits x bad ≡ 0)) (IsSafe low bad v.made) (λ x i. inr i) (tree_at n w.forest) a.far in
      let f = k.fresh in
      record {
        trees = tree_at n w.forest;
        stands = safe-kept low bad (p ∷ []) (old-one low bad old p p_bad) v.made v (append n into v) into k.fresh (new-greater low v d into into_there) d.begun g.extends keeps (tree_at n w.forest) safe st;
        added = added-alone n into v d.sound fits no_fragment (unlisted v low d n p into e (λ i. omega arith)) ∙ ap (λ ns. children_of v.forest into ++ ns) (sym a.top);
        shaped = a.told;
        steps = subst (λ ns. InStep (NodeFrom true low bad) ns (tree_nodes (tree_at n w.forest))) a.opens (steps-itself low bad (tree_at n w.forest) a.far);
        tagged = subst (λ ns. InStep (TagFrom w) ns (tree_nodes (tree_at n w.forest))) a.opens (tags-itself w (tree_at n w.forest) a.tagged);
        safe = safe;
        keeps = keeps;
        drawing = g.drawing;
        extends = g.extends;
      }

  -- or a copy

  abbrev copied : World
  copied = clone_node true n v

  n_there : 0 < occurs n v.forest
  n_there = passes_there is_drawn v.forest n h.kind

  first : Draws low (doing_clone true n) v copied
  first = draws-clone low v d true n

  copy_drawn : kind_passes is_drawn copied.forest v.made ≡ true
  copy_drawn = kind-clone is_drawn (document_of_clone v n) v.made true n v.forest d.sound.forest.once (d.sound.forest.small v.made (omega arith)) n_there ∙ h.kind

  copy : IsCopy low v copied into
  copy = is_copy low v copied into d k first.drawing first.extends copy_drawn

  abbrev copies : Forest Content
  copies = renumbered (document_of_clone v n) v.made (tree_at n v.forest)

  one_top : tops copies ≡ v.made ∷ []
  one_top = let t = top_of None n v.forest d.sound.forest.once n_there in ap (λ g. tops (renumbered (document_of_clone v n) v.made g)) t.at

  same_top : tops (tree_at n v.forest) ≡ n ∷ []
  same_top = let t = top_of None n v.forest d.sound.forest.once n_there in ap tops t.at ∙ ap (λ m. m ∷ []) t.named

  as_copy : IsAside low bad w n → Stands v (tree_at n w.forest) → Drew w false low bad (p ∷ []) v (append v.made into copied) into (nodes_tokens w.forest (n ∷ []))
  as_copy a st =
      let here = stands-tree_at v n v.forest (stands-forest v d.sound) in
      let numbers = stands-numbers v (tree_at n v.forest) (tree_at n w.forest) here st (same_top ∙ sym a.top) in
      let second = draws-append low copied first.drawing into v.made copy.holder copy.comes in
      let ext = extends-then v copied (append v.made into copied) first.extends second.extends in
      let later : (x : ℕ) → 0 < occurs x copied.forest → (x ≡ into → ⊥) → Keeps copied (append v.made into copied) x = λ x i ne. keeps-alone v.made into copied first.drawing.sound copy.fits copy.alone x i ne (unlisted-copies (document_of_clone v n) (tree_at n v.forest) v d.sound first.drawing.sound x) in
      let safe = copies-safe low bad v.made (document_of_clone v n) v.made (tree_at n v.forest) (omega arith) in
      record {
        trees = copies;
        stands =
            safe-kept low bad [] (record { old = old; within = λ x z. refl }) v.made copied (append v.made into copied) into k.fresh (new-greater low v d into into_there) d.begun second.extends (λ x i ne z. later x i ne) copies safe
            (stands-copies (document_of_clone v n) (tree_at n v.forest) v d.sound first.drawing.sound);
        added =
            added-alone v.made into copied first.drawing.sound copy.fits copy.alone (unlisted-copies (document_of_clone v n) (tree_at n v.forest) v d.sound first.drawing.sound into)
            ∙ ap (λ ns. ns ++ (v.made ∷ [])) (old_children into into_there)
            ∙ ap (λ ns. children_of v.forest into ++ ns) (sym one_top);
        shaped =
            tree_shape-renumbered (document_of_clone v n) v.made (tree_at n v.forest)
            ∙ stands-shape v (tree_at n v.forest) (tree_at n w.forest) here st (same_top ∙ sym a.top)
            ∙ a.told;
        steps =
            subst (λ ns. InStep (NodeFrom false low bad) ns (tree_nodes copies))
            (numbers ∙ a.opens)
            (steps-copies low bad (document_of_clone v n) v.made (tree_at n v.forest) d.begun);
        tagged =
            subst (λ ns. InStep (TagFrom w) ns (tree_nodes copies)) a.opens
            (tags-copies w v (document_of_clone v n) v.made (tree_at n w.forest) (tree_at n v.forest) a.tagged (stands-tags v (tree_at n w.forest) st) (stands-tags v (tree_at n v.forest) here) numbers);
        safe = safe;
        keeps = λ x i ne z. keeps-then v copied (append v.made into copied) x (keeps-copies (document_of_clone v n) (tree_at n v.forest) v x i) (later x (first.extends.there x i) ne);
        drawing = second.drawing;
        extends = ext;
      }
    where
      old_children : (x : ℕ) → 0 < occurs x v.forest → children_of copied.forest x ≡ children_of v.forest x
      old_children x i = let j = keeps-copies (document_of_clone v n) (tree_at n v.forest) v x i in j.children

  pub child-drew : (moves : Bool) → IsAside low bad w n → Stands v (tree_at n w.forest) → Drew w moves low bad (p ∷ []) v (child_into moves into n v) into (nodes_tokens w.forest (n ∷ []))
  child-drew true a st = itself a st
  child-drew false a st = as_copy a st

  -- other nodes keep their parents
  pub child-parents : (moves : Bool) (x : ℕ) → 0 < occurs x v.forest → (x ≡ n → ⊥) → parent_of (child_into moves into n v).forest x ≡ parent_of v.forest x
  child-parents true x i ne = parent_kept-alone n into v d.sound fits no_fragment x i ne
  child-parents false x i ne =
      parent_kept-alone v.made into copied first.drawing.sound copy.fits copy.alone x (first.extends.there x i) (λ j. let z = d.sound.forest.small x (omega arith) in omega arith)
      ∙ parent_kept-copies (document_of_clone v n) (tree_at n v.forest) v x i

-- the tokens of nodes are those of the first and those of the others
pub nodes_tokens-first : (w : World) (n : ℕ) (ns : List ℕ) → nodes_tokens w.forest (n ∷ ns) ≡ nodes_tokens w.forest (n ∷ []) ++ nodes_tokens w.forest ns
nodes_tokens-first w n ns = ap (λ ts. ts ++ nodes_tokens w.forest ns) (sym (append-nil (tokens_among n (token_texts no_marks w.forest))))

-- a child that waits where it stood
pub record Waits (low : ℕ) (bad : List ℕ) (w v : World) (p n : ℕ) : Type 0 where
  pub drawable : IsDrawable low v n
  pub aside : IsAside low bad w n
  pub stands : Stands v (tree_at n w.forest)
  pub parent : parent_of v.forest n ≡ Some p

pub children-drew : (low : ℕ) (bad : List ℕ) → ((x : ℕ) → low ≤ x → hits x bad ≡ 0) → (w : World) (into p : ℕ) → p < low → 0 < hits p bad → (moves : Bool) (ns : List ℕ) (v : World) → IsDrawing low v → IsHolder low v into → ((n : ℕ) → 0 < hits n ns → Waits low bad w v p n) → ((n : ℕ) → hits n ns ≤ 1) →
    Drew w moves low bad (p ∷ []) v (children_into moves into ns v) into (nodes_tokens w.forest ns)
children-drew low bad old w into p p_old p_bad moves [] v d k each once = drew-none w moves low bad (p ∷ []) v into d
children-drew low bad old w into p p_old p_bad moves (n ∷ ns) v d k each once =
    let u = child_into moves into n v in
    let a = each n (hits-first n ns) in
    let first = child-drew low bad old w into n p v d k a.drawable a.parent p_old p_bad moves a.aside a.stands in
    let ku = holder-extends low v u into first.extends k in
    let b = children-drew low bad old w into p p_old p_bad moves ns u first.drawing ku (λ m i. waits first m i) (λ m. let j = once m in omega arith) in
    let hi = passes_there may_be_parent v.forest into k.kind in
    drew-as w moves low bad ((p ∷ []) ++ (p ∷ [])) (p ∷ []) v (children_into moves into ns u) into (nodes_tokens w.forest (n ∷ []) ++ nodes_tokens w.forest ns) (nodes_tokens w.forest (n ∷ ns)) (ap shape (sym (nodes_tokens-first w n ns))) (ap opened_in (sym (nodes_tokens-first w n ns))) (λ x z. omega arith)
    (drew-then w moves low bad (p ∷ []) (p ∷ []) (old-one low bad old p p_bad) v u (children_into moves into ns u) into (nodes_tokens w.forest (n ∷ [])) (nodes_tokens w.forest ns) k.fresh (new-greater low v d into hi) d.begun first b)
  where
    waits : Drew w moves low bad (p ∷ []) v (child_into moves into n v) into (nodes_tokens w.forest (n ∷ [])) → (m : ℕ) → 0 < hits m ns → Waits low bad w (child_into moves into n v) p m
    waits first m i =
        let a = each n (hits-first n ns) in
        let b = each m (omega arith) in
        let hi = passes_there may_be_parent v.forest into k.kind in
        let ne : m ≡ n → ⊥ = λ e. let o = once n in grind (arith, nat_tests) in
        let far = each-weaker (λ x. (x < low) × (hits x bad ≡ 0)) (IsSafe low bad v.made) (λ x j. inr j) (tree_at m w.forest) b.aside.far in
        record {
          drawable = drawable-extends low v (child_into moves into n v) m first.extends b.drawable;
          aside = b.aside;
          stands = safe-kept low bad (p ∷ []) (old-one low bad old p p_bad) v.made v (child_into moves into n v) into k.fresh (new-greater low v d into hi) d.begun first.extends first.keeps (tree_at m w.forest) far b.stands;
          parent = child-parents low bad old w into n p v d k a.drawable a.parent p_old p_bad moves m (passes_there is_drawn v.forest m b.drawable.kind) ne ∙ b.parent;
        }
