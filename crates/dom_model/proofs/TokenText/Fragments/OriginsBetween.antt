-- The opens of the fragment that extracting or cloning makes, in step with those between the range's markers: a node that lies there wholly is
-- moved, where the contents are extracted, and each other open is a new node's, with the label and the attributes of the node that it is a copy
-- of. DOM Standard, "Interface Range".
use Rattle.std.proofs.Common.{◌≡◌, ℕ, zero, suc, ◌-◌, ◌<◌, ◌≤◌, Bool, true, false, if◌then◌else◌, List, [], ◌∷◌, ◌++◌, take, drop, length, Option, Some, None, refl, ap, sym, ◌∙◌, subst, arith, append-nil, ◌⊎◌, replicate}
use Rattle.std.proofs.lemmas.Bool.{false≢true}
use Rattle.dom_model.specs.Definitions.{hits, Label, Attribute, substring, Forest, entry_in, root_of, Content, Range, World, IsRange, IsSound, node_document, content_in, data_of, attributes_of, is_collapsed, range_at, is_in_one_data, common_of, new_fragment, units_into, parts_into, contents_drawn, check_draw, check_extract, extract, clone_contents, Token, Open, Close, no_marks, unit_tokens, unmarked, texts_of, text_among, root_text, before_mark, between, opens_left, closes_left, are_units, opened_in, opened_inside, lies_in, innermost, front_count, originals, label_of, InStep}
use Rattle.dom_model.proofs.Forests.Climbing.{hits-append}
use Rattle.dom_model.proofs.TokenText.{EditsMade.EditsOfDrawnContents.sound-range, EditsMade.EditsOfDrawnContents.check-range, Pieces.TokenLists.opened, Pieces.TokenLists.has_open-none, Contents.WithinData.BothIn, Contents.WithinData.both-in, Contents.WithinData.between-within, Contents.WithinData.before-within, Contents.PathTokens.start_path, Contents.PathTokens.end_path, Contents.PathTokens.parts_tokens, Contents.PathShapes.opens_of, Contents.BetweenParts.between-parts, Fragments.OpensInStep.steps-among, Fragments.OpensInStep.opened_in-append, Fragments.OpensInStep.opened_in-units, Fragments.OpensAround.innermost-none, Fragments.OpensAround.hits-opened, Fragments.OpensAround.opened_in-path, Fragments.OpensAround.has_open-some, Fragments.OpensAround.units-wait, Fragments.OpensAround.path-waits, Fragments.OpensAround.path-not_inside, Fragments.DrawnTrees.Drew, Fragments.DrawnTrees.IsFrom, Fragments.DrawnTrees.drew-none, Fragments.DrawnParts.parts-drew, Fragments.MatchedParts.opens-parts, Fragments.MatchedParts.closes-parts, Fragments.MatchedParts.closes-long, Fragments.MatchedParts.parts-none, Fragments.MatchedParts.start_path-none, Fragments.FragmentsBetween.between-none, Fragments.FragmentsBetween.units-are, Fragments.FragmentsBetween.cloned-forest, Fragments.FragmentsBetween.extracted-forest, Fragments.FragmentsBetween.TaggedAs, Fragments.FragmentsBetween.drawn-steps, Fragments.FragmentsBetween.drawn-tags, Fragments.FragmentsBetween.begins, Fragments.FragmentsBetween.units-came, Fragments.FragmentsBetween.units-some}

-- An open of the fragment: that of the node itself, where nodes are moved and it lies wholly among the tokens, and else of a new one.
abbrev pub IsOf : Bool → ℕ → List Token → ℕ → ℕ → Type 0
IsOf moves low ts n m = ((moves ≡ true) × (lies_in ts n ≡ true) × (m ≡ n)) ⊎ (((moves ≡ false) ⊎ (lies_in ts n ≡ false)) × (low ≤ m))

-- which nodes are on the ways to the ends, told by the tokens
record ToldBy (bad : List ℕ) (ts : List Token) (ns : List ℕ) : Type 0 where
  pub whole : (n : ℕ) → 0 < hits n ns → hits n bad ≡ 0 → lies_in ts n ≡ true
  pub parted : (n : ℕ) → 0 < hits n ns → 0 < hits n bad → lies_in ts n ≡ false

told-steps : (moves : Bool) (low : ℕ) (bad ns ms : List ℕ) (ts : List Token) → ToldBy bad ts ns → InStep (IsFrom moves low bad) ns ms → InStep (IsOf moves low ts) ns ms
told-steps moves low bad ns ms ts t h = steps-among (IsFrom moves low bad) (IsOf moves low ts) ns ms each h
  where
    each : (n m : ℕ) → 0 < hits n ns → IsFrom moves low bad n m → IsOf moves low ts n m
    each n m k i =
        let a = t.whole n k in
        let b = t.parted n k in
        grind arith

opened-units : (m n i : ℕ) (us : List ℕ) → opened m (unit_tokens no_marks n i us) ≡ 0
opened-units m n i us = sym (hits-opened m (unit_tokens no_marks n i us)) ∙ ap (hits m) (opened_in-units n i us)

front_count-units : (n : ℕ) (us : List ℕ) → 0 < length us → front_count (unit_tokens no_marks n 0 us) ≡ 1
front_count-units n [] l = absurd (omega arith)
front_count-units n (u ∷ us) l = rw (units-are n 1 us) refl

front_count-mixed : (ts : List Token) → are_units ts ≡ false → front_count ts ≡ length (closes_left 0 ts)
front_count-mixed [] h = absurd (false≢true (sym h))
front_count-mixed (t ∷ ts) h = rw h refl

module _ (w : World) (sound : IsSound w) (range : Range) (is : IsRange w.forest range) (r root : ℕ) (h : range_at w r ≡ Some range) (rooted : root_of w.forest range.start.node ≡ Some root) (moves : Bool) where
  abbrev grown : World
  grown = new_fragment (node_document w range.start.node) w

  abbrev text : List Token
  text = text_among root (texts_of w)

  abbrev inner : List Token
  inner = between r (text_among root (texts_of w))

  abbrev InOrder : World → Type 0
  InOrder u =
      InStep (IsOf moves w.made inner) (originals r text) (opened_inside (root_text u.forest w.made))
      × InStep (TaggedAs w.forest u.forest) (originals r text) (opened_inside (root_text u.forest w.made))

  -- by what was drawn: which nodes the text's opens and those drawn name, and which of them are on the ways
  in_order : (bad touched ns : List ℕ) (u : World) (ts : List Token) → Drew w moves w.made bad touched grown u w.made ts → originals r text ≡ ns → opened_in ts ≡ ns → ToldBy bad inner ns → InOrder u
  in_order bad touched ns u ts came named drawn told =
      let opens = opened_inside (root_text u.forest w.made) in (
        subst (λ ms. InStep (IsOf moves w.made inner) ms opens) (sym named)
            (told-steps moves w.made bad ns opens inner told (subst (λ ms. InStep (IsFrom moves w.made bad) ms opens) drawn (drawn-steps w sound range is moves bad touched u ts came))),
        subst (λ ms. InStep (TaggedAs w.forest u.forest) ms opens) (drawn ∙ sym named) (drawn-tags w sound range is moves bad touched u ts came),
      )

  of_none : is_collapsed range ≡ true → InOrder grown
  of_none one =
      let none = between-none w sound range r root h rooted one in
      let opens = opens_left [] (unmarked (before_mark r true text)) in
      let named : originals r text ≡ [] = ap (λ ts. opened_in (innermost (front_count ts) opens ++ ts)) none ∙ ap (λ ts. opened_in (ts ++ [])) (innermost-none opens) in
      in_order [] [] [] grown [] (drew-none w moves w.made [] [] grown w.made (begins w sound range is)) named refl
      (record { whole = λ n k z. absurd (omega arith); parted = λ n k l. absurd (omega arith) })

  of_units : is_collapsed range ≡ false → is_in_one_data w range ≡ true → InOrder (units_into moves w.made range.start.node range.start.offset (range.end.offset - range.start.offset) grown)
  of_units wide one =
      let n = range.start.node in
      let into = units_into moves w.made range.start.node range.start.offset (range.end.offset - range.start.offset) grown in
      let b = before-within w r root range sound h rooted both in
      let m = between-within w r root range sound h rooted both in
      let named : originals r text ≡ range.start.node ∷ [] =
      ap (λ ts. opened_in (innermost (front_count ts) (opens_left [] (unmarked (before_mark r true text))) ++ ts)) m
      ∙ ap (λ k. opened_in (innermost k (opens_left [] (unmarked (before_mark r true text))) ++ unit_tokens no_marks range.start.node 0 units)) (front_count-units range.start.node units (units-some w sound range is r root h rooted moves wide one))
      ∙ ap (λ ts. opened_in (innermost 1 (opens_left [] ts) ++ unit_tokens no_marks range.start.node 0 units)) b.2
      ∙ ap (λ ts. opened_in (ts ++ unit_tokens no_marks range.start.node 0 units)) (units-wait b.0 range.start.node b.1)
      ∙ ap (λ ns. range.start.node ∷ ns) (opened_in-units range.start.node 0 units)
      in
      let drawn : opened_in (Open range.start.node ∷ (unit_tokens no_marks range.start.node 0 copied ++ (Close ∷ []))) ≡ range.start.node ∷ [] =
      ap (λ ns. range.start.node ∷ ns) (opened_in-append (unit_tokens no_marks range.start.node 0 copied) (Close ∷ []) ∙ ap (λ (ns : List ℕ). ns ++ []) (opened_in-units range.start.node 0 copied))
      in
      in_order (n ∷ []) (n ∷ []) (n ∷ []) into _ (units-came w sound range is r root h rooted moves one) named drawn (record {
        whole = λ x k z. absurd (omega arith);
        parted = λ x k l. ap (λ ts. lies_in ts x) m ∙ (let o = has_open-none x (unit_tokens no_marks n 0 units) (opened-units x n 0 units) in rw o refl);
      })
    where
      units : List ℕ
      units = take (range.end.offset - range.start.offset) (drop range.start.offset (data_of w range.start.node))

      copied : List ℕ
      copied = substring range.start.offset (range.end.offset - range.start.offset) (data_of grown range.start.node)

      both : BothIn w range
      both = both-in w range one

  of_parts : is_collapsed range ≡ false → is_in_one_data w range ≡ false → check_draw w range ≡ None → InOrder (parts_into moves w.made range grown)
  of_parts wide two no_doctype =
      in_order bad _ (start_path w range ++ opened_in (parts_tokens w range)) (parts_into moves w.made range grown) _
      (parts-drew w sound range is no_doctype moves) named drawn told
    where
      bad : List ℕ
      bad = start_path w range ++ (common_of w range ∷ end_path w range)

      is_parts : inner ≡ parts_tokens w range
      is_parts = between-parts w r root range sound h rooted wide two

      fronts : front_count (parts_tokens w range) ≡ length (start_path w range)
      fronts = go (are_units (parts_tokens w range)) refl
        where
          go : (v : Bool) → are_units (parts_tokens w range) ≡ v → front_count (parts_tokens w range) ≡ length (start_path w range)
          go true e = ap front_count (parts-none w sound range is e) ∙ sym (ap (λ (ns : List ℕ). length ns) (start_path-none w sound range is e))
          go false e = front_count-mixed (parts_tokens w range) e ∙ ap (λ (ts : List Token). length ts) (closes-parts w sound range is) ∙ closes-long (start_path w range)

      named : originals r text ≡ start_path w range ++ opened_in (parts_tokens w range)
      named =
          ap (λ ts. opened_in (innermost (front_count ts) (opens_left [] (unmarked (before_mark r true text))) ++ ts)) is_parts
          ∙ ap (λ k. opened_in (innermost k (opens_left [] (unmarked (before_mark r true text))) ++ parts_tokens w range)) fronts
          ∙ ap (λ ts. opened_in (ts ++ parts_tokens w range)) (path-waits w sound range is r root h rooted two)
          ∙ opened_in-append (opens_of (start_path w range)) (parts_tokens w range)
          ∙ ap (λ ns. ns ++ opened_in (parts_tokens w range)) (opened_in-path (start_path w range))

      closes_none : (k : ℕ) → opened_in (replicate k Close) ≡ []
      closes_none zero = refl
      closes_none (suc k) = closes_none k

      drawn : opened_in (opens_of (start_path w range) ++ (parts_tokens w range ++ replicate (length (end_path w range)) Close)) ≡ start_path w range ++ opened_in (parts_tokens w range)
      drawn =
          opened_in-append (opens_of (start_path w range)) (parts_tokens w range ++ replicate (length (end_path w range)) Close)
          ∙ ap (λ ns. ns ++ opened_in (parts_tokens w range ++ replicate (length (end_path w range)) Close)) (opened_in-path (start_path w range))
          ∙ ap (λ ns. start_path w range ++ ns)
          (opened_in-append (parts_tokens w range) (replicate (length (end_path w range)) Close)
          ∙ ap (λ ns. opened_in (parts_tokens w range) ++ ns) (closes_none (length (end_path w range)))
          ∙ append-nil (opened_in (parts_tokens w range)))

      ends : (n : ℕ) → opened n (opens_left [] (parts_tokens w range)) ≡ hits n (end_path w range)
      ends n = ap (opened n) (opens-parts w sound range is) ∙ sym (hits-opened n (opens_of (end_path w range))) ∙ ap (hits n) (opened_in-path (end_path w range))

      told : ToldBy bad inner (start_path w range ++ opened_in (parts_tokens w range))
      told = record {
        whole = λ n k z.
            let a = hits-append n (start_path w range) (common_of w range ∷ end_path w range) in
            let b = hits-append n (start_path w range) (opened_in (parts_tokens w range)) in
            let c = hits-opened n (parts_tokens w range) in
            let e = ends n in
            let yes = has_open-some n (parts_tokens w range) (omega arith) in
            let no = has_open-none n (opens_left [] (parts_tokens w range)) (omega arith) in
            ap (λ ts. lies_in ts n) is_parts ∙ (rw (yes, no) refl);
        parted = λ n k l.
            let a = hits-append n (start_path w range) (common_of w range ∷ end_path w range) in
            let e = ends n in
            let yes = has_open-some n (opens_left [] (parts_tokens w range)) in
            let z = path-not_inside w sound range is r root h rooted two n in
            let no = has_open-none n (parts_tokens w range) in
            rw is_parts (grind arith);
      }

  drawn-origins : check_draw w range ≡ None → InOrder (contents_drawn moves range w)
  drawn-origins no_doctype = go (is_collapsed range) (is_in_one_data w range) refl refl
    where
      go : (a b : Bool) → is_collapsed range ≡ a → is_in_one_data w range ≡ b → InOrder (if a then grown else if b then units_into moves w.made range.start.node range.start.offset (range.end.offset - range.start.offset) grown else parts_into moves w.made range grown)
      go true b e d = of_none e
      go false true e d = of_units e d
      go false false e d = of_parts e d no_doctype

-- The laws of a forest with the fragment, where its nodes are in step with those of the text.

module _ (w : World) (r root : ℕ) (range : Range) (sound : IsSound w) (h : range_at w r ≡ Some range) (rooted : root_of w.forest range.start.node ≡ Some root) (fits : check_extract r w ≡ None) where
  abbrev marked_text : List Token
  marked_text = text_among root (texts_of w)

  abbrev copied_nodes : List ℕ
  copied_nodes = originals r (text_among root (texts_of w))

  drawn-in_order : (moves : Bool) → InOrder w sound range (sound-range w r range sound h) r root h rooted moves (contents_drawn moves range w)
  drawn-in_order moves = drawn-origins w sound range (sound-range w r range sound h) r root h rooted moves (check-range w r range h fits)

  labels-of : (f : Forest Content) → InStep (TaggedAs w.forest f) copied_nodes (opened_inside (root_text f w.made)) → InStep (λ n m. label_of f m ≡ label_of w.forest n) copied_nodes (opened_inside (root_text f w.made))
  labels-of f k = steps-among (TaggedAs w.forest f) (λ n m. label_of f m ≡ label_of w.forest n) copied_nodes (opened_inside (root_text f w.made)) (λ n m i e. ap (λ (t : (Option Label) × (List Attribute)). t.0) e) k

  attributes-of : (f : Forest Content) → InStep (TaggedAs w.forest f) copied_nodes (opened_inside (root_text f w.made)) → InStep (λ n m. (content_in (entry_in f m)).attributes ≡ attributes_of w n) copied_nodes (opened_inside (root_text f w.made))
  attributes-of f k = steps-among (TaggedAs w.forest f) (λ n m. (content_in (entry_in f m)).attributes ≡ attributes_of w n) copied_nodes (opened_inside (root_text f w.made)) (λ n m i e. ap (λ (t : (Option Label) × (List Attribute)). t.1) e) k

  -- Cloned contents: each node is new, with the label and the attributes of the one that it is a copy of.

  pub cloned-new : InStep (λ n m. w.made ≤ m) copied_nodes (opened_inside (root_text (clone_contents r w).forest w.made))
  cloned-new =
      subst (λ (f : Forest Content). InStep (λ n m. w.made ≤ m) copied_nodes (opened_inside (root_text f w.made))) (sym (cloned-forest w r range h))
      (steps-among (IsOf false w.made (between r marked_text)) (λ n m. w.made ≤ m) copied_nodes (opened_inside (root_text (contents_drawn false range w).forest w.made)) (λ n m k i. grind arith) (drawn-in_order false).0)

  cloned-tags : InStep (TaggedAs w.forest (clone_contents r w).forest) copied_nodes (opened_inside (root_text (clone_contents r w).forest w.made))
  cloned-tags = subst (λ (f : Forest Content). InStep (TaggedAs w.forest f) copied_nodes (opened_inside (root_text f w.made))) (sym (cloned-forest w r range h)) (drawn-in_order false).1

  pub cloned-labels : InStep (λ n m. label_of (clone_contents r w).forest m ≡ label_of w.forest n) copied_nodes (opened_inside (root_text (clone_contents r w).forest w.made))
  cloned-labels = labels-of (clone_contents r w).forest cloned-tags

  pub cloned-attributes : InStep (λ n m. attributes_of (clone_contents r w) m ≡ attributes_of w n) copied_nodes (opened_inside (root_text (clone_contents r w).forest w.made))
  cloned-attributes = attributes-of (clone_contents r w).forest cloned-tags

  -- Extracted contents: a node that lies wholly between the markers is itself, and each other is new.

  extracted-origins : InStep (IsOf true w.made (between r marked_text)) copied_nodes (opened_inside (root_text (extract r w).forest w.made))
  extracted-origins = subst (λ (f : Forest Content). InStep (IsOf true w.made (between r marked_text)) copied_nodes (opened_inside (root_text f w.made))) (sym (extracted-forest w r range h)) (drawn-in_order true).0

  pub extracted-same : InStep (λ n m. lies_in (between r (text_among root (texts_of w))) n ≡ true → m ≡ n) copied_nodes (opened_inside (root_text (extract r w).forest w.made))
  extracted-same =
      steps-among (IsOf true w.made (between r marked_text)) (λ n m. lies_in (between r marked_text) n ≡ true → m ≡ n) copied_nodes
      (opened_inside (root_text (extract r w).forest w.made)) (λ n m k i e. grind arith) extracted-origins

  pub extracted-new : InStep (λ n m. lies_in (between r (text_among root (texts_of w))) n ≡ false → w.made ≤ m) copied_nodes (opened_inside (root_text (extract r w).forest w.made))
  extracted-new =
      steps-among (IsOf true w.made (between r marked_text)) (λ n m. lies_in (between r marked_text) n ≡ false → w.made ≤ m) copied_nodes
      (opened_inside (root_text (extract r w).forest w.made)) (λ n m k i e. grind arith) extracted-origins

  extracted-tags : InStep (TaggedAs w.forest (extract r w).forest) copied_nodes (opened_inside (root_text (extract r w).forest w.made))
  extracted-tags = subst (λ (f : Forest Content). InStep (TaggedAs w.forest f) copied_nodes (opened_inside (root_text f w.made))) (sym (extracted-forest w r range h)) (drawn-in_order true).1

  pub extracted-labels : InStep (λ n m. label_of (extract r w).forest m ≡ label_of w.forest n) copied_nodes (opened_inside (root_text (extract r w).forest w.made))
  extracted-labels = labels-of (extract r w).forest extracted-tags

  pub extracted-attributes : InStep (λ n m. attributes_of (extract r w) m ≡ attributes_of w n) copied_nodes (opened_inside (root_text (extract r w).forest w.made))
  extracted-attributes = attributes-of (extract r w).forest extracted-tags
