-- A marker set at a boundary point stands in that point's gap.
use Rattle.std.proofs.Common.{◌≡◌, ℕ, suc, ◌≤◌, Bool, true, false, List, [], ◌∷◌, ◌++◌, Option, Some, None, option_map, refl, ap, sym, ◌∙◌, ◌==◌, inl, inr}
use Rattle.std.specs.List.{list_any}
use Rattle.std.proofs.lemmas.{List.Folds.list_any-append, Bool.and_parts, Bool.eqb-true, Bool.cond_both, Bool.or_parts, Bool.eq-eqb, Bool.cases_Bool}
use Rattle.dom_model.specs.Definitions.{is_character_data, Node, Forest, empty, node, occurs, root_of, KindsFit, Content, Point, node_length, unit_count, Token, Open, Close, Mark, point, same_point, same_side, no_marks, unit_tokens, child_tokens, token_texts, is_mark_of, passed, gap_of, gap_among, at_gap, mark_in, text_among, tokens_ahead}
use Rattle.dom_model.proofs.PlainLists.Numbers.{same_or, same, apart}
use Rattle.dom_model.proofs.Forests.Changes.{seen, nothing, just}
use Rattle.dom_model.proofs.TokenText.{PointGaps.GapWalk.tree_tokens, PointGaps.GapsInOrder.gap-found}

same_point-is : (p q : Point) → same_point p q ≡ true → q ≡ p
same_point-is p q h =
    let i = and_parts (p.node == q.node) (p.offset == q.offset) h in
    ap (λ n. point n q.offset) (sym (eqb-true p.node q.node i.0)) ∙ ap (point p.node) (sym (eqb-true p.offset q.offset i.1))

module _ (r : ℕ) (side : Bool) where
  own-mark : is_mark_of r side (Mark r side) ≡ true
  own-mark = rw (eq-eqb r r refl) (sides side)
    where
      sides : (v : Bool) → same_side v v ≡ true
      sides true = refl
      sides false = refl

  counted : (p : Point) (o : Option ℕ) → option_map (λ (_ : ℕ). p) o ≡ option_map (λ (_ : ℕ). p) (option_map (λ k. suc k) o)
  counted p None = refl
  counted p (Some k) = refl

  -- among tokens of which none is a marker of that side, the marker answers the point where there is its gap
  pub marked-gap : (p : Point) (here : List Point) (ts : List Token) → list_any (is_mark_of r side) ts ≡ false → gap_of r side here (at_gap p (λ us. Mark r side ∷ us) here ts) ≡ option_map (λ _. p) (tokens_ahead p here ts)
  marked-gap p here [] h = refl
  marked-gap p [] (t ∷ ts) h =
      let k = or_parts (is_mark_of r side t) (list_any (is_mark_of r side) ts) h in
      rw k.0 (marked-gap p (passed t []) ts k.1 ∙ counted p (tokens_ahead p (passed t []) ts))
  marked-gap p (q ∷ around) (t ∷ ts) h =
      let k = or_parts (is_mark_of r side t) (list_any (is_mark_of r side) ts) h in
      elim (cases_Bool (same_point p q)) [
        | inl d ↦ rw (d, own-mark) (ap (λ x. Some x) (same_point-is p q d))
        | inr d ↦ rw (d, k.0) (marked-gap p (passed t (q ∷ around)) ts k.1 ∙ counted p (tokens_ahead p (passed t (q ∷ around)) ts))
      ]

  -- The texts of a forest without markers have no marker.

  no_mark-units : (n i : ℕ) (units : List ℕ) → list_any (is_mark_of r side) (unit_tokens no_marks n i units) ≡ false
  no_mark-units n i [] = refl
  no_mark-units n i (u ∷ units) = no_mark-units n (suc i) units

  no_mark-tree : (x : Node Content) (kids : Forest Content) → list_any (is_mark_of r side) (child_tokens no_marks x.number 0 kids) ≡ false → list_any (is_mark_of r side) (tree_tokens x kids) ≡ false
  no_mark-tree x kids below =
      let units = no_mark-units x.number 0 x.body.text in
      cond_both (is_character_data x.label.kind) (unit_tokens no_marks x.number 0 x.body.text) (child_tokens no_marks x.number 0 kids)
      (λ ts. list_any (is_mark_of r side) ts ≡ false) (λ e. units) (λ e. below)

  no_mark-children : (n i : ℕ) (f : Forest Content) → list_any (is_mark_of r side) (child_tokens no_marks n i f) ≡ false
  no_mark-children n i empty = refl
  no_mark-children n i (node x kids rest) =
      list_any-append (is_mark_of r side) (tree_tokens x kids) (Close ∷ child_tokens no_marks n (suc i) rest)
      ∙ (rw (no_mark-tree x kids (no_mark-children x.number 0 kids)) (no_mark-children n (suc i) rest))

  no_mark-root : (x : Node Content) (kids : Forest Content) → list_any (is_mark_of r side) (Open x.number ∷ (tree_tokens x kids ++ Close ∷ [])) ≡ false
  no_mark-root x kids =
      list_any-append (is_mark_of r side) (tree_tokens x kids) (Close ∷ []) ∙ (rw (no_mark-tree x kids (no_mark-children x.number 0 kids)) refl)

  marked-texts : (p : Point) (root k : ℕ) (f : Forest Content) → tokens_ahead p [] (text_among root (token_texts no_marks f)) ≡ Some k → gap_among r side (mark_in r side p (token_texts no_marks f)) ≡ Some p
  marked-texts p root k empty h = absurd (let d : None ≡ Some k = h in cc d)
  marked-texts p root k (node x kids rest) h =
      let text = Open x.number ∷ (tree_tokens x kids ++ Close ∷ []) in
      let here = marked-gap p [] text (no_mark-root x kids) in
      elim (seen (tokens_ahead p [] text)) [
        | just j e ↦ rw (here, e) refl
        | nothing e ↦ rw (here, e) (marked-texts p root k rest (later e))
      ]
    where
      later : tokens_ahead p [] (Open x.number ∷ (tree_tokens x kids ++ Close ∷ [])) ≡ None → tokens_ahead p [] (text_among root (token_texts no_marks rest)) ≡ Some k
      later e = elim (same_or x.number root) [ same d t ↦ absurd (let g = rw t at h in let w : Some k ≡ None = sym g ∙ e in cc w) | apart ne t ↦ rw t at h ]

  -- A marker set at a boundary point, where the texts have no other, stands in that point's gap.
  pub marker-in_gap : (f : Forest Content) → ((m : ℕ) → occurs m f ≤ 1) → KindsFit None f → (p : Point) (root : ℕ) → root_of f p.node ≡ Some root → p.offset ≤ node_length unit_count f p.node → gap_among r side (mark_in r side p (token_texts no_marks f)) ≡ Some p
  marker-in_gap f o kinds p root e l = let g = gap-found f o kinds root p e l in marked-texts p root g.0 f g.1
