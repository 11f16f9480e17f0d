-- A marked text is the text without markers, with the markers of each gap put in as a walk comes to it.
use Rattle.std.proofs.Common.{◌≡◌, ℕ, suc, ◌+◌, List, [], ◌∷◌, ◌++◌, map, refl, ap, sym, ◌∙◌, arith, append_assoc, inl, inr}
use Rattle.std.proofs.lemmas.Bool.{cases_Bool}
use Rattle.dom_model.specs.Definitions.{is_character_data, Node, Forest, empty, node, Content, Point, Token, Open, Close, OneUnit, point, no_marks, unit_tokens, inner_tokens, child_tokens, token_texts, stepped, passed}
use Rattle.dom_model.proofs.TokenText.PointGaps.GapWalk.{tree_tokens}

-- the markers of the gap that a walk has come to
abbrev pub gap_marks : (Point → List Token) → List Point → List Token
gap_marks marks [] = []
gap_marks marks (p ∷ around) = marks p

abbrev pub dressed : (Point → List Token) → List Point → List Token → List Token
dressed marks here [] = []
dressed marks here (t ∷ ts) = gap_marks marks here ++ (t ∷ dressed marks (passed t here) ts)

module _ (marks : Point → List Token) where
  dressed-units : (n i j : ℕ) (units : List ℕ) (around : List Point) (ts : List Token) → dressed marks (point n i ∷ around) (unit_tokens no_marks n j units ++ Close ∷ ts) ≡ unit_tokens marks n i units ++ Close ∷ dressed marks (stepped around) ts
  dressed-units n i j [] around ts = refl
  dressed-units n i j (u ∷ units) around ts =
      let e : i + 1 ≡ suc i = omega arith in
      ap (λ us. marks (point n i) ++ (OneUnit u ∷ us))
      (dressed-units n (i + 1) (suc j) units around ts ∙ ap (λ k. unit_tokens marks n k units ++ Close ∷ dressed marks (stepped around) ts) e)
      ∙ sym (append_assoc (marks (point n i)) (OneUnit u ∷ unit_tokens marks n (suc i) units) (Close ∷ dressed marks (stepped around) ts))

  dressed-tree : (x : Node Content) (kids : Forest Content) (around : List Point) (ts : List Token) → dressed marks (point x.number 0 ∷ around) (child_tokens no_marks x.number 0 kids ++ Close ∷ ts) ≡ child_tokens marks x.number 0 kids ++ Close ∷ dressed marks (stepped around) ts → dressed marks (point x.number 0 ∷ around) (tree_tokens x kids ++ Close ∷ ts) ≡ inner_tokens marks x (child_tokens marks x.number 0 kids) ++ Close ∷ dressed marks (stepped around) ts
  dressed-tree x kids around ts below =
      elim (cases_Bool (is_character_data x.label.kind)) [ inl v ↦ rw v (dressed-units x.number 0 0 x.body.text around ts) | inr v ↦ rw v below ]

  dressed-children : (n i j : ℕ) (f : Forest Content) (around : List Point) (ts : List Token) → dressed marks (point n i ∷ around) (child_tokens no_marks n j f ++ Close ∷ ts) ≡ child_tokens marks n i f ++ Close ∷ dressed marks (stepped around) ts
  dressed-children n i j empty around ts = refl
  dressed-children n i j (node x kids rest) around ts =
      let behind = child_tokens no_marks n (suc j) rest ++ Close ∷ ts in
      let here = point n i ∷ around in
      let e : i + 1 ≡ suc i = omega arith in
      let inner = inner_tokens marks x (child_tokens marks x.number 0 kids) in
      ap (λ us. marks (point n i) ++ (Open x.number ∷ us))
      (ap (dressed marks (point x.number 0 ∷ here)) (append_assoc (tree_tokens x kids) (Close ∷ child_tokens no_marks n (suc j) rest) (Close ∷ ts))
      ∙ dressed-tree x kids here behind (dressed-children x.number 0 0 kids here behind)
      ∙ ap (λ us. inner ++ Close ∷ us) (dressed-children n (i + 1) (suc j) rest around ts ∙ ap (λ k. child_tokens marks n k rest ++ Close ∷ dressed marks (stepped around) ts) e)
      ∙ sym (append_assoc inner (Close ∷ child_tokens marks n (suc i) rest) (Close ∷ dressed marks (stepped around) ts)))
      ∙ sym (append_assoc (marks (point n i)) (Open x.number ∷ (inner ++ (Close ∷ child_tokens marks n (suc i) rest))) (Close ∷ dressed marks (stepped around) ts))

  pub dressed-root : (x : Node Content) (kids : Forest Content) → dressed marks [] (Open x.number ∷ (tree_tokens x kids ++ Close ∷ [])) ≡ Open x.number ∷ (inner_tokens marks x (child_tokens marks x.number 0 kids) ++ Close ∷ [])
  dressed-root x kids = ap (λ us. Open x.number ∷ us) (dressed-tree x kids [] [] (dressed-children x.number 0 0 kids [] []))

  pub dressed-texts : (f : Forest Content) → token_texts marks f ≡ map (dressed marks []) (token_texts no_marks f)
  dressed-texts empty = refl
  dressed-texts (node x kids rest) = rw (dressed-root x kids, dressed-texts rest) refl
