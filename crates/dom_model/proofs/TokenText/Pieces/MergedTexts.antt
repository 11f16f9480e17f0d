-- The token texts where a Text is joined with the next.
use Rattle.std.proofs.Common.{◌≡◌, ℕ, suc, ◌+◌, ◌<◌, ◌≤◌, ◌==◌, true, List, [], ◌∷◌, ◌++◌, length, refl, ap, sym, ◌∙◌, subst, arith, append_assoc}
use Rattle.dom_model.specs.Definitions.{is_character_data, Node, Forest, empty, node, occurs, beside, Content, Point, with_data, Token, Open, Close, OneUnit, point, unit_tokens, child_tokens, token_texts, at_gap, in_gap, seam_out, open_out, tokens_among, unmarked, no_marks, on_texts, Merge}
use Rattle.dom_model.proofs.PlainLists.Numbers.{same_or, same, apart}
use Rattle.dom_model.proofs.TokenText.{Pieces.TokenLists.AreMarks, Pieces.TokenLists.seam_out-marks, Pieces.TokenLists.open_out-marks, Pieces.TextWalks.walk, Pieces.TextParts.breadth, Pieces.TextParts.inside, Pieces.TextParts.own, Pieces.TextParts.child_front, Pieces.TextParts.unit_front, Pieces.TextParts.child_tokens-beside, Pieces.TextParts.unit_tokens-append, Pieces.TextParts.unit_tokens-front, Pieces.TextPieces.Closes-inside, Pieces.TextPieces.unmarked-own, Pieces.TextPieces.own-same, Pieces.TextPieces.child_front-same, Pieces.TextPieces.unit_front-same, Pieces.TextPieces.children-same, Pieces.TextContexts.AgreeOff, Pieces.TextContexts.with_root, Pieces.TextPoints.unit_back, Pieces.TextPoints.unit_tokens-back, Pieces.TextPoints.unit_back-same, Pieces.TextGaps.in_gap-around, Pieces.TextSiblings.Siblings, Pieces.TextsClosedUp.tokens_among-there, Marked.MarkedTexts.same_itself, Marked.MarkersMoved.at_gap-here, Marked.GapOpened.equal, Pieces.TextParts.inside-data}

-- the close behind units and the open after it go
seam_out-units : (marks : (Point → List Token)) → ((p : Point) → AreMarks (marks p)) → (n i : ℕ) (us : List ℕ) (ts : List Token) → seam_out (unit_tokens marks n i us ++ ts) ≡ unit_tokens marks n i us ++ seam_out ts
seam_out-units marks only n i [] ts = seam_out-marks (marks (point n i)) ts (only (point n i))
seam_out-units marks only n i (u ∷ us) ts =
    ap seam_out (append_assoc (marks (point n i)) (OneUnit u ∷ unit_tokens marks n (suc i) us) ts)
    ∙ seam_out-marks (marks (point n i)) (OneUnit u ∷ (unit_tokens marks n (suc i) us ++ ts)) (only (point n i))
    ∙ ap (λ (vs : List Token). marks (point n i) ++ (OneUnit u ∷ vs)) (seam_out-units marks only n (suc i) us ts)
    ∙ sym (append_assoc (marks (point n i)) (OneUnit u ∷ unit_tokens marks n (suc i) us) (seam_out ts))

one_text : (a : List Token) (n : ℕ) (f m : List Token) (z : ℕ) (u l s v b c t : List Token) → (a ++ (Open n ∷ (f ++ m))) ++ (Open z ∷ ((u ++ l) ++ (s ++ ((v ++ b) ++ (Close ∷ (c ++ t)))))) ≡ a ++ (Open n ∷ ((f ++ (m ++ (Open z ∷ ((u ++ ((l ++ (s ++ v)) ++ b)) ++ (Close ∷ c))))) ++ t))
one_text a n f m z u l s v b c t = simp append_assoc

module _ (marks marks' : Point → List Token) (only : (p : Point) → AreMarks (marks p)) (g : Forest Content) (k : ℕ) (y z x : Node Content) (ys zs xs fs bs : Forest Content)
    (s : Siblings marks g k y z ys zs fs (node x xs bs)) (s2 : Siblings marks g (suc k) y x ys xs (beside fs (node z zs empty)) bs) (long : breadth fs ≡ k) (is_data : is_character_data z.label.kind ≡ true) (next_data : is_character_data x.label.kind ≡ true)
    (elsewhere : (q : Point) → (q.node ≡ y.number → ⊥) → (q.node ≡ z.number → ⊥) → (q.node ≡ x.number → ⊥) → marks' q ≡ marks q)
    (earlier : (j j' : ℕ) → j' ≡ j → j ≤ k → marks' (point y.number j') ≡ marks (point y.number j))
    (later : (j j' : ℕ) → suc j' ≡ j → k < j' → marks' (point y.number j') ≡ marks (point y.number j))
    (kept : (j j' : ℕ) → j' ≡ j → j < length z.body.text → marks' (point z.number j') ≡ marks (point z.number j))
    (seam : marks' (point z.number (length z.body.text)) ≡ marks (point z.number (length z.body.text)) ++ (marks (point y.number (suc k)) ++ marks (point x.number 0)))
    (moved : (j j' : ℕ) → j' ≡ length z.body.text + j → 0 < j → marks' (point z.number j') ≡ marks (point x.number j))
    (emptied : (q : Point) → q.node ≡ x.number → marks' q ≡ []) where
  both : (m : ℕ) → occurs m (node x xs bs) ≡ occurs m (node x xs empty) + occurs m bs
  both m = omega arith

  away_from : (f : Forest Content) → occurs y.number f ≡ 0 → occurs z.number f ≡ 0 → occurs x.number f ≡ 0 → (q : Point) → 0 < occurs q.node f → marks' q ≡ marks q
  away_from f a b c q h = elsewhere q (off y.number a) (off z.number b) (off x.number c)
    where
      off : (n : ℕ) → occurs n f ≡ 0 → q.node ≡ n → ⊥
      off n e d = let i : occurs q.node f ≡ 0 = subst (λ l. occurs l f ≡ 0) (sym d) e in absurd (omega arith)

  in_parent : 0 < occurs z.number ys
  in_parent = let a = s.parts z.number in let b = s.itself in omega arith

  next_in_parent : 0 < occurs x.number ys
  next_in_parent = let a = s2.parts x.number in let b = s2.itself in omega arith

  agree : AgreeOff (node y ys empty) marks marks'
  agree q h = elsewhere q
      (λ d. absurd (let e : (y.number == q.node) ≡ true = equal y.number q.node (sym d) in let j = rw e at h in omega arith))
      (λ d. absurd (let e : 0 < occurs q.node ys = subst (λ n. 0 < occurs n ys) (sym d) in_parent in omega arith))
      (λ d. absurd (let e : 0 < occurs q.node ys = subst (λ n. 0 < occurs n ys) (sym d) next_in_parent in omega arith))

  abbrev front : List Token
  front = child_front marks y.number 0 fs

  abbrev first : List Token
  first = unit_front marks z.number 0 z.body.text

  abbrev second : List Token
  second = unit_back marks x.number 0 x.body.text

  abbrev rest : List Token
  rest = child_tokens marks y.number (suc (suc k)) bs

  abbrev joined : Node Content
  joined = with_data (z.body.text ++ x.body.text) z

  after : inside marks' y (beside fs (node joined zs bs)) ≡ front ++ (marks (point y.number k) ++ (Open z.number ∷ ((first ++ ((marks (point z.number (length z.body.text)) ++ (marks (point y.number (suc k)) ++ marks (point x.number 0))) ++ second)) ++ (Close ∷ rest))))
  after =
      let e1 : inside marks' y (beside fs (node joined zs bs)) ≡ child_tokens marks' y.number 0 (beside fs (node joined zs bs)) = rw s.kind refl in
      let e2 : 0 + breadth fs ≡ k = omega (arith, long) in
      let py = s.parts y.number in
      let pz = s.parts z.number in
      let px = s2.parts x.number in
      let px2 = s.parts x.number in
      let by = both y.number in
      let bz = both z.number in
      let bx = both x.number in
      let ay = s.parent_above in
      let oz = s.below_parent z.number in
      let ox = s.below_parent x.number in
      let iz = s.itself in
      let ix = s2.itself in
      let f : child_front marks' y.number 0 fs ≡ front = child_front-same marks marks' y.number 0 0 fs (λ j j' d a b. earlier j j' (omega arith) (omega (arith, long))) (away_from fs (omega arith) (omega arith) (omega arith)) in
      let r : child_tokens marks' y.number (suc k) bs ≡ rest = children-same marks marks' y.number (suc (suc k)) (suc k) bs (λ j j' d a b. later j j' (omega arith) (omega arith)) (away_from bs (omega arith) (omega arith) (omega arith)) in
      let u : unit_front marks' z.number 0 z.body.text ≡ first = unit_front-same marks marks' z.number 0 0 z.body.text (λ j j' d a b. kept j j' (omega arith) (omega arith)) in
      let v : unit_back marks' z.number (length z.body.text) x.body.text ≡ second = unit_back-same marks marks' x.number z.number 0 (length z.body.text) x.body.text (λ j j' d a b. moved j j' (omega arith) (omega arith)) in
      let e3 : 0 + length z.body.text ≡ length z.body.text = omega arith in
      let i : inside marks' joined zs ≡ first ++ ((marks (point z.number (length z.body.text)) ++ (marks (point y.number (suc k)) ++ marks (point x.number 0))) ++ second) =
      inside-data marks' joined zs is_data ∙ unit_tokens-append marks' z.number 0 z.body.text x.body.text
      ∙ (rw (e3, u, unit_tokens-back marks' z.number (length z.body.text) x.body.text, seam, v) refl) in
      e1 ∙ child_tokens-beside marks' y.number 0 fs (node joined zs bs) ∙ (rw (e2, f, earlier k k refl (omega arith), i, r) refl)

  -- what the seam leaves
  seamless : (ts : List Token) → seam_out (inside marks z zs ++ (Close ∷ (child_tokens marks y.number (suc k) (node x xs bs) ++ ts))) ≡ (first ++ marks (point z.number (length z.body.text))) ++ (marks (point y.number (suc k)) ++ ((marks (point x.number 0) ++ second) ++ (Close ∷ (rest ++ ts))))
  seamless ts =
      let e3 : 0 + length z.body.text ≡ length z.body.text = omega arith in
      let u : inside marks z zs ≡ first ++ marks (point z.number (length z.body.text)) = inside-data marks z zs is_data ∙ unit_tokens-front marks z.number 0 z.body.text ∙ ap (λ l. first ++ marks (point z.number l)) e3 in
      let v : inside marks x xs ≡ marks (point x.number 0) ++ second = inside-data marks x xs next_data ∙ unit_tokens-back marks x.number 0 x.body.text in
      let past : List Token = inside marks x xs ++ (Close ∷ rest) in
      ap (λ (us : List Token). seam_out (us ++ (Close ∷ ((marks (point y.number (suc k)) ++ (Open x.number ∷ past)) ++ ts)))) (inside-data marks z zs is_data)
      ∙ seam_out-units marks only z.number 0 z.body.text (Close ∷ ((marks (point y.number (suc k)) ++ (Open x.number ∷ past)) ++ ts))
      ∙ ap (λ (us : List Token). us ++ open_out ((marks (point y.number (suc k)) ++ (Open x.number ∷ past)) ++ ts)) (sym (inside-data marks z zs is_data) ∙ u)
      ∙ ap (λ (us : List Token). (first ++ marks (point z.number (length z.body.text))) ++ us)
      (ap open_out (append_assoc (marks (point y.number (suc k))) (Open x.number ∷ past) ts)
      ∙ open_out-marks (marks (point y.number (suc k))) (Open x.number ∷ (past ++ ts)) (only (point y.number (suc k)))
      ∙ ap (λ (us : List Token). marks (point y.number (suc k)) ++ us) (append_assoc (inside marks x xs) (Close ∷ rest) ts ∙ ap (λ (us : List Token). us ++ (Close ∷ (rest ++ ts))) v))

  at_start : (around : List Point) (ts : List Token) → at_gap (point z.number 0) seam_out (point z.number 0 ∷ around) (inside marks z zs ++ (Close ∷ ts)) ≡ seam_out (inside marks z zs ++ (Close ∷ ts))
  at_start around ts = at_gap-here (point z.number 0) seam_out (inside marks z zs) Close ts (point z.number 0 ∷ around) (same_itself (point z.number 0))

  next_tokens : tokens_among x.number (token_texts marks g) ≡ own marks x xs
  next_tokens =
      let fr = s2.free x.number next_in_parent in
      ap (tokens_among x.number) s2.spells
      ∙ tokens_among-there x.number s2.around.above s2.around.below (s2.around.ahead ++ (Open y.number ∷ (child_front marks y.number 0 (beside fs (node z zs empty)) ++ marks (point y.number (suc k))))) (inside marks x xs) (child_tokens marks y.number (suc (suc k)) bs ++ (Close ∷ s2.around.behind)) fr.above_it s2.ahead_free fr.below_it (Closes-inside marks only x xs)

  pub merged-texts : (xs ≡ empty) → on_texts (Merge z.number x.number) (token_texts marks g) ≡ token_texts marks' (with_root y.number y (beside fs (node joined zs bs)) g) ++ token_texts marks' (node x xs empty)
  merged-texts alone =
      let fr = s.free z.number in_parent in
      let pre : List Token = s.around.ahead ++ (Open y.number ∷ (front ++ marks (point y.number k))) in
      let past : List Token = child_tokens marks y.number (suc k) (node x xs bs) ++ (Close ∷ s.around.behind) in
      ap (λ (ts : List Token). in_gap (point z.number 0) seam_out (token_texts marks g) ++ (unmarked ts ∷ [])) next_tokens
      ∙ ap (λ (ts : List Token). in_gap (point z.number 0) seam_out (token_texts marks g) ++ (ts ∷ [])) (unmarked-own marks only x xs ∙ sym (own-same no_marks marks' x xs (λ q h. emptied q (at_next alone q h))))
      ∙ ap (λ (ts : List (List Token)). ts ++ token_texts marks' (node x xs empty))
      (ap (in_gap (point z.number 0) seam_out) s.spells
      ∙ in_gap-around s.around.above pre z.number (inside marks z zs ++ (Close ∷ past)) s.around.below (point z.number 0) seam_out fr.above_it s.ahead_free fr.below_it
      ∙ ap (λ (ts : List Token). s.around.above ++ ((pre ++ (Open z.number ∷ ts)) ∷ s.around.below)) (at_start (walk pre []) past ∙ seamless (Close ∷ s.around.behind))
      ∙ ap (λ (ts : List Token). s.around.above ++ (ts ∷ s.around.below)) (one_text s.around.ahead y.number front (marks (point y.number k)) z.number first (marks (point z.number (length z.body.text))) (marks (point y.number (suc k))) (marks (point x.number 0)) second rest (Close ∷ s.around.behind))
      ∙ sym (s.around.spelt marks' y (beside fs (node joined zs bs)) refl agree
      ∙ ap (λ (ts : List Token). s.around.above ++ ((s.around.ahead ++ (Open y.number ∷ (ts ++ (Close ∷ s.around.behind)))) ∷ s.around.below)) after))
    where
      at_next : xs ≡ empty → (q : Point) → 0 < occurs q.node (node x xs empty) → q.node ≡ x.number
      at_next alone q h = elim (same_or x.number q.node) [
        | same d t ↦ sym d
        | apart ne t ↦ absurd (let z0 : occurs q.node xs ≡ 0 = ap (occurs q.node) alone in let h2 = rw t at h in omega arith)
      ]
