-- The token texts where a Text is split.
use Rattle.std.proofs.Common.{◌≡◌, ℕ, suc, ◌+◌, ◌<◌, ◌≤◌, ◌==◌, true, List, [], ◌∷◌, ◌++◌, length, refl, ap, sym, ◌∙◌, subst, arith, append_assoc}
use Rattle.dom_model.specs.Definitions.{is_character_data, Node, Forest, empty, node, occurs, beside, Content, Point, with_data, Token, Open, Close, point, unit_tokens, child_tokens, token_texts, after_marks, at_gap, in_gap, on_texts, Parting}
use Rattle.dom_model.proofs.TokenText.{Pieces.TokenLists.AreMarks, Pieces.TokenLists.after_marks-marks, Pieces.TextWalks.walk, Pieces.TextParts.breadth, Pieces.TextParts.inside, Pieces.TextParts.child_front, Pieces.TextParts.unit_front, Pieces.TextParts.child_tokens-beside, Pieces.TextParts.unit_tokens-front, Pieces.TextPieces.child_front-same, Pieces.TextPieces.unit_front-same, Pieces.TextPieces.children-same, Pieces.TextContexts.AgreeOff, Pieces.TextContexts.with_root, Pieces.TextPoints.unit_back, Pieces.TextPoints.unit_tokens-back, Pieces.TextPoints.unit_back-same, Pieces.TextPoints.Gap, Pieces.TextPoints.gap_in_units, Pieces.TextGaps.in_gap-around, Pieces.TextSiblings.Siblings, Marked.MarkersMoved.gap-reached, Marked.GapOpened.equal, Pieces.TextParts.inside-data}

seam_in : (new : ℕ) (marks : (Point → List Token)) (n i : ℕ) (ms : List Token) (vs : List ℕ) (ts : List Token) → AreMarks ms → after_marks (Close ∷ Open new ∷ []) ((ms ++ unit_back marks n i vs) ++ (Close ∷ ts)) ≡ ms ++ (Close ∷ (Open new ∷ (unit_back marks n i vs ++ (Close ∷ ts))))
seam_in new marks n i ms vs ts h =
    ap (after_marks (Close ∷ Open new ∷ [])) (append_assoc ms (unit_back marks n i vs) (Close ∷ ts))
    ∙ after_marks-marks (Close ∷ Open new ∷ []) ms (unit_back marks n i vs ++ (Close ∷ ts)) h
    ∙ ap (λ (us : List Token). ms ++ us) (go vs)
  where
    go : (vs : List ℕ) → after_marks (Close ∷ Open new ∷ []) (unit_back marks n i vs ++ (Close ∷ ts)) ≡ Close ∷ (Open new ∷ (unit_back marks n i vs ++ (Close ∷ ts)))
    go [] = refl
    go (v ∷ vs) = refl

two_texts : (a : List Token) (n : ℕ) (f m : List Token) (z : ℕ) (u l : List Token) (x : ℕ) (b c t : List Token) → (a ++ (Open n ∷ (f ++ m))) ++ (Open z ∷ (u ++ (l ++ (Close ∷ (Open x ∷ (b ++ (Close ∷ (c ++ t)))))))) ≡ a ++ (Open n ∷ ((f ++ (m ++ (Open z ∷ ((u ++ l) ++ (Close ∷ (Open x ∷ (b ++ (Close ∷ c)))))))) ++ t))
two_texts a n f m z u l x b c t = simp append_assoc

module _ (marks marks' : Point → List Token) (only : (p : Point) → AreMarks (marks p)) (g : Forest Content) (k : ℕ) (y z x : Node Content) (ys zs fs bs : Forest Content) (us vs : List ℕ)
    (s : Siblings marks g k y z ys zs fs bs) (long : breadth fs ≡ k) (is_data : is_character_data z.label.kind ≡ true) (text : z.body.text ≡ us ++ vs) (new_data : is_character_data x.label.kind ≡ true) (new_text : x.body.text ≡ vs)
    (elsewhere : (q : Point) → (q.node ≡ y.number → ⊥) → (q.node ≡ z.number → ⊥) → marks' q ≡ marks q)
    (earlier : (j j' : ℕ) → j' ≡ j → j ≤ k → marks' (point y.number j') ≡ marks (point y.number j))
    (later : (j j' : ℕ) → j' ≡ suc j → k < j → marks' (point y.number j') ≡ marks (point y.number j))
    (between : marks' (point y.number (suc k)) ≡ [])
    (kept : (j j' : ℕ) → j' ≡ j → j ≤ length us → marks' (point z.number j') ≡ marks (point z.number j))
    (new_start : marks' (point x.number 0) ≡ [])
    (moved : (j j' : ℕ) → j ≡ length us + j' → 0 < j' → marks' (point x.number j') ≡ marks (point z.number j)) where
  away_from : (f : Forest Content) → occurs y.number f ≡ 0 → occurs z.number f ≡ 0 → (q : Point) → 0 < occurs q.node f → marks' q ≡ marks q
  away_from f a b q h = elsewhere q (λ d. absurd (let c : occurs q.node f ≡ 0 = subst (λ n. occurs n f ≡ 0) (sym d) a in omega arith)) (λ d. absurd (let c : occurs q.node f ≡ 0 = subst (λ n. occurs n f ≡ 0) (sym d) b in omega arith))

  in_parent : 0 < occurs z.number ys
  in_parent = let a = s.parts z.number in let b = s.itself in omega arith

  zf : occurs y.number fs ≡ 0
  zf = let a = s.parts y.number in let b = s.parent_above in omega arith

  zb : occurs y.number bs ≡ 0
  zb = let a = s.parts y.number in let b = s.parent_above in omega arith

  wf : occurs z.number fs ≡ 0
  wf = let a = s.parts z.number in let b = s.below_parent z.number in let c = s.itself in omega arith

  wb : occurs z.number bs ≡ 0
  wb = let a = s.parts z.number in let b = s.below_parent z.number in let c = s.itself in omega arith

  agree : AgreeOff (node y ys empty) marks marks'
  agree q h = elsewhere q
      (λ d. absurd (let e : (y.number == q.node) ≡ true = equal y.number q.node (sym d) in let j = rw e at h in omega arith))
      (λ d. absurd (let e : 0 < occurs q.node ys = subst (λ n. 0 < occurs n ys) (sym d) in_parent in omega arith))

  abbrev front : List Token
  front = child_front marks y.number 0 fs

  abbrev apart_kids : Forest Content
  apart_kids = beside fs (node (with_data us z) zs (node x empty bs))

  after : inside marks' y apart_kids ≡ front ++ (marks (point y.number k) ++ (Open z.number ∷ ((unit_front marks z.number 0 us ++ marks (point z.number (length us))) ++ (Close ∷ (Open x.number ∷ (unit_back marks z.number (length us) vs ++ (Close ∷ child_tokens marks y.number (suc k) bs)))))))
  after =
      let e1 : inside marks' y apart_kids ≡ child_tokens marks' y.number 0 apart_kids = rw s.kind refl in
      let e2 : 0 + breadth fs ≡ k = omega (arith, long) in
      let f : child_front marks' y.number 0 fs ≡ front = child_front-same marks marks' y.number 0 0 fs (λ j j' d a b. earlier j j' (omega arith) (omega (arith, long))) (away_from fs zf wf) in
      let old : inside marks' (with_data us z) zs ≡ unit_front marks z.number 0 us ++ marks (point z.number (length us)) =
      inside-data marks' (with_data us z) zs is_data ∙ unit_tokens-front marks' z.number 0 us
      ∙ (rw (unit_front-same marks marks' z.number 0 0 us (λ j j' d a b. kept j j' (omega arith) (omega arith)), kept (length us) (0 + length us) (omega arith) (omega arith)) refl) in
      let new : inside marks' x empty ≡ unit_back marks z.number (length us) vs =
      inside-data marks' x empty new_data ∙ ap (unit_tokens marks' x.number 0) new_text ∙ unit_tokens-back marks' x.number 0 vs
      ∙ ap (λ (ts : List Token). ts ++ unit_back marks' x.number 0 vs) new_start
      ∙ unit_back-same marks marks' z.number x.number (length us) 0 vs (λ j j' d a b. moved j j' (omega arith) (omega arith)) in
      let rest : child_tokens marks' y.number (suc (suc k)) bs ≡ child_tokens marks y.number (suc k) bs =
      children-same marks marks' y.number (suc k) (suc (suc k)) bs (λ j j' d a b. later j j' (omega arith) (omega arith)) (away_from bs zb wb) in
      e1 ∙ child_tokens-beside marks' y.number 0 fs (node (with_data us z) zs (node x empty bs)) ∙ (rw (e2, f, earlier k k refl (omega arith), old, between, new, rest) refl)

  abbrev cut : Gap marks z zs (length us)
  cut = gap_in_units marks only z zs (length us) is_data (record { first = us; last = vs; whole = text; long = refl })

  pub parted-texts : on_texts (Parting (point z.number (length us)) x.number) (token_texts marks g) ≡ token_texts marks' (with_root y.number y apart_kids g)
  parted-texts =
      let fr = s.free z.number in_parent in
      let pre : List Token = s.around.ahead ++ (Open y.number ∷ (front ++ marks (point y.number k))) in
      let past : List Token = child_tokens marks y.number (suc k) bs ++ (Close ∷ s.around.behind) in
      ap (in_gap (point z.number (length us)) (after_marks (Close ∷ Open x.number ∷ []))) s.spells
      ∙ in_gap-around s.around.above pre z.number (inside marks z zs ++ (Close ∷ past)) s.around.below (point z.number (length us)) (after_marks (Close ∷ Open x.number ∷ [])) fr.above_it s.ahead_free fr.below_it
      ∙ ap (λ (ts : List Token). s.around.above ++ ((pre ++ (Open z.number ∷ at_gap (point z.number (length us)) (after_marks (Close ∷ Open x.number ∷ [])) (point z.number 0 ∷ walk pre []) (ts ++ (Close ∷ past)))) ∷ s.around.below)) (cut.spelt marks (λ q h. refl))
      ∙ ap (λ (ts : List Token). s.around.above ++ ((pre ++ (Open z.number ∷ ts)) ∷ s.around.below))
      (gap-reached marks (after_marks (Close ∷ Open x.number ∷ [])) z zs (length us) cut past (walk pre [])
      ∙ ap (λ (ts : List Token). unit_front marks z.number 0 us ++ ts) (seam_in x.number marks z.number (length us) (marks (point z.number (length us))) vs past (only (point z.number (length us)))))
      ∙ ap (λ (ts : List Token). s.around.above ++ (ts ∷ s.around.below)) (two_texts s.around.ahead y.number front (marks (point y.number k)) z.number (unit_front marks z.number 0 us) (marks (point z.number (length us))) x.number (unit_back marks z.number (length us) vs) (child_tokens marks y.number (suc k) bs) (Close ∷ s.around.behind))
      ∙ sym (s.around.spelt marks' y apart_kids refl agree
      ∙ ap (λ (ts : List Token). s.around.above ++ ((s.around.ahead ++ (Open y.number ∷ (ts ++ (Close ∷ s.around.behind)))) ∷ s.around.below)) after)
