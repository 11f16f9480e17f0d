-- What is ahead of a range's markers in a marked text, between them and behind them, told by how many tokens are ahead of their gaps.
use Rattle.std.proofs.Common.{◌≡◌, ℕ, ◌+◌, ◌-◌, ◌<◌, ◌≤◌, Bool, true, false, List, [], ◌∷◌, ◌++◌, take, drop, Some, refl, ap, sym, ◌∙◌, subst, arith, append_assoc, inl, inr}
use Rattle.std.proofs.lemmas.Bool.{false≢true, cases_Bool}
use Rattle.dom_model.specs.Definitions.{Point, Token, Mark, unmarked, is_mark, is_mark_of, passed, stands_at, tokens_ahead, before_mark, after_mark, between, numbers_of, open_at}
use Rattle.dom_model.proofs.TokenText.{Pieces.TokenLists.marked, Pieces.TokenLists.AreMarks, Pieces.TokenLists.unmarked-marks, Pieces.TokenLists.not-marked, Pieces.TokenLists.not-later, Pieces.TextWalks.walk, Marked.MarkersMoved.end_itself, Contents.Dressed.gap_marks, Contents.Dressed.dressed, Contents.MarksInOrder.StartsIn, Contents.MarksInOrder.Marking, Contents.LeafPlaces.some-suc}

-- a text without markers
abbrev pub NoMarks : List Token → Type 0
NoMarks [] = Unit {0}
NoMarks (t ∷ ts) = (is_mark t ≡ false) × NoMarks ts

pub NoMarks-append : (xs ys : List Token) → NoMarks xs → NoMarks ys → NoMarks (xs ++ ys)
NoMarks-append [] ys h k = k
NoMarks-append (x ∷ xs) ys h k = (h.0, NoMarks-append xs ys h.1 k)

other-mark : (r : ℕ) (side : Bool) (t : Token) → is_mark t ≡ false → is_mark_of r side t ≡ false
other-mark r side t h = grind arith

module _ (r : ℕ) (side : Bool) where
  -- Past other markers.

  before-skips : (ms ts : List Token) → marked r side ms ≡ 0 → before_mark r side (ms ++ ts) ≡ ms ++ before_mark r side ts
  before-skips [] ts h = refl
  before-skips (m ∷ ms) ts h = rw (not-marked r side m ms h) (ap (λ us. m ∷ us) (before-skips ms ts (not-later (is_mark_of r side) m ms h)))

  after-skips : (ms ts : List Token) → marked r side ms ≡ 0 → after_mark r side (ms ++ ts) ≡ after_mark r side ts
  after-skips [] ts h = refl
  after-skips (m ∷ ms) ts h = rw (not-marked r side m ms h) (after-skips ms ts (not-later (is_mark_of r side) m ms h))

  open_at-skips : (here : List Point) (ms ts : List Token) → AreMarks ms → marked r side ms ≡ 0 → open_at r side here (ms ++ ts) ≡ open_at r side here ts
  open_at-skips here [] ts a h = refl
  open_at-skips here (m ∷ ms) ts a h = grind (arith, open_at-skips here ms ts, not-marked r side m ms h, not-later (is_mark_of r side) m ms h)

  -- At one of the markers.

  before-marks : (ms ts : List Token) → AreMarks ms → 0 < marked r side ms → unmarked (before_mark r side (ms ++ ts)) ≡ []
  before-marks [] ts a h = absurd (omega arith)
  before-marks (m ∷ ms) ts a h = grind (arith, before-marks ms ts)

  after-marks : (ms ts : List Token) → AreMarks ms → 0 < marked r side ms → unmarked (after_mark r side (ms ++ ts)) ≡ unmarked ts
  after-marks [] ts a h = absurd (omega arith)
  after-marks (m ∷ ms) ts a h = grind (arith, after-marks ms ts, unmarked-marks ms ts)

  marks-last : (first last : List Token) → AreMarks (first ++ last) → AreMarks last
  marks-last [] last a = a
  marks-last (m ∷ first) last a = grind (arith, marks-last first last)

  marks-first : (first last : List Token) → AreMarks (first ++ last) → AreMarks first
  marks-first [] last a = tt
  marks-first (m ∷ first) last a = grind (arith, marks-first first last)

kept-first : (t : Token) (ts : List Token) → is_mark t ≡ false → unmarked (t ∷ ts) ≡ t ∷ unmarked ts
kept-first t ts h = rw h refl

module _ (r : ℕ) (p q : Point) (marks : Point → List Token) (m : Marking r p q marks) where
  gap-only : (here : List Point) → AreMarks (gap_marks marks here)
  gap-only [] = tt
  gap-only (g ∷ around) = m.only g

  gap-no_start : (here : List Point) → stands_at p here ≡ false → marked r true (gap_marks marks here) ≡ 0
  gap-no_start here h = grind (arith, m.no_start)

  gap-no_end : (here : List Point) → stands_at q here ≡ false → marked r false (gap_marks marks here) ≡ 0
  gap-no_end here h = grind (arith, m.no_end)

  gap-end : (here : List Point) → stands_at q here ≡ true → 0 < marked r false (gap_marks marks here)
  gap-end here h = grind (arith, m.an_end)

  gap-a_start : (here : List Point) → stands_at p here ≡ true → 0 < marked r true (gap_marks marks here)
  gap-a_start here h = grind (arith, m.a_start)

  gap-start : (here : List Point) → stands_at p here ≡ true → StartsIn r (stands_at q here) (gap_marks marks here)
  gap-start [] h = absurd (false≢true h)
  gap-start (g ∷ around) h = m.start g h

  -- the text without its markers
  pub dressed-unmarked : (here : List Point) (ts : List Token) → NoMarks ts → unmarked (dressed marks here ts) ≡ ts
  dressed-unmarked here [] n = refl
  dressed-unmarked here (t ∷ ts) n =
      unmarked-marks (gap_marks marks here) (t ∷ dressed marks (passed t here) ts) (gap-only here)
      ∙ kept-first t (dressed marks (passed t here) ts) n.0
      ∙ ap (λ us. t ∷ us) (dressed-unmarked (passed t here) ts n.1)

  -- Up to the end marker, and past it.

  -- the tokens ahead of one of the two markers
  up_to-mark : (side : Bool) (x : Point) → ((here : List Point) → stands_at x here ≡ false → marked r side (gap_marks marks here) ≡ 0) → ((here : List Point) → stands_at x here ≡ true → 0 < marked r side (gap_marks marks here)) → (here : List Point) (ts : List Token) (b : ℕ) → NoMarks ts → tokens_ahead x here ts ≡ Some b → unmarked (before_mark r side (dressed marks here ts)) ≡ take b ts
  up_to-mark side x without_it with_it here [] b n h = absurd (cc h)
  up_to-mark side x without_it with_it here (t ∷ ts) b n h =
      elim (cases_Bool (stands_at x here)) [
        | inl s ↦
            let d : 0 ≡ b = cc (rw s at h) in
            before-marks r side (gap_marks marks here) (t ∷ dressed marks (passed t here) ts) (gap-only here) (with_it here s) ∙ ap (λ k. take k (t ∷ ts)) d
        | inr s ↦
            let i = some-suc _ b (rw s at h) in
            let o = other-mark r side t n.0 in
            ap unmarked (before-skips r side (gap_marks marks here) (t ∷ dressed marks (passed t here) ts) (without_it here s))
            ∙ unmarked-marks (gap_marks marks here) (before_mark r side (t ∷ dressed marks (passed t here) ts)) (gap-only here)
            ∙ (rw o (kept-first t (before_mark r side (dressed marks (passed t here) ts)) n.0))
            ∙ ap (λ us. t ∷ us) (up_to-mark side x without_it with_it (passed t here) ts i.0 n.1 i.1)
            ∙ ap (λ k. take k (t ∷ ts)) (sym i.2)
      ]

  pub up_to-end : (here : List Point) (ts : List Token) (b : ℕ) → NoMarks ts → tokens_ahead q here ts ≡ Some b → unmarked (before_mark r false (dressed marks here ts)) ≡ take b ts
  up_to-end = up_to-mark false q gap-no_end gap-end

  pub up_to-start : (here : List Point) (ts : List Token) (a : ℕ) → NoMarks ts → tokens_ahead p here ts ≡ Some a → unmarked (before_mark r true (dressed marks here ts)) ≡ take a ts
  up_to-start = up_to-mark true p gap-no_start gap-a_start

  pub past-end : (here : List Point) (ts : List Token) (b : ℕ) → NoMarks ts → tokens_ahead q here ts ≡ Some b → unmarked (after_mark r false (dressed marks here ts)) ≡ drop b ts
  past-end here [] b n h = absurd (cc h)
  past-end here (t ∷ ts) b n h =
      elim (cases_Bool (stands_at q here)) [
        | inl s ↦
            let d : 0 ≡ b = cc (rw s at h) in
            after-marks r false (gap_marks marks here) (t ∷ dressed marks (passed t here) ts) (gap-only here) (gap-end here s)
            ∙ kept-first t (dressed marks (passed t here) ts) n.0
            ∙ ap (λ us. t ∷ us) (dressed-unmarked (passed t here) ts n.1)
            ∙ ap (λ k. drop k (t ∷ ts)) d
        | inr s ↦
            let i = some-suc _ b (rw s at h) in
            let o = other-mark r false t n.0 in
            ap unmarked (after-skips r false (gap_marks marks here) (t ∷ dressed marks (passed t here) ts) (gap-no_end here s))
            ∙ (rw o refl)
            ∙ past-end (passed t here) ts i.0 n.1 i.1
            ∙ ap (λ k. drop k (t ∷ ts)) (sym i.2)
      ]

  -- Past the start marker, and from there up to the end marker.

  started : (here : List Point) (ts : List Token) (i : StartsIn r (stands_at q here) (gap_marks marks here)) → gap_marks marks here ++ ts ≡ i.first ++ (Mark r true ∷ (i.last ++ ts))
  started here ts i = ap (λ ms. ms ++ ts) i.whole ∙ append_assoc i.first (Mark r true ∷ i.last) ts

  after-started : (here : List Point) (ts : List Token) (i : StartsIn r (stands_at q here) (gap_marks marks here)) → after_mark r true (gap_marks marks here ++ ts) ≡ i.last ++ ts
  after-started here ts i =
      ap (after_mark r true) (started here ts i)
      ∙ after-skips r true i.first (Mark r true ∷ (i.last ++ ts)) i.free
      ∙ (rw (end_itself r true) refl)

  last-marks : (here : List Point) (i : StartsIn r (stands_at q here) (gap_marks marks here)) → AreMarks i.last
  last-marks here i = marks-last r true i.first (Mark r true ∷ i.last) (subst AreMarks i.whole (gap-only here))

  first-marks : (here : List Point) (i : StartsIn r (stands_at q here) (gap_marks marks here)) → AreMarks i.first
  first-marks here i = marks-first r true i.first (Mark r true ∷ i.last) (subst AreMarks i.whole (gap-only here))

  pub between-gaps : (here : List Point) (ts : List Token) (a b : ℕ) → NoMarks ts → tokens_ahead p here ts ≡ Some a → tokens_ahead q here ts ≡ Some b → a ≤ b → between r (dressed marks here ts) ≡ take (b - a) (drop a ts)
  between-gaps here [] a b n h k l = absurd (cc h)
  between-gaps here (t ∷ ts) a b n h k l =
      elim (cases_Bool (stands_at p here)) [
        | inl s ↦
            let d : a ≡ 0 = cc (rw s at h) in
            let i = gap-start here s in
            let m : b - 0 ≡ b = omega arith in
            ap (λ us. unmarked (before_mark r false us)) (after-started here (t ∷ dressed marks (passed t here) ts) i)
            ∙ at_start i
            ∙ ap (λ k. take k (t ∷ ts)) (sym m)
            ∙ ap (λ k. take (b - k) (drop k (t ∷ ts))) (sym d)
        | inr s ↦
            let i = some-suc _ a (rw s at h) in
            let x = i.2 in
            elim (cases_Bool (stands_at q here)) [
              | inl u ↦ absurd (let z : 0 ≡ b = cc (rw u at k) in omega arith)
              | inr u ↦
                  let j = some-suc _ b (rw u at k) in
                  let o = other-mark r true t n.0 in
                  let m : j.0 - i.0 ≡ b - a = omega arith in
                  ap (λ us. unmarked (before_mark r false us)) (after-skips r true (gap_marks marks here) (t ∷ dressed marks (passed t here) ts) (gap-no_start here s))
                  ∙ (rw o refl)
                  ∙ between-gaps (passed t here) ts i.0 j.0 n.1 i.1 j.1 (omega arith)
                  ∙ ap (λ k. take k (drop i.0 ts)) m
                  ∙ ap (λ k. take (b - a) (drop k (t ∷ ts))) (sym x)
            ]
      ]
    where
      at_start : (i : StartsIn r (stands_at q here) (gap_marks marks here)) → unmarked (before_mark r false (i.last ++ (t ∷ dressed marks (passed t here) ts))) ≡ take b (t ∷ ts)
      at_start i =
          elim (cases_Bool (stands_at q here)) [
            | inl u ↦
                let one : marked r false i.last ≡ 1 = i.ending ∙ (rw u refl) in
                let d : b ≡ 0 = (let c : Some 0 ≡ Some b = rw u at k in cc c) in
                before-marks r false i.last (t ∷ dressed marks (passed t here) ts) (last-marks here i) (omega arith) ∙ ap (λ c. take c (t ∷ ts)) (sym d)
            | inr u ↦
                let none : marked r false i.last ≡ 0 = i.ending ∙ (rw u refl) in
                ap unmarked (before-skips r false i.last (t ∷ dressed marks (passed t here) ts) none)
                ∙ unmarked-marks i.last (before_mark r false (t ∷ dressed marks (passed t here) ts)) (last-marks here i)
                ∙ sym (unmarked-marks (gap_marks marks here) (before_mark r false (t ∷ dressed marks (passed t here) ts)) (gap-only here))
                ∙ sym (ap unmarked (before-skips r false (gap_marks marks here) (t ∷ dressed marks (passed t here) ts) (gap-no_end here u)))
                ∙ up_to-end here (t ∷ ts) b n k
          ]

  -- The nodes that are open around the start marker.
  pub open-around : (here : List Point) (ts : List Token) (a : ℕ) → NoMarks ts → tokens_ahead p here ts ≡ Some a → open_at r true here (dressed marks here ts) ≡ numbers_of (walk (take a ts) here)
  open-around here [] a n h = absurd (cc h)
  open-around here (t ∷ ts) a n h =
      let rest = dressed marks (passed t here) ts in
      elim (cases_Bool (stands_at p here)) [
        | inl s ↦
            let d : 0 ≡ a = cc (rw s at h) in
            let i = gap-start here s in
            ap (open_at r true here) (started here (t ∷ rest) i)
            ∙ open_at-skips r true here i.first (Mark r true ∷ (i.last ++ (t ∷ rest))) (first-marks here i) i.free
            ∙ (rw (end_itself r true) refl)
            ∙ ap (λ k. numbers_of (walk (take k (t ∷ ts)) here)) d
        | inr s ↦
            let i = some-suc _ a (rw s at h) in
            let o = other-mark r true t n.0 in
            open_at-skips r true here (gap_marks marks here) (t ∷ rest) (gap-only here) (gap-no_start here s)
            ∙ (rw o refl)
            ∙ open-around (passed t here) ts i.0 n.1 i.1
            ∙ ap (λ k. numbers_of (walk (take k (t ∷ ts)) here)) (sym i.2)
      ]
