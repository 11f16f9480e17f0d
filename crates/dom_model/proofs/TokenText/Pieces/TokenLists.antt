-- Lists of tokens: how many pass a test, lists of markers alone, and what the edits of a text do to markers ahead of other tokens.
use Rattle.std.proofs.Common.{◌≡◌, ℕ, suc, ◌+◌, Bool, true, false, if◌then◌else◌, List, [], ◌∷◌, ◌++◌, refl, ap, ◌∙◌, arith, filter}
use Rattle.std.proofs.lemmas.Bool.{cond_both, eq-eqb, or_right}
use Rattle.dom_model.specs.Definitions.{Token, Open, Mark, is_mark_of, is_open, has_open, unmarked, marks_in, after_marks, units_out, through_close, past_close, open_out, seam_out, before_open, from_open}

-- how many tokens pass the test
abbrev pub tally : (Token → Bool) → List Token → ℕ
tally test [] = 0
tally test (t ∷ ts) = (if test t then 1 else 0) + tally test ts

-- how many markers of an end there are
abbrev pub marked : ℕ → Bool → List Token → ℕ
marked r side ts = tally (is_mark_of r side) ts

-- how many open tokens of a number there are
abbrev pub opened : ℕ → List Token → ℕ
opened n ts = tally (is_open n) ts

-- in all texts of a list
abbrev pub tallies : (Token → Bool) → List (List Token) → ℕ
tallies test [] = 0
tallies test (text ∷ texts) = tally test text + tallies test texts

-- the list has markers alone
abbrev pub AreMarks : List Token → Type 0
AreMarks [] = Unit {0}
AreMarks (Mark r side ∷ ts) = AreMarks ts
AreMarks (t ∷ ts) = ⊥

pub tally-append : (test : Token → Bool) (xs ys : List Token) → tally test (xs ++ ys) ≡ tally test xs + tally test ys
tally-append test [] ys = omega arith
tally-append test (x ∷ xs) ys = omega (arith, tally-append test xs ys)

pub tallies-append : (test : Token → Bool) (xs ys : List (List Token)) → tallies test (xs ++ ys) ≡ tallies test xs + tallies test ys
tallies-append test [] ys = omega arith
tallies-append test (x ∷ xs) ys = omega (arith, tallies-append test xs ys)

pub AreMarks-append : (xs ys : List Token) → AreMarks xs → AreMarks ys → AreMarks (xs ++ ys)
AreMarks-append [] ys h k = k
AreMarks-append (Mark r side ∷ xs) ys h k = AreMarks-append xs ys h k
AreMarks-append (x ∷ xs) ys h k = absurd h

pub AreMarks-marks_in : (ts : List Token) → AreMarks (marks_in ts)
AreMarks-marks_in [] = tt
AreMarks-marks_in (Mark r side ∷ ts) = AreMarks-marks_in ts
AreMarks-marks_in (t ∷ ts) = AreMarks-marks_in ts

pub AreMarks-filter : (test : Token → Bool) (ms : List Token) → AreMarks ms → AreMarks (filter test ms)
AreMarks-filter test [] h = tt
AreMarks-filter test (Mark r side ∷ ms) h =
    let k = AreMarks-filter test ms h in cond_both (test (Mark r side)) (Mark r side ∷ filter test ms) (filter test ms) AreMarks (λ e. k) (λ e. k)
AreMarks-filter test (m ∷ ms) h = absurd h

-- markers open nothing
pub opened-marks : (n : ℕ) (ms : List Token) → AreMarks ms → opened n ms ≡ 0
opened-marks n [] h = refl
opened-marks n (Mark r side ∷ ms) h = omega (arith, opened-marks n ms h)
opened-marks n (m ∷ ms) h = absurd h

-- what passes over each marker passes over markers alone, and what keeps each keeps all
past-marks : {A : Type 0} (f : List Token → A) → ((r : ℕ) (side : Bool) (ts : List Token) → f (Mark r side ∷ ts) ≡ f ts) → (ms ts : List Token) → AreMarks ms → f (ms ++ ts) ≡ f ts
past-marks f passes [] ts h = refl
past-marks f passes (Mark r side ∷ ms) ts h = passes r side (ms ++ ts) ∙ past-marks f passes ms ts h
past-marks f passes (m ∷ ms) ts h = absurd h

kept-marks : (f : (List Token → List Token)) → ((r : ℕ) (side : Bool) (ts : List Token) → f (Mark r side ∷ ts) ≡ Mark r side ∷ f ts) → (ms ts : List Token) → AreMarks ms → f (ms ++ ts) ≡ ms ++ f ts
kept-marks f keeps [] ts h = refl
kept-marks f keeps (Mark r side ∷ ms) ts h = keeps r side (ms ++ ts) ∙ ap (λ (us : List Token). Mark r side ∷ us) (kept-marks f keeps ms ts h)
kept-marks f keeps (m ∷ ms) ts h = absurd h

pub unmarked-marks : (ms ts : List Token) → AreMarks ms → unmarked (ms ++ ts) ≡ unmarked ts
unmarked-marks ms ts h = past-marks unmarked (λ r side us. refl) ms ts h

pub marks_in-marks : (ms : List Token) → AreMarks ms → marks_in ms ≡ ms
marks_in-marks [] h = refl
marks_in-marks (Mark r side ∷ ms) h = ap (λ (ts : List Token). Mark r side ∷ ts) (marks_in-marks ms h)
marks_in-marks (m ∷ ms) h = absurd h

-- the markers of a text are all that a count of them sees
pub marked-marks_in : (r : ℕ) (side : Bool) (ts : List Token) → marked r side (marks_in ts) ≡ marked r side ts
marked-marks_in r side [] = refl
marked-marks_in r side (Mark q other ∷ ts) = omega (arith, marked-marks_in r side ts)
marked-marks_in r side (t ∷ ts) = omega (arith, marked-marks_in r side ts)

-- What the edits of a text do to markers ahead of other tokens.

pub after_marks-marks : (new ms ts : List Token) → AreMarks ms → after_marks new (ms ++ ts) ≡ ms ++ after_marks new ts
after_marks-marks new ms ts h = kept-marks (after_marks new) (λ r side us. refl) ms ts h

pub units_out-marks : (count : ℕ) (ms ts : List Token) → AreMarks ms → units_out (suc count) (ms ++ ts) ≡ ms ++ units_out (suc count) ts
units_out-marks count ms ts h = kept-marks (units_out (suc count)) (λ r side us. refl) ms ts h

pub units_out-none : (ts : List Token) → units_out 0 ts ≡ ts
units_out-none [] = refl
units_out-none (t ∷ ts) = refl

pub through_close-marks : (depth : ℕ) (ms ts : List Token) → AreMarks ms → through_close depth (ms ++ ts) ≡ ms ++ through_close depth ts
through_close-marks depth ms ts h = kept-marks (through_close depth) (λ r side us. refl) ms ts h

pub past_close-marks : (depth : ℕ) (ms ts : List Token) → AreMarks ms → past_close depth (ms ++ ts) ≡ past_close depth ts
past_close-marks depth ms ts h = past-marks (past_close depth) (λ r side us. refl) ms ts h

pub open_out-marks : (ms ts : List Token) → AreMarks ms → open_out (ms ++ ts) ≡ ms ++ open_out ts
open_out-marks ms ts h = kept-marks open_out (λ r side us. refl) ms ts h

pub seam_out-marks : (ms ts : List Token) → AreMarks ms → seam_out (ms ++ ts) ≡ ms ++ seam_out ts
seam_out-marks ms ts h = kept-marks seam_out (λ r side us. refl) ms ts h

-- Texts in which a number is not opened.

none-first : (v : Bool) (n : ℕ) → (if v then 1 else 0) + n ≡ 0 → v ≡ false
none-first true n h = absurd (omega arith)
none-first false n h = refl

pub not-first : (n : ℕ) (t : Token) (ts : List Token) → opened n (t ∷ ts) ≡ 0 → is_open n t ≡ false
not-first n t ts h = none-first (is_open n t) (opened n ts) h

pub not-later : (test : Token → Bool) (t : Token) (ts : List Token) → tally test (t ∷ ts) ≡ 0 → tally test ts ≡ 0
not-later test t ts h = omega arith

pub not-marked : (r : ℕ) (side : Bool) (t : Token) (ts : List Token) → marked r side (t ∷ ts) ≡ 0 → is_mark_of r side t ≡ false
not-marked r side t ts h = none-first (is_mark_of r side t) (marked r side ts) h

pub has_open-none : (n : ℕ) (ts : List Token) → opened n ts ≡ 0 → has_open n ts ≡ false
has_open-none n [] h = refl
has_open-none n (t ∷ ts) h = rw (not-first n t ts h) (has_open-none n ts (not-later (is_open n) t ts h))

pub before_open-skips : (n : ℕ) (xs ys : List Token) → opened n xs ≡ 0 → before_open n (xs ++ ys) ≡ xs ++ before_open n ys
before_open-skips n [] ys h = refl
before_open-skips n (x ∷ xs) ys h = rw (not-first n x xs h) (ap (λ (ts : List Token). x ∷ ts) (before_open-skips n xs ys (not-later (is_open n) x xs h)))

pub from_open-skips : (n : ℕ) (xs ys : List Token) → opened n xs ≡ 0 → from_open n (xs ++ ys) ≡ from_open n ys
from_open-skips n [] ys h = refl
from_open-skips n (x ∷ xs) ys h = rw (not-first n x xs h) (from_open-skips n xs ys (not-later (is_open n) x xs h))

pub from_open-none : (n : ℕ) (ts : List Token) → opened n ts ≡ 0 → from_open n ts ≡ []
from_open-none n [] h = refl
from_open-none n (t ∷ ts) h = rw (not-first n t ts h) (from_open-none n ts (not-later (is_open n) t ts h))

pub has_open-there : (n : ℕ) (xs ys : List Token) → has_open n (xs ++ (Open n ∷ ys)) ≡ true
has_open-there n [] ys = rw (eq-eqb n n refl) refl
has_open-there n (x ∷ xs) ys = or_right (is_open n x) (has_open n (xs ++ (Open n ∷ ys))) (has_open-there n xs ys)
