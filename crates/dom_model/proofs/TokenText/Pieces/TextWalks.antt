-- Walks over texts: what a walk comes to, where a point is missed, and how the edits of a gap and the search for a marker pass on.
use Rattle.std.proofs.Common.{◌≡◌, ℕ, ◌<◌, ◌==◌, Bool, true, false, List, [], ◌∷◌, ◌++◌, None, refl, ap, sym, arith, inl, inr}
use Rattle.std.proofs.lemmas.Bool.{cases_Bool, ne_eqb, eqb-false}
use Rattle.dom_model.specs.Definitions.{Point, Token, Open, Close, OneUnit, Mark, is_mark_of, is_open, passed, stepped, stands_at, first_point, gap_of, at_gap, in_gap}
use Rattle.dom_model.proofs.TokenText.Pieces.TokenLists.{tallies, marked, opened, AreMarks, not-first, not-later, not-marked}

-- the points that a walk over the tokens comes to
abbrev pub walk : List Token → List Point → List Point
walk [] here = here
walk (t ∷ ts) here = walk ts (passed t here)

-- no gap ahead of a token is the point's
abbrev pub Misses : Point → List Token → List Point → Type 0
Misses p [] here = Unit {0}
Misses p (t ∷ ts) here = (stands_at p here ≡ false) × Misses p ts (passed t here)

-- none of the points is in the node
abbrev pub Away : ℕ → List Point → Type 0
Away n [] = Unit {0}
Away n (p ∷ around) = ((n == p.node) ≡ false) × Away n around

pub walk-append : (xs ys : List Token) (here : List Point) → walk (xs ++ ys) here ≡ walk ys (walk xs here)
walk-append [] ys here = refl
walk-append (x ∷ xs) ys here = walk-append xs ys (passed x here)

pub walk-marks : (ms : List Token) (here : List Point) → AreMarks ms → walk ms here ≡ here
walk-marks [] here h = refl
walk-marks (Mark r side ∷ ms) here h = walk-marks ms here h
walk-marks (m ∷ ms) here h = absurd h

pub Misses-append : (p : Point) (xs ys : List Token) (here : List Point) → Misses p xs here → Misses p ys (walk xs here) → Misses p (xs ++ ys) here
Misses-append p [] ys here h k = k
Misses-append p (x ∷ xs) ys here h k = (h.0, Misses-append p xs ys (passed x here) h.1 k)

pub Misses-marks : (p : Point) (ms : List Token) (here : List Point) → AreMarks ms → stands_at p here ≡ false → Misses p ms here
Misses-marks p [] here h k = tt
Misses-marks p (Mark r side ∷ ms) here h k = (k, Misses-marks p ms here h k)
Misses-marks p (m ∷ ms) here h k = absurd h

pub at_gap-skips : (p : Point) (change : List Token → List Token) (xs ys : List Token) (here : List Point) → Misses p xs here → at_gap p change here (xs ++ ys) ≡ xs ++ at_gap p change (walk xs here) ys
at_gap-skips p change [] ys here h = refl
at_gap-skips p change (x ∷ xs) ys here h = rw h.0 (ap (λ (ts : List Token). x ∷ ts) (at_gap-skips p change xs ys (passed x here) h.1))

pub at_gap-there : (p : Point) (change : List Token → List Token) (t : Token) (ts : List Token) (here : List Point) → stands_at p here ≡ true → at_gap p change here (t ∷ ts) ≡ change (t ∷ ts)
at_gap-there p change t ts here h = rw h refl

pub gap_of-skips : (r : ℕ) (side : Bool) (xs ys : List Token) (here : List Point) → marked r side xs ≡ 0 → gap_of r side here (xs ++ ys) ≡ gap_of r side (walk xs here) ys
gap_of-skips r side [] ys here h = refl
gap_of-skips r side (x ∷ xs) ys here h = rw (not-marked r side x xs h) (gap_of-skips r side xs ys (passed x here) (not-later (is_mark_of r side) x xs h))

pub gap_of-none : (r : ℕ) (side : Bool) (ts : List Token) (here : List Point) → marked r side ts ≡ 0 → gap_of r side here ts ≡ None
gap_of-none r side [] here h = refl
gap_of-none r side (t ∷ ts) here h = rw (not-marked r side t ts h) (gap_of-none r side ts (passed t here) (not-later (is_mark_of r side) t ts h))

pub gap_of-marks : (r : ℕ) (side : Bool) (ms ts : List Token) (here : List Point) → AreMarks ms → 0 < marked r side ms → gap_of r side here (ms ++ ts) ≡ first_point here
gap_of-marks r side [] ts here h k = absurd (omega arith)
gap_of-marks r side (Mark q other ∷ ms) ts here h k =
    elim (cases_Bool (is_mark_of r side (Mark q other))) [
      | inl e ↦ rw e refl
      | inr e ↦ rw e (gap_of-marks r side ms ts here h (let l = rw e at k in omega arith))
    ]
gap_of-marks r side (m ∷ ms) ts here h k = absurd h

-- Points of other nodes.

pub turned : (m n : ℕ) → (m == n) ≡ false → (n == m) ≡ false
turned m n h = ne_eqb n m (λ e. eqb-false m n h (sym e))

Away-stepped : (n : ℕ) (here : List Point) → Away n here → Away n (stepped here)
Away-stepped n [] h = tt
Away-stepped n (p ∷ around) h = h

Away-passed : (n : ℕ) (t : Token) (here : List Point) → is_open n t ≡ false → Away n here → Away n (passed t here)
Away-passed n (Open m) here o h = (turned m n o, h)
Away-passed n Close [] o h = tt
Away-passed n Close (p ∷ around) o h = Away-stepped n around h.1
Away-passed n (OneUnit u) here o h = Away-stepped n here h
Away-passed n (Mark r side) here o h = h

pub Away-walk : (n : ℕ) (ts : List Token) (here : List Point) → opened n ts ≡ 0 → Away n here → Away n (walk ts here)
Away-walk n [] here o h = h
Away-walk n (t ∷ ts) here o h = Away-walk n ts (passed t here) (not-later (is_open n) t ts o) (Away-passed n t here (not-first n t ts o) h)

pub stands-away : (p : Point) (here : List Point) → Away p.node here → stands_at p here ≡ false
stands-away p [] h = refl
stands-away p (q ∷ around) h = rw h.0 refl

pub Misses-away : (p : Point) (ts : List Token) (here : List Point) → opened p.node ts ≡ 0 → Away p.node here → Misses p ts here
Misses-away p [] here o h = tt
Misses-away p (t ∷ ts) here o h = (stands-away p here h, Misses-away p ts (passed t here) (not-later (is_open p.node) t ts o) (Away-passed p.node t here (not-first p.node t ts o) h))

at_gap-all : (p : Point) (change : List Token → List Token) (ts : List Token) (here : List Point) → Misses p ts here → at_gap p change here ts ≡ ts
at_gap-all p change [] here h = refl
at_gap-all p change (t ∷ ts) here h = rw h.0 (ap (λ (us : List Token). t ∷ us) (at_gap-all p change ts (passed t here) h.1))

-- texts that do not open the node stay
pub in_gap-away : (p : Point) (change : List Token → List Token) (texts : List (List Token)) → tallies (is_open p.node) texts ≡ 0 → in_gap p change texts ≡ texts
in_gap-away p change [] o = refl
in_gap-away p change (text ∷ texts) o = rw (at_gap-all p change text [] (Misses-away p text [] (omega arith) tt), in_gap-away p change texts (omega arith)) refl
