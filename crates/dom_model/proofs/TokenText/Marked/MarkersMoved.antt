-- A marker put into a gap of the token texts, or taken out of them.
use Rattle.std.proofs.Common.{◌≡◌, ℕ, suc, ◌<◌, ◌≤◌, Bool, true, false, not, if◌then◌else◌, List, [], ◌∷◌, ◌++◌, Option, Some, None, refl, ap, sym, ◌∙◌, subst, arith, append_assoc, eq-eqb, filter}
use Rattle.std.proofs.lemmas.{List.Elements.filter-append, Bool.Decides.nat_tests}
use Rattle.dom_model.specs.Definitions.{Node, Forest, empty, node, occurs, tree_at, Content, Point, Token, Open, Close, Mark, is_mark_of, point, same_point, stands_at, unit_tokens, child_tokens, token_texts, at_gap, in_gap, mark_in, mark_out, Childless}
use Rattle.dom_model.proofs.TokenText.{Pieces.TokenLists.marked, Pieces.TokenLists.AreMarks, Pieces.TextWalks.walk, Pieces.TextWalks.at_gap-skips, Pieces.TextWalks.at_gap-there, Pieces.TextParts.inside, Pieces.TextContexts.AgreeOff, Pieces.TextContexts.Around, Pieces.TextContexts.around_texts, Pieces.TextContexts.with_root-itself, Pieces.TextPoints.Gap, Pieces.TextPoints.gap_inside, Pieces.TextGaps.in_gap-around, Pieces.TextGaps.around-spells, Pieces.TextGaps.around-free, AlikeTrees.TreesAlike.Childless-tree_at, Marked.MarkedTexts.stands, Marked.MarkedTexts.HasPoint, Marked.MarkedTexts.at_point, Marked.MarkedTexts.not_inside, Marked.MarkedTexts.not_twice, Marked.MarkedTexts.same_itself}

-- the markers with one more, first in the gap of a point
abbrev pub with_mark : ℕ → Bool → Point → (Point → List Token) → Point → List Token
with_mark r side p marks q = if same_point p q then Mark r side ∷ marks q else marks q

-- the markers without those of an end
abbrev pub without_mark : ℕ → Bool → (Point → List Token) → Point → List Token
without_mark r side marks q = filter (λ t. not (is_mark_of r side t)) (marks q)

-- the markers stand at the ends
abbrev pub StandFor : (Point → List Token) → (ℕ → Bool → Option Point) → Type 0
StandFor marks ends = (r : ℕ) (side : Bool) (p : Point) → marked r side (marks p) ≡ stands (ends r side) p

pub at_gap-here : (p : Point) (change : (List Token → List Token)) (xs : List Token) (t : Token) (ts : List Token) (here : List Point) → stands_at p here ≡ true → at_gap p change here (xs ++ (t ∷ ts)) ≡ change (xs ++ (t ∷ ts))
at_gap-here p change [] t ts here h = at_gap-there p change t ts here h
at_gap-here p change (x ∷ xs) t ts here h = at_gap-there p change x (xs ++ (t ∷ ts)) here h

-- a change in a gap, on a walk that has come into its node
pub gap-reached : (marks : (Point → List Token)) (change : (List Token → List Token)) (y : Node Content) (ys : Forest Content) (o : ℕ) (g : Gap marks y ys o) (behind : List Token) (around : List Point) → at_gap (point y.number o) change (point y.number 0 ∷ around) ((g.front ++ (marks (point y.number o) ++ g.back)) ++ (Close ∷ behind)) ≡ g.front ++ change ((marks (point y.number o) ++ g.back) ++ (Close ∷ behind))
gap-reached marks change y ys o g behind around =
    ap (at_gap (point y.number o) change (point y.number 0 ∷ around)) (append_assoc g.front (marks (point y.number o) ++ g.back) (Close ∷ behind))
    ∙ at_gap-skips (point y.number o) change g.front ((marks (point y.number o) ++ g.back) ++ (Close ∷ behind)) (point y.number 0 ∷ around) (g.misses around)
    ∙ ap (λ here. g.front ++ at_gap (point y.number o) change here ((marks (point y.number o) ++ g.back) ++ (Close ∷ behind))) (g.comes around)
    ∙ ap (λ (ts : List Token). g.front ++ ts) (at_gap-here (point y.number o) change (marks (point y.number o) ++ g.back) Close behind (point y.number o ∷ around) (same_itself (point y.number o)))

module _ (marks : Point → List Token) (only : (p : Point) → AreMarks (marks p)) (f : Forest Content) (once : (n : ℕ) → occurs n f ≤ 1) (c : Childless f) where
  -- a change in a gap reaches the markers there, and what stands behind them in the text
  pub in_gap-reaches : (change : (List Token → List Token)) (y : Node Content) (ys : Forest Content) (o : ℕ) → tree_at y.number f ≡ node y ys empty → (a : Around marks y.number (node y ys empty) f) (g : Gap marks y ys o) → in_gap (point y.number o) change (token_texts marks f) ≡ a.above ++ ((a.ahead ++ (Open y.number ∷ (g.front ++ change ((marks (point y.number o) ++ g.back) ++ (Close ∷ a.behind))))) ∷ a.below)
  in_gap-reaches change y ys o at a g =
      let s = around-spells marks only y.number y ys refl f once c at a in
      let d : Childless (node y ys empty) = subst Childless at (Childless-tree_at y.number f c) in
      let free = around-free marks only y.number y ys refl f once c at a d y.number (self y ys) in
      ap (in_gap (point y.number o) change) s
      ∙ in_gap-around a.above a.ahead y.number (inside marks y ys ++ (Close ∷ a.behind)) a.below (point y.number o) change free.above_it free.ahead_of_it free.below_it
      ∙ ap (λ (ts : List Token). a.above ++ ((a.ahead ++ (Open y.number ∷ at_gap (point y.number o) change (point y.number 0 ∷ walk a.ahead []) (ts ++ (Close ∷ a.behind)))) ∷ a.below)) (g.spelt marks (λ q h. refl))
      ∙ ap (λ (ts : List Token). a.above ++ ((a.ahead ++ (Open y.number ∷ ts)) ∷ a.below)) (gap-reached marks change y ys o g a.behind (walk a.ahead []))
    where
      self : (y : Node Content) (ys : Forest Content) → 0 < occurs y.number (node y ys empty)
      self y ys = rw (eq-eqb y.number y.number refl) (omega arith)

  mark_in_at : (r : ℕ) (side : Bool) (y : Node Content) (ys : Forest Content) (o : ℕ) → tree_at y.number f ≡ node y ys empty → (a : Around marks y.number (node y ys empty) f) (g : Gap marks y ys o) → mark_in r side (point y.number o) (token_texts marks f) ≡ token_texts (with_mark r side (point y.number o) marks) f
  mark_in_at r side y ys o at a g =
      in_gap-reaches (λ ts. Mark r side ∷ ts) y ys o at a g
      ∙ sym (ap (token_texts marks') (sym (with_root-itself y.number y ys f once at)) ∙ a.spelt marks' y ys refl off
      ∙ ap (λ (ts : List Token). a.above ++ ((a.ahead ++ (Open y.number ∷ (ts ++ (Close ∷ a.behind)))) ∷ a.below)) (g.spelt marks' (λ q h. rw h refl) ∙ ap (λ (ts : List Token). g.front ++ (ts ++ g.back)) here)
      ∙ ap (λ (ts : List Token). a.above ++ ((a.ahead ++ (Open y.number ∷ ts)) ∷ a.below)) (append_assoc g.front ((Mark r side ∷ marks (point y.number o)) ++ g.back) (Close ∷ a.behind)))
    where
      marks' : Point → List Token
      marks' q = with_mark r side (point y.number o) marks q

      here : marks' (point y.number o) ≡ Mark r side ∷ marks (point y.number o)
      here = rw (same_itself (point y.number o)) refl

      off : AgreeOff (node y ys empty) marks marks'
      off q h = grind (arith, nat_tests)

  -- a marker put into a gap
  pub mark_in-texts : (r : ℕ) (side : Bool) (p : Point) → HasPoint f p → mark_in r side p (token_texts marks f) ≡ token_texts (with_mark r side p marks) f
  mark_in-texts r side p h =
      at_point f (λ q. mark_in r side q (token_texts marks f) ≡ token_texts (with_mark r side q marks) f)
      (λ y ys o at within.
      mark_in_at r side y ys o at (around_texts marks y.number (node y ys empty) f once c (not_twice f once y ys at) at) (gap_inside marks only y ys o (not_inside f once y ys at) within))
      p h

pub AreMarks_if : (v : Bool) (ms ns : List Token) → AreMarks ms → AreMarks ns → AreMarks (if v then ms else ns)
AreMarks_if true ms ns h k = h
AreMarks_if false ms ns h k = k

pub AreMarks-with : (r : ℕ) (side : Bool) (p : Point) (marks : (Point → List Token)) → ((q : Point) → AreMarks (marks q)) → (q : Point) → AreMarks (with_mark r side p marks q)
AreMarks-with r side p marks h q = AreMarks_if (same_point p q) (Mark r side ∷ marks q) (marks q) (h q) (h q)

-- A marker taken out.

module _ (r : ℕ) (side : Bool) where
  abbrev others : List Token → List Token
  others ts = filter (λ t. not (is_mark_of r side t)) ts

  module _ (marks : Point → List Token) where
    others-units : (n i : ℕ) (us : List ℕ) → others (unit_tokens marks n i us) ≡ unit_tokens (without_mark r side marks) n i us
    others-units n i [] = refl
    others-units n i (u ∷ us) = simp (filter-append, others-units n (suc i) us)

    others_inside : (x : Node Content) (kids : Forest Content) → others (child_tokens marks x.number 0 kids) ≡ child_tokens (without_mark r side marks) x.number 0 kids → others (inside marks x kids) ≡ inside (without_mark r side marks) x kids
    others_inside x kids h = grind (arith, others-units)

    others-children : (n i : ℕ) (f : Forest Content) → others (child_tokens marks n i f) ≡ child_tokens (without_mark r side marks) n i f
    others-children n i empty = refl
    others-children n i (node x kids rest) = simp (filter-append, others_inside x kids (others-children x.number 0 kids), others-children n (suc i) rest)

    pub mark_out-texts : (f : Forest Content) → mark_out r side (token_texts marks f) ≡ token_texts (without_mark r side marks) f
    mark_out-texts empty = refl
    mark_out-texts (node x kids rest) = simp (filter-append, others_inside x kids (others-children x.number 0 kids), mark_out-texts rest)

-- Where the markers then stand.

pub end_itself : (r : ℕ) (side : Bool) → is_mark_of r side (Mark r side) ≡ true
end_itself r side = grind (arith, nat_tests)

marked-others : (r : ℕ) (side : Bool) (q : ℕ) (s : Bool) (ts : List Token) → marked q s (others r side ts) ≡ (if is_mark_of q s (Mark r side) then 0 else marked q s ts)
marked-others r side q s [] = grind arith
marked-others r side q s (t ∷ ts) = grind (arith, nat_tests, marked-others r side q s ts)

module _ (marks : Point → List Token) (ends ends' : ℕ → Bool → Option Point) (stand : StandFor marks ends) (r : ℕ) (side : Bool) (other : (q : ℕ) (s : Bool) → is_mark_of q s (Mark r side) ≡ false → ends' q s ≡ ends q s) where
  pub standing-with : (p : Point) → ends r side ≡ None → ends' r side ≡ Some p → StandFor (with_mark r side p marks) ends'
  standing-with p before after q s x =
      let was = stand q s x in
      let kept = other q s in
      grind (arith, nat_tests)

  pub standing-without : ends' r side ≡ None → StandFor (without_mark r side marks) ends'
  standing-without after q s x =
      let was = stand q s x in
      let kept = other q s in
      let left = marked-others r side q s (marks x) in
      grind (arith, nat_tests)
