-- Parts of the token text of a tree: a node's own tokens, and what stands ahead of a gap among the children or the units of a node.
use Rattle.std.proofs.Common.{◌≡◌, ℕ, suc, ◌+◌, List, [], ◌∷◌, ◌++◌, length, ap, sym, ◌∙◌, arith, inl, inr, append_assoc, append-nil, true, refl}
use Rattle.std.proofs.lemmas.Bool.{cases_Bool}
use Rattle.dom_model.specs.Definitions.{is_character_data, Node, Forest, empty, node, tops, beside, Content, Point, Token, Open, Close, OneUnit, point, stepped, unit_tokens, inner_tokens, child_tokens}
use Rattle.dom_model.proofs.Forests.Totals.{beside-empty}
use Rattle.dom_model.proofs.TokenText.{Pieces.TokenLists.AreMarks, Pieces.TextWalks.walk, Pieces.TextWalks.walk-append, Pieces.TextWalks.walk-marks}

-- how many trees stand beside one another
abbrev pub breadth : Forest Content → ℕ
breadth f = length (tops f)

-- what stands between a node's open and close
abbrev pub inside : (Point → List Token) → Node Content → Forest Content → List Token
inside marks x kids = inner_tokens marks x (child_tokens marks x.number 0 kids)

-- a node's own tokens
abbrev pub own : (Point → List Token) → Node Content → Forest Content → List Token
own marks x kids = Open x.number ∷ (inside marks x kids ++ (Close ∷ []))

-- the children of a node from index i on, without what stands in the gap after them
abbrev pub child_front : (Point → List Token) → ℕ → ℕ → Forest Content → List Token
child_front marks n i empty = []
child_front marks n i (node x kids rest) = marks (point n i) ++ (own marks x kids ++ child_front marks n (suc i) rest)

-- the units of a node from offset i on, without what stands in the gap after them
abbrev pub unit_front : (Point → List Token) → ℕ → ℕ → List ℕ → List Token
unit_front marks n i [] = []
unit_front marks n i (u ∷ units) = marks (point n i) ++ (OneUnit u ∷ unit_front marks n (suc i) units)

pub own-then : (marks : (Point → List Token)) (x : Node Content) (kids : Forest Content) (ts : List Token) → Open x.number ∷ (inside marks x kids ++ (Close ∷ ts)) ≡ own marks x kids ++ ts
own-then marks x kids ts = ap (λ (us : List Token). Open x.number ∷ us) (sym (append_assoc (inside marks x kids) (Close ∷ []) ts))

pub inside-data : (marks : (Point → List Token)) (x : Node Content) (kids : Forest Content) → is_character_data x.label.kind ≡ true → inside marks x kids ≡ unit_tokens marks x.number 0 x.body.text
inside-data marks x kids h = rw h refl

-- the tokens of children are those ahead of a gap, and those from it on
pub child_tokens-beside : (marks : (Point → List Token)) (n i : ℕ) (f g : Forest Content) → child_tokens marks n i (beside f g) ≡ child_front marks n i f ++ child_tokens marks n (i + breadth f) g
child_tokens-beside marks n i empty g = ap (λ k. child_tokens marks n k g) (omega arith)
child_tokens-beside marks n i (node x kids rest) g =
    let s : suc i + breadth rest ≡ i + suc (breadth rest) = omega arith in
    rw (child_tokens-beside marks n (suc i) rest g, s) (simp append_assoc)

pub child_tokens-front : (marks : (Point → List Token)) (n i : ℕ) (f : Forest Content) → child_tokens marks n i f ≡ child_front marks n i f ++ marks (point n (i + breadth f))
child_tokens-front marks n i f = ap (child_tokens marks n i) (sym (beside-empty f)) ∙ child_tokens-beside marks n i f empty

pub unit_tokens-append : (marks : (Point → List Token)) (n i : ℕ) (us vs : List ℕ) → unit_tokens marks n i (us ++ vs) ≡ unit_front marks n i us ++ unit_tokens marks n (i + length us) vs
unit_tokens-append marks n i [] vs = ap (λ k. unit_tokens marks n k vs) (omega arith)
unit_tokens-append marks n i (u ∷ us) vs =
    let s : suc i + length us ≡ i + suc (length us) = omega arith in
    rw (unit_tokens-append marks n (suc i) us vs, s) (simp append_assoc)

pub unit_tokens-front : (marks : (Point → List Token)) (n i : ℕ) (us : List ℕ) → unit_tokens marks n i us ≡ unit_front marks n i us ++ marks (point n (i + length us))
unit_tokens-front marks n i us = ap (unit_tokens marks n i) (sym (append-nil us)) ∙ unit_tokens-append marks n i us []

module _ (marks : Point → List Token) (only : (p : Point) → AreMarks (marks p)) where
  pub walk-units : (n i : ℕ) (us : List ℕ) (around : List Point) → walk (unit_front marks n i us) (point n i ∷ around) ≡ point n (i + length us) ∷ around
  walk-units n i [] around = ap (λ k. point n k ∷ around) (omega arith)
  walk-units n i (u ∷ us) around =
      let s : suc i + length us ≡ i + suc (length us) = omega arith in
      let e : i + 1 ≡ suc i = omega arith in
      rw (walk-append (marks (point n i)) (OneUnit u ∷ unit_front marks n (suc i) us) (point n i ∷ around), walk-marks (marks (point n i)) (point n i ∷ around) (only (point n i)))
      (ap (λ k. walk (unit_front marks n (suc i) us) (point n k ∷ around)) e ∙ walk-units n (suc i) us around ∙ ap (λ k. point n k ∷ around) s)

  -- a walk that comes to a point goes on over its markers
  over-marks : (q : Point) (ts : List Token) (here there : List Point) → walk ts here ≡ there → walk (ts ++ marks q) here ≡ there
  over-marks q ts here there e = walk-append ts (marks q) here ∙ (rw e (walk-marks (marks q) there (only q)))

  walk-all_units : (n i : ℕ) (us : List ℕ) (around : List Point) → walk (unit_tokens marks n i us) (point n i ∷ around) ≡ point n (i + length us) ∷ around
  walk-all_units n i us around =
      rw (unit_tokens-front marks n i us) (over-marks (point n (i + length us)) (unit_front marks n i us) (point n i ∷ around) (point n (i + length us) ∷ around) (walk-units n i us around))

  pub walk-inside : (x : Node Content) (kids : Forest Content) (around : List Point) → (walk (child_tokens marks x.number 0 kids) (point x.number 0 ∷ around) ≡ point x.number (0 + breadth kids) ∷ around) → (k : ℕ) × (walk (inside marks x kids) (point x.number 0 ∷ around) ≡ point x.number k ∷ around)
  walk-inside x kids around h =
      elim (cases_Bool (is_character_data x.label.kind)) [
        | inl e ↦ rw e (0 + length x.body.text, walk-all_units x.number 0 x.body.text around)
        | inr e ↦ rw e (0 + breadth kids, h)
      ]

  walk-own_of : (x : Node Content) (kids : Forest Content) (here : List Point) → (walk (child_tokens marks x.number 0 kids) (point x.number 0 ∷ here) ≡ point x.number (0 + breadth kids) ∷ here) → walk (own marks x kids) here ≡ stepped here
  walk-own_of x kids here h =
      let i = walk-inside x kids here h in
      walk-append (inside marks x kids) (Close ∷ []) (point x.number 0 ∷ here) ∙ ap (walk (Close ∷ [])) i.1

  front-all : (n i : ℕ) (f : Forest Content) (around : List Point) → walk (child_front marks n i f) (point n i ∷ around) ≡ point n (i + breadth f) ∷ around → walk (child_tokens marks n i f) (point n i ∷ around) ≡ point n (i + breadth f) ∷ around
  front-all n i f around h =
      rw (child_tokens-front marks n i f) (over-marks (point n (i + breadth f)) (child_front marks n i f) (point n i ∷ around) (point n (i + breadth f) ∷ around) h)

  -- a walk over children comes to the gap after them
  pub walk-children : (n i : ℕ) (f : Forest Content) (around : List Point) → walk (child_front marks n i f) (point n i ∷ around) ≡ point n (i + breadth f) ∷ around
  walk-children n i empty around = ap (λ k. point n k ∷ around) (omega arith)
  walk-children n i (node x kids rest) around =
      let s : suc i + breadth rest ≡ i + suc (breadth rest) = omega arith in
      let e : i + 1 ≡ suc i = omega arith in
      let here = point n i ∷ around in
      rw (walk-append (marks (point n i)) (own marks x kids ++ child_front marks n (suc i) rest) here, walk-marks (marks (point n i)) here (only (point n i)))
      (rw (walk-append (own marks x kids) (child_front marks n (suc i) rest) here, walk-own_of x kids here (front-all x.number 0 kids here (walk-children x.number 0 kids here)))
      (ap (λ k. walk (child_front marks n (suc i) rest) (point n k ∷ around)) e ∙ walk-children n (suc i) rest around ∙ ap (λ k. point n k ∷ around) s))

  pub walk-all_children : (n i : ℕ) (f : Forest Content) (around : List Point) → walk (child_tokens marks n i f) (point n i ∷ around) ≡ point n (i + breadth f) ∷ around
  walk-all_children n i f around = front-all n i f around (walk-children n i f around)

  -- and over a node's own tokens, one step on
  pub walk-own : (x : Node Content) (kids : Forest Content) (here : List Point) → walk (own marks x kids) here ≡ stepped here
  walk-own x kids here = walk-own_of x kids here (walk-all_children x.number 0 kids here)
