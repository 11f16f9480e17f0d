-- Markers where a node leaves its parent: those inside it and at it come together, and later ones of the parent move back.
use Rattle.std.proofs.Common.{◌≡◌, ℕ, suc, ◌<◌, ◌≤◌, ◌==◌, nat_lt, Bool, true, false, if◌then◌else◌, List, [], ◌++◌, Option, Some, None, option_map, refl, arith, ⊎_elim}
use Rattle.std.proofs.lemmas.{Bool.cond_both, Bool.cases_lt, Bool.Decides.nat_tests}
use Rattle.dom_model.specs.Definitions.{among, Point, after_removal, Token, point}
use Rattle.dom_model.proofs.PlainLists.Numbers.{same_or, same, apart}
use Rattle.dom_model.proofs.TokenText.{Pieces.TokenLists.marked, Pieces.TokenLists.tally-append, Pieces.TokenLists.AreMarks, Pieces.TokenLists.AreMarks-append, Marked.MarkedTexts.stands, Marked.MarkersMoved.StandFor, Marked.MarkersMoved.AreMarks_if}

-- Where the node at an index leaves, its gaps on both sides become one, with what was inside between them.
abbrev pub closed_at : ℕ → List Token → (ℕ → List Token) → ℕ → List Token
closed_at k inner marks o = if nat_lt o k then marks o else (if nat_lt k o then marks (suc o) else marks k ++ (inner ++ marks (suc k)))

abbrev pub gap_closed : (ℕ → Bool) → ℕ → ℕ → List Token → (Point → List Token) → Point → List Token
gap_closed gone parent k inner marks q =
    if gone q.node then [] else (if q.node == parent then closed_at k inner (λ o. marks (point parent o)) q.offset else marks q)

pub data Closed (k o : ℕ) : Type 0 where
  earlier : o < k → Closed k o
  the_gap : o ≡ k → Closed k o
  later : k < o → Closed k o

pub closed_or : (k o : ℕ) → Closed k o
closed_or k o = ⊎_elim (λ (lt : o < k). earlier lt) (λ (le : k ≤ o). ⊎_elim (λ (gt : k < o). later gt) (λ (ge : o ≤ k). the_gap (omega arith)) (cases_lt k o)) (cases_lt o k)

module _ (descendants : List ℕ) (parent k : ℕ) (outside : among parent descendants ≡ false) where
  abbrev move : Point → Point
  move p = after_removal descendants parent k p

  abbrev gone : ℕ → Bool
  gone n = among n descendants

  -- how many markers of each end are inside the node: one where its point is, else none
  pub record Inner (inner : List Token) (ends : ℕ → Bool → Option Point) : Type 0 where
    pub there : (r : ℕ) (side : Bool) (p : Point) → ends r side ≡ Some p → gone p.node ≡ true → marked r side inner ≡ 1
    pub away : (r : ℕ) (side : Bool) (p : Point) → ends r side ≡ Some p → gone p.node ≡ false → marked r side inner ≡ 0
    pub none : (r : ℕ) (side : Bool) → ends r side ≡ None → marked r side inner ≡ 0

  module _ (marks : Point → List Token) (ends : ℕ → Bool → Option Point) (h : StandFor marks ends) (inner : List Token) (i : Inner inner ends) where
    -- an end's markers stand where it then does
    at_end : (r : ℕ) (side : Bool) (p : Point) → ends r side ≡ Some p → ((p' : Point) → marked r side (marks p') ≡ stands (Some p) p') → (q : Point) → marked r side (gap_closed gone parent k inner marks q) ≡ stands (Some (move p)) q
    at_end r side p d h q =
        let a = i.there r side p d in
        let b = i.away r side p d in
        elim (same_or q.node parent) [
          | same e t ↦
              elim (closed_or k q.offset) [
                | earlier l ↦ grind (arith, nat_tests, h)
                | the_gap l ↦ grind (arith, nat_tests, h, tally-append)
                | later l ↦ grind (arith, nat_tests, h)
              ]
          | apart ne t ↦
              rw t
              (cond_both (gone q.node) [] (marks q) (λ ms. marked r side ms ≡ stands (Some (move p)) q) (λ z. grind (arith, nat_tests)) (λ z. grind (arith, nat_tests, h)))
        ]

    at_any : (r : ℕ) (side : Bool) (e : Option Point) → ends r side ≡ e → ((p : Point) → marked r side (marks p) ≡ stands e p) → (q : Point) → marked r side (gap_closed gone parent k inner marks q) ≡ stands (option_map move e) q
    at_any r side None d h q = let z = i.none r side d in grind (arith, nat_tests, h, tally-append)
    at_any r side (Some p) d h q = at_end r side p d h q

    -- the markers stand where the ends then do
    pub standing-closed : StandFor (gap_closed gone parent k inner marks) (λ r side. option_map (after_removal descendants parent k) (ends r side))
    standing-closed r side = at_any r side (ends r side) refl (h r side)

  pub AreMarks-closed : (inner : List Token) → AreMarks inner → (marks : (Point → List Token)) → ((q : Point) → AreMarks (marks q)) → (q : Point) → AreMarks (gap_closed gone parent k inner marks q)
  AreMarks-closed inner a marks h q = search (AreMarks_if, AreMarks-append, h) depth 9
