-- Markers where a Text is joined with the next: those of the next and of the gap between the two go into the first.
use Rattle.std.proofs.Common.{◌≡◌, ℕ, suc, ◌+◌, ◌-◌, ◌≤◌, ◌==◌, nat_lt, Bool, false, if◌then◌else◌, List, [], ◌++◌, Option, Some, None, option_map, refl, arith}
use Rattle.std.proofs.lemmas.Bool.Decides.{nat_tests}
use Rattle.dom_model.specs.Definitions.{among, Point, after_removal, after_splice, after_merge, Token, point}
use Rattle.dom_model.proofs.PlainLists.Numbers.{same_or, same, apart}
use Rattle.dom_model.proofs.TokenText.{Pieces.TokenLists.marked, Pieces.TokenLists.tally-append, Pieces.TokenLists.AreMarks, Pieces.TokenLists.AreMarks-append, Marked.MarkedTexts.stands, Marked.MarkersMoved.StandFor, Marked.MarkersMoved.AreMarks_if, Marked.GapClosed.closed_or, Marked.GapClosed.earlier, Marked.GapClosed.the_gap, Marked.GapClosed.later}

abbrev pub merged_at : ℕ → List Token → (ℕ → List Token) → (ℕ → List Token) → ℕ → List Token
merged_at base seam own next o = if nat_lt o base then own o else (if nat_lt base o then next (o - base) else own base ++ (seam ++ next 0))

-- the markers after the Text `next`, at index k + 1 of the parent, was joined to the Text ahead of it, whose length was `base`
abbrev pub gap_merged : ℕ → ℕ → ℕ → ℕ → ℕ → (Point → List Token) → Point → List Token
gap_merged n base next parent k marks q =
    if q.node == next then []
    else (if q.node == n then merged_at base (marks (point parent (suc k))) (λ o. marks (point n o)) (λ o. marks (point next o)) q.offset
    else (if q.node == parent then (if nat_lt k q.offset then marks (point parent (suc q.offset)) else marks q) else marks q))

-- where the ends go, all in one
abbrev pub merged_point : ℕ → ℕ → ℕ → ℕ → ℕ → Point → Point
merged_point n base next parent k p =
    if p.node == next then point n (base + p.offset)
    else (if p.node == parent then (if nat_lt (suc k) p.offset then point p.node (p.offset - 1) else (if p.offset == suc k then point n base else p)) else p)

module _ (n base next parent k : ℕ) (apart_next : n ≡ next → ⊥) (apart_parent : n ≡ parent → ⊥) (parent_next : parent ≡ next → ⊥) where
  abbrev move : Point → Point
  move p = merged_point n base next parent k p

  -- the maps of the standard's steps, one after another, on a point within its node's length
  pub merged-steps : (added : ℕ) (descendants : List ℕ) (index : ℕ) → index ≡ suc k → ((i : ℕ) → (i ≡ next → ⊥) → among i descendants ≡ false) → (p : Point) → (p.node ≡ n → p.offset ≤ base) → after_removal descendants parent index (after_merge next n base parent index (after_splice n base 0 added p)) ≡ merged_point n base next parent k p
  merged-steps added descendants index e out p within = grind (arith, nat_tests)

  -- an end's markers stand where it then does, if it was within the first Text
  at_end : (marks : (Point → List Token)) (r : ℕ) (side : Bool) (e : Option Point) → ((p : Point) → marked r side (marks p) ≡ stands e p) → ((p : Point) → e ≡ Some p → p.node ≡ n → p.offset ≤ base) → (q : Point) → marked r side (gap_merged n base next parent k marks q) ≡ stands (option_map move e) q
  at_end marks r side None h f q = grind (arith, nat_tests, h, tally-append)
  at_end marks r side (Some p) h f q =
      let g = f p refl in
      elim (same_or q.node next) [
        | same e t ↦ grind (arith, nat_tests, h)
        | apart a t ↦
            elim (same_or q.node n) [
              | same e u ↦
                  elim (closed_or base q.offset) [
                    | earlier l ↦ grind (arith, nat_tests, h)
                    | the_gap l ↦ grind (arith, nat_tests, h, tally-append)
                    | later l ↦ grind (arith, nat_tests, h)
                  ]
              | apart b u ↦
                  elim (same_or q.node parent) [
                    | same e v ↦ rw (t, u, v) (grind (arith, nat_tests, h))
                    | apart c v ↦ rw (t, u, v) (grind (arith, nat_tests, h))
                  ]
            ]
      ]

  pub standing-merged : (marks : (Point → List Token)) (ends : (ℕ → Bool → Option Point)) → StandFor marks ends → ((r : ℕ) (side : Bool) (p : Point) → ends r side ≡ Some p → p.node ≡ n → p.offset ≤ base) → StandFor (gap_merged n base next parent k marks) (λ r side. option_map (merged_point n base next parent k) (ends r side))
  standing-merged marks ends h within r side = at_end marks r side (ends r side) (h r side) (within r side)

  pub AreMarks-merged : (marks : (Point → List Token)) → ((q : Point) → AreMarks (marks q)) → (q : Point) → AreMarks (gap_merged n base next parent k marks q)
  AreMarks-merged marks h q = search (AreMarks_if, AreMarks-append, h) depth 9
