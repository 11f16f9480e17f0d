-- Markers where units give way to others: those among the old units come together ahead of the new ones, and later ones move.
use Rattle.std.proofs.Common.{◌≡◌, ℕ, zero, suc, ◌+◌, ◌-◌, ◌==◌, nat_lt, nat_le, Bool, ◌&&◌, if◌then◌else◌, List, [], ◌++◌, Option, Some, None, option_map, refl, ◌∙◌, arith}
use Rattle.std.proofs.lemmas.Bool.Decides.{nat_tests}
use Rattle.dom_model.specs.Definitions.{Point, after_splice, Token, is_mark_of, point}
use Rattle.dom_model.proofs.TokenText.{Pieces.TokenLists.marked, Pieces.TokenLists.tally-append, Pieces.TokenLists.AreMarks, Pieces.TokenLists.AreMarks-append, Pieces.TextCounts.spread, Pieces.TextCounts.spread-none, Marked.MarkedTexts.stands, Marked.MarkersMoved.StandFor, Marked.MarkersMoved.AreMarks_if}

-- the markers of a gap and of as many after it
abbrev pub gathered : (ℕ → List Token) → ℕ → ℕ → List Token
gathered marks o zero = marks o
gathered marks o (suc count) = marks o ++ gathered marks (suc o) count

abbrev pub spliced_at : ℕ → ℕ → ℕ → (ℕ → List Token) → ℕ → List Token
spliced_at o count added marks j =
    if nat_lt o j then (if nat_lt (o + added) j then marks (j - added + count) else []) else (if nat_lt j o then marks j else gathered marks o count)

abbrev pub gap_spliced : ℕ → ℕ → ℕ → ℕ → (Point → List Token) → Point → List Token
gap_spliced n o count added marks q = if q.node == n then spliced_at o count added (λ j. marks (point n j)) q.offset else marks q

-- how many of the ends there are in a gap and in as many after it
spread-stands : (p : Point) (n i l : ℕ) → spread (stands (Some p)) n i l ≡ (if (p.node == n) && (nat_le i p.offset && nat_le p.offset (i + l)) then 1 else 0)
spread-stands p n i zero = grind (arith, nat_tests)
spread-stands p n i (suc l) = grind (arith, nat_tests, spread-stands p n (suc i) l)

module _ (n o count added : ℕ) (marks : Point → List Token) where
  abbrev move : Point → Point
  move p = after_splice n o count added p

  marked-gathered : (r : ℕ) (side : Bool) (e : Option Point) → ((p : Point) → marked r side (marks p) ≡ stands e p) → (i l : ℕ) → marked r side (gathered (λ j. marks (point n j)) i l) ≡ spread (stands e) n i l
  marked-gathered r side e h i zero = h (point n i)
  marked-gathered r side e h i (suc l) =
      tally-append (is_mark_of r side) (marks (point n i)) (gathered (λ j. marks (point n j)) (suc i) l)
      ∙ (omega (arith, h (point n i), marked-gathered r side e h (suc i) l))

  -- an end's markers stand where it then does
  at_end : (r : ℕ) (side : Bool) (e : Option Point) → ((p : Point) → marked r side (marks p) ≡ stands e p) → (q : Point) → marked r side (gap_spliced n o count added marks q) ≡ stands (option_map move e) q
  at_end r side None h q =
      let g = marked-gathered r side None h o count in
      let z = spread-none (stands None) n o count (λ j a b. refl) in
      grind (arith, nat_tests, h)
  at_end r side (Some p) h q =
      let g = marked-gathered r side (Some p) h o count in
      let z = spread-stands p n o count in
      grind (arith, nat_tests, h)

  pub standing-spliced : (ends : (ℕ → Bool → Option Point)) → StandFor marks ends → StandFor (gap_spliced n o count added marks) (λ r side. option_map (after_splice n o count added) (ends r side))
  standing-spliced ends h r side = at_end r side (ends r side) (h r side)

  AreMarks-gathered : ((q : Point) → AreMarks (marks q)) → (i l : ℕ) → AreMarks (gathered (λ j. marks (point n j)) i l)
  AreMarks-gathered h i zero = h (point n i)
  AreMarks-gathered h i (suc l) = AreMarks-append (marks (point n i)) (gathered (λ j. marks (point n j)) (suc i) l) (h (point n i)) (AreMarks-gathered h (suc i) l)

  pub AreMarks-spliced : ((q : Point) → AreMarks (marks q)) → (q : Point) → AreMarks (gap_spliced n o count added marks q)
  AreMarks-spliced h q = search (AreMarks_if, AreMarks-gathered h, h)
