-- Markers where a Text is split: those beyond the offset go into the new one, and later ones of the parent move on.
use Rattle.std.proofs.Common.{◌≡◌, ℕ, ◌+◌, ◌-◌, ◌==◌, nat_lt, Bool, if◌then◌else◌, List, [], Option, Some, None, option_map, refl, arith}
use Rattle.std.proofs.lemmas.{Bool.cond_both, Bool.Decides.nat_tests}
use Rattle.dom_model.specs.Definitions.{Point, after_gap, after_splice, after_split, Token, point}
use Rattle.dom_model.proofs.PlainLists.Numbers.{same_or, same, apart}
use Rattle.dom_model.proofs.TokenText.{Pieces.TokenLists.marked, Pieces.TokenLists.AreMarks, Marked.MarkedTexts.stands, Marked.MarkersMoved.StandFor, Marked.MarkersMoved.AreMarks_if, Marked.GapOpened.gap_opened, Marked.GapOpened.AreMarks-opened}

-- the markers after a Text of the parent, at index k, was split at an offset
abbrev pub gap_parted : ℕ → ℕ → ℕ → ℕ → ℕ → (Point → List Token) → Point → List Token
gap_parted n o new parent k marks q =
    if q.node == new then (if nat_lt 0 q.offset then marks (point n (o + q.offset)) else [])
    else (if q.node == n then (if nat_lt o q.offset then [] else marks q) else gap_opened parent k marks q)

-- where the ends go, all in one
abbrev pub parted_point : ℕ → ℕ → ℕ → ℕ → ℕ → Point → Point
parted_point n o new parent k p = if p.node == n then (if nat_lt o p.offset then point new (p.offset - o) else p) else after_gap parent k 1 p

module _ (n o new parent k tail : ℕ) (apart_new : n ≡ new → ⊥) (apart_parent : n ≡ parent → ⊥) where
  abbrev move : Point → Point
  move p = parted_point n o new parent k p

  -- the three maps of the standard's steps, one after another
  pub parted-steps : (p : Point) → after_splice n o tail 0 (after_split n o new parent k (after_gap parent (k + 1) 1 p)) ≡ parted_point n o new parent k p
  parted-steps p = grind (arith, nat_tests)

  -- an end's markers stand where it then does; none stood in the new Text
  at_end : (marks : (Point → List Token)) (r : ℕ) (side : Bool) (e : Option Point) → ((p : Point) → e ≡ Some p → p.node ≡ new → ⊥) → ((p : Point) → marked r side (marks p) ≡ stands e p) → (q : Point) → marked r side (gap_parted n o new parent k marks q) ≡ stands (option_map move e) q
  at_end marks r side None f h q = grind (arith, nat_tests, h)
  at_end marks r side (Some p) f h q =
      let g = f p refl in
      elim (same_or q.node new) [
        | same d t ↦
            rw t
            (cond_both (nat_lt 0 q.offset) (marks (point n (o + q.offset))) [] (λ ms. marked r side ms ≡ stands (Some (move p)) q)
            (λ z. grind (arith, nat_tests, h)) (λ z. grind (arith, nat_tests)))
        | apart a t ↦ elim (same_or q.node n) [ same e u ↦ rw (t, u) (grind (arith, nat_tests, h)) | apart b u ↦ rw (t, u) (grind (arith, nat_tests, h)) ]
      ]

  pub standing-parted : (marks : (Point → List Token)) (ends : (ℕ → Bool → Option Point)) → StandFor marks ends → ((r : ℕ) (side : Bool) (p : Point) → ends r side ≡ Some p → p.node ≡ new → ⊥) → StandFor (gap_parted n o new parent k marks) (λ r side. option_map (parted_point n o new parent k) (ends r side))
  standing-parted marks ends h fresh r side = at_end marks r side (ends r side) (fresh r side) (h r side)

  pub AreMarks-parted : (marks : (Point → List Token)) → ((q : Point) → AreMarks (marks q)) → (q : Point) → AreMarks (gap_parted n o new parent k marks q)
  AreMarks-parted marks h q = search (AreMarks_if, AreMarks-opened parent k marks h, h)
