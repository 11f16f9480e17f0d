-- Markers where a node comes into a gap: they move on as the ends do.
use Rattle.std.proofs.Common.{◌≡◌, ℕ, suc, ◌-◌, ◌<◌, ◌≤◌, ◌==◌, nat_lt, Bool, true, false, if◌then◌else◌, List, [], Option, Some, None, option_map, refl, ap, ◌∙◌, arith, eq-eqb, slice_index_or}
use Rattle.std.proofs.lemmas.{Bool.lt-ltb, Bool.le-ltb, Bool.Decides.nat_tests, Bool.ne_eqb}
use Rattle.std.proofs.Math.ListN.{get_or-map}
use Rattle.dom_model.specs.Definitions.{Point, Range, after_gap, map_ranges, moved_range, end_of, Token, point, end_at}
use Rattle.dom_model.proofs.TokenText.{Pieces.TokenLists.marked, Pieces.TokenLists.AreMarks, Marked.MarkedTexts.stands, Marked.MarkersMoved.StandFor, Marked.MarkersMoved.AreMarks_if}

-- the ends of live ranges that all move
pub end_at-moved : (move : (Point → Point)) (ranges : List (Option Range)) (r : ℕ) (side : Bool) → end_at (map_ranges move ranges) r side ≡ option_map move (end_at ranges r side)
end_at-moved move ranges r side = ap (option_map (end_of side)) (get_or-map (option_map (moved_range move)) ranges r None) ∙ go side (slice_index_or ranges r None)
  where
    go : (s : Bool) (o : Option Range) → option_map (end_of s) (option_map (moved_range move) o) ≡ option_map move (option_map (end_of s) o)
    go s o = grind arith

-- and that move thrice
pub end_at-moved_thrice : (first second third move : Point → Point) (ranges : List (Option Range)) (r : ℕ) (side : Bool) → ((p : Point) → end_at ranges r side ≡ Some p → third (second (first p)) ≡ move p) → end_at (map_ranges third (map_ranges second (map_ranges first ranges))) r side ≡ option_map move (end_at ranges r side)
end_at-moved_thrice first second third move ranges r side h =
    end_at-moved third (map_ranges second (map_ranges first ranges)) r side
    ∙ ap (option_map third) (end_at-moved second (map_ranges first ranges) r side ∙ ap (option_map second) (end_at-moved first ranges r side))
    ∙ go (end_at ranges r side) h
  where
    go : (e : Option Point) → ((p : Point) → e ≡ Some p → third (second (first p)) ≡ move p) → option_map third (option_map second (option_map first e)) ≡ option_map move e
    go None k = refl
    go (Some p) k = ap (λ (q : Point). Some q) (k p refl)

-- Where a gap opens at an index, the one after it is new, and those that stood later move on by one.

abbrev pub opened_at : ℕ → (ℕ → List Token) → ℕ → List Token
opened_at k marks o = if nat_lt k o then (if nat_lt (suc k) o then marks (o - 1) else []) else marks o

abbrev pub gap_opened : ℕ → ℕ → (Point → List Token) → Point → List Token
gap_opened parent k marks q = if q.node == parent then opened_at k (λ o. marks (point parent o)) q.offset else marks q

pub opened-earlier : (k : ℕ) (marks : (ℕ → List Token)) (o : ℕ) → o ≤ k → opened_at k marks o ≡ marks o
opened-earlier k marks o h = rw (le-ltb k o h) refl

pub opened-new : (k : ℕ) (marks : (ℕ → List Token)) (o : ℕ) → o ≡ suc k → opened_at k marks o ≡ []
opened-new k marks o h = rw (lt-ltb k o (omega arith), le-ltb (suc k) o (omega arith)) refl

pub opened-later : (k : ℕ) (marks : (ℕ → List Token)) (o j : ℕ) → o ≡ suc j → k < j → opened_at k marks o ≡ marks j
opened-later k marks o j h l = rw (lt-ltb k o (omega arith), lt-ltb (suc k) o (omega arith)) (ap marks (omega arith))

pub different : (m n : ℕ) → (m ≡ n → ⊥) → (m == n) ≡ false
different m n h = ne_eqb m n h

pub equal : (m n : ℕ) → m ≡ n → (m == n) ≡ true
equal m n h = eq-eqb m n h

module _ (parent k : ℕ) (marks : Point → List Token) where
  -- an end's markers stand where it then does
  at_end : (r : ℕ) (side : Bool) (e : Option Point) → ((p : Point) → marked r side (marks p) ≡ stands e p) → (q : Point) → marked r side (gap_opened parent k marks q) ≡ stands (option_map (after_gap parent k 1) e) q
  at_end r side None h q = grind (arith, nat_tests, h)
  at_end r side (Some p) h q = grind (arith, nat_tests, h)

  pub standing-opened : (ends : (ℕ → Bool → Option Point)) → StandFor marks ends → StandFor (gap_opened parent k marks) (λ r side. option_map (after_gap parent k 1) (ends r side))
  standing-opened ends h r side = at_end r side (ends r side) (h r side)

  pub AreMarks-opened : ((q : Point) → AreMarks (marks q)) → (q : Point) → AreMarks (gap_opened parent k marks q)
  AreMarks-opened h q = search (AreMarks_if, h)
