-- Offsets that move fit a number of the machine where the lengths of the nodes do.
use Rattle.std.proofs.Common.{◌≡◌, Bool, ℕ, ◌+◌, ◌-◌, ◌^◌, ◌<◌, ◌≤◌, nat_lt, nat_le, true, false, if◌then◌else◌, List, length, Option, Some, None, All, refl, subst, arith, IfSome}
use Rattle.std.proofs.lemmas.{Bool.Decides.nat_tests, List.Elements.All-weaker}
use Rattle.dom_model.specs.Definitions.{is_character_data, Forest, entry_in, unit_count, node_length, Content, Point, Range, IsBoundary, IsRange, after_splice, kind_passes, content_in}
use Rattle.dom_model.proofs.PlainLists.Numbers.{same_or, same, apart}
use Rattle.dom_model.proofs.Soundness.SoundData.{length-data}
use Rattle.dom_ranges.specs.Tables.{FitsMoved, OffsetsFit}

-- a map under which each boundary point fits
pub offsets-fit : (f : Forest Content) (move : Point → Point) → ((p : Point) → IsBoundary f p → p.offset < 2 ^ 64 → (move p).offset < 2 ^ 64) → (ranges : List (Option Range)) → All (λ (r : Option Range). IfSome r (IsRange f)) ranges → OffsetsFit move ranges
offsets-fit f move fits ranges h = All-weaker (λ (r : Option Range). IfSome r (IsRange f)) (λ (r : Option Range). IfSome r (FitsMoved move)) each ranges h
  where
    each : (r : Option Range) → IfSome r (IsRange f) → IfSome r (FitsMoved move)
    each None k = tt
    each (Some r) k = record { start = fits r.start k.starts; end = fits r.end k.ends }

-- units are replaced
pub splice-fits : (f : Forest Content) (n offset count added : ℕ) → kind_passes is_character_data f n ≡ true → offset + count ≤ length (content_in (entry_in f n)).text → length (content_in (entry_in f n)).text + added < 2 ^ 64 + count
    → (ranges : List (Option Range)) → All (λ (r : Option Range). IfSome r (IsRange f)) ranges → OffsetsFit (after_splice n offset count added) ranges
splice-fits f n offset count added kind within small = offsets-fit f (after_splice n offset count added) fits
  where
    fits : (p : Point) → IsBoundary f p → p.offset < 2 ^ 64 → (after_splice n offset count added p).offset < 2 ^ 64
    fits p b lt =
        elim (same_or p.node n) [
          | same e t ↦
              let whole : p.offset ≤ length (content_in (entry_in f n)).text = subst (λ l. p.offset ≤ l) (length-data f n kind) (subst (λ m. p.offset ≤ node_length unit_count f m) e b.within) in
              rw t (go (nat_lt offset p.offset) (nat_le p.offset (offset + count)) refl refl whole)
          | apart ne t ↦ rw t lt
        ]
      where
        go : (u v : Bool) → nat_lt offset p.offset ≡ u → nat_le p.offset (offset + count) ≡ v → p.offset ≤ length (content_in (entry_in f n)).text
            → (if u then (if v then record p { offset = offset } else record p { offset = p.offset - count + added }) else p).offset < 2 ^ 64
        go false v x y whole = lt
        go true true x y whole = grind (arith, nat_tests)
        go true false x y whole = grind (arith, nat_tests)
