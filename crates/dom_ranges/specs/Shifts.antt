-- How a shift moves a point, and what it asks of the ends that it moves.
use Rattle.std.specs.Prelude.{◌≡◌, ℕ, ◌+◌, ◌-◌, ◌^◌, ◌<◌, nat_lt, nat_le, if◌then◌else◌, Bool, List}
use Rattle.dom_model.specs.Worlds.World.{Point}
use Rattle.dom_model.specs.BoundaryPoints.Points.{after_splice, after_split, after_merge}
use Rattle.dom_chains.specs.Keyed.{CanChange}
use Rattle.dom_ranges.specs.declared.shift.Shift.{Shift}
use Rattle.dom_ranges.specs.declared.shift.Shift.TheVariants.{Splice, Split, Merge, Gather}
use Rattle.dom_ranges.specs.Ends.{point_of, moved_end}

-- an offset, once `added` units stand in the place of `count`
abbrev pub spliced_offset : ℕ → ℕ → ℕ → ℕ → ℕ
spliced_offset at count added offset =
    if nat_lt at offset then (if nat_le offset (at + count) then at else offset - count + added) else offset

abbrev pub shifted : Shift → Point → Point
shifted (Splice inside at count added) p = after_splice inside at count added p
shifted (Split text at new parent index) p = after_split text at new parent index p
shifted (Merge from into base parent index) p = after_merge from into base parent index p
shifted (Gather to) p = to

-- the offset of an end that is moved is a number of the machine, as it was before
abbrev pub FitsMovedEnd : (Point → Point) → ℕ × ℕ → Type 0
FitsMovedEnd move end = end.1 < 2 ^ 64 → (move (point_of end)).offset < 2 ^ 64

-- each end in a node may be moved, and goes to a covered node
abbrev pub CanMove : (Point → Point) → ℕ → List (ℕ × ℕ) → List Bool → Type 0
CanMove move = CanChange (FitsMovedEnd move) (moved_end move)

-- of two nodes that differ, no point of the first goes to the second
abbrev pub GoesElsewhere : ℕ → ℕ → (Point → Point) → Type 0
GoesElsewhere first second move = (p : Point) → (first ≡ second → ⊥) → p.node ≡ first → (move p).node ≡ second → ⊥

-- points of other nodes than two stay
abbrev pub StaysBeside : ℕ → ℕ → (Point → Point) → Type 0
StaysBeside first second move = (p : Point) → (p.node ≡ first → ⊥) → (p.node ≡ second → ⊥) → move p ≡ p
