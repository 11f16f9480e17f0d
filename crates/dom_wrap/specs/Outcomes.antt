-- A sequence of steps that may refuse, as a step that leaves the world where it refuses. DOM Standard, "Interface Range" (insertNode, surroundContents).
use Rattle.std.specs.Prelude.{◌≡◌, ℕ, ◌<◌, true, false, Option, Some, None, Ok, Err}
use Rattle.std.specs.Option.{ForSome}
use Rattle.dom_model.specs.Forests.Forest.{index_of}
use Rattle.dom_model.specs.Worlds.Lengths.{length_at}
use Rattle.dom_model.specs.Worlds.World as model
use Rattle.dom_model.specs.Worlds.World.{Point, Range}
use Rattle.dom_model.specs.Soundness.Sound.{IsSound}
use Rattle.dom_model.specs.MutationAlgorithms.Checks.{check_insert}
use Rattle.dom_model.specs.MutationAlgorithms.Editing.{remove}
use Rattle.dom_model.specs.RangesAndContents.Wrapping.{Outcome, and_then, is_text, end_if_collapsed, placed_at, insert_node, try_pre_insert, try_select, refusal_in}
use Rattle.dom_edit.specs.declared.world.World.{World}
use Rattle.dom_ranges.specs.Tables.{range_in}
use Rattle.dom_edit.specs.Whole.{Keeps, Follows, unwatched}

-- the world after the steps; the world as it was where one of them refuses
abbrev pub world_after_outcome : Outcome → model.World → model.World
world_after_outcome (Ok next) w = next
world_after_outcome (Err e) w = w

-- a world that the steps leave is sound
abbrev pub LeavesSound : Outcome → Type 0
LeavesSound (Ok next) = IsSound next
LeavesSound (Err e) = Unit {0}

-- the index before a child of a parent, or behind the last
abbrev pub insertion_index : model.World → ℕ → Option ℕ → ℕ
insertion_index w parent None = length_at w parent
insertion_index w parent (Some c) = index_of w.forest c

-- a node that is taken out may come in before the reference, and what is left is sound
pub record MayBePlacedAt (v : World) (r n parent : ℕ) (reference : Option ℕ) : Type 0 where
  pub stands_for : model.World
  pub keeps : Keeps v stands_for
  pub passes : check_insert (remove false n stands_for).forest parent n reference ≡ None
  pub sound : LeavesSound (placed_at r n parent reference stands_for)

-- a range that is collapsed may end at a point
pub record MayEndAt (v : World) (r : ℕ) (p : Point) : Type 0 where
  pub stands_for : model.World
  pub keeps : Keeps v stands_for
  pub sound : IsSound (end_if_collapsed r p stands_for)

-- steps that are not refused in a world that this one stands for
pub record MayTake (v : World) (steps : model.World → Outcome) : Type 0 where
  pub stands_for : model.World
  pub keeps : Keeps v stands_for
  pub passes : refusal_in (steps stands_for) ≡ None

-- where a range starts in a Text, one more node may be made
abbrev pub HasNumberForSplit : World → ℕ → Type 0
HasNumberForSplit v r = ForSome (range_in v.ranges r) (λ (range : Range). is_text (unwatched v) range.start.node ≡ true → v.tree.made < 4294967295)

-- no world that the old one keeps is refused the steps, and what they leave of it the new one keeps
pub record Passes (old new : World) (steps : model.World → Outcome) : Type 0 where
  pub allowed : (w : model.World) → Keeps old w → refusal_in (steps w) ≡ None
  pub follows : Follows old new (λ w. world_after_outcome (steps w) w)

-- a node goes in at the start of a range, takes in what a fragment has, and is selected
abbrev pub put_around : ℕ → ℕ → ℕ → model.World → Outcome
put_around r n fragment w = and_then (insert_node r n w) (λ v. and_then (try_pre_insert fragment n None v) (λ v. try_select r n v))
