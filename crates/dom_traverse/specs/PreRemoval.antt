-- How iterators give way before a node is removed.
use Rattle.std.specs.Prelude.{◌≡◌, ℕ, ◌<◌, ◌==◌, if◌then◌else◌, List, length, slice_index_or, Option, ◌⊎◌}
use Rattle.dom_model.specs.Worlds.World.{Iterator}
use Rattle.dom_traverse.specs.PositionsByNode.{StandOrWait}

-- each iterator stands at its reference, or waits
abbrev pub StandAtReferences : List Iterator → List (Option ℕ) → Type 0
StandAtReferences is references = StandOrWait (λ (i : Iterator). i.reference) is references

-- an iterator that has its reference at a node takes a step, and another stays
abbrev pub stepped_at : ℕ → (Iterator → Iterator) → Iterator → Iterator
stepped_at node step i = if i.reference == node then step i else i

-- each iterator that has its reference at a node has taken a step, and the others have or stayed
pub record GaveWay (step : Iterator → Iterator) (node : ℕ) (old new : List Iterator) : Type 0 where
  pub long : length new ≡ length old
  pub each : (k : ℕ) (i : Iterator) → k < length old →
      (slice_index_or new k i ≡ step (slice_index_or old k i)) ⊎ ((slice_index_or new k i ≡ slice_index_or old k i)
      × ((slice_index_or old k i).reference ≡ node → ⊥))
