-- In a sound world no command gives out more numbers than it asks for, so after any commands the counts are within the limit.
use Rattle.std.proofs.Common.{◌≡◌, ℕ, ◌≤◌, List, [], ◌∷◌, Some, subst, arith}
use Rattle.dom_model.specs.Definitions.{Range, World, first_world, Command, CloneContents, Bounds, answer, world_past, range_at, counts_of, asked, plus, of_each, AreAtMost, IsRange, IsSound}
use Rattle.dom_model.proofs.Soundness.{SoundWorlds.IsLive, SoundRangeSteps.live_range, SoundAnswers.sound-answer, SoundAnswers.sound-first, SoundAnswers.sound-reached}
use Rattle.dom_model.proofs.Counting.{CopiesOfContents.HasEnds, CopiesOfContents.IsInOrder, CommandsCounted.Needed}
use Rattle.dom_model.proofs.Commands.RefusalsLeave.{counts-as_asked, numbers-kept}

-- a sound world is in order
pub in_order : (w : World) → IsSound w → IsInOrder w
in_order w s = record { forest = s.forest; ends = ends }
  where
    of_range : (range : Range) → IsRange w.forest range → HasEnds w.forest range
    of_range range h = record { start = h.starts.there; end = h.ends.there; one_root = h.one_root; within = h.ends.within }

    ends : (r : ℕ) (range : Range) → range_at w r ≡ Some range → HasEnds w.forest range
    ends r range e = of_range range (subst (IsLive w.forest) e (live_range w s r))

needed : (w : World) (c : Command) → IsSound w → Needed w c
needed w (CloneContents r) s = in_order w s
needed w c s = tt

pub sound-as_asked : (b : Bounds) (w : World) (c : Command) → IsSound w → AreAtMost (counts_of (answer b w c).world) (plus (counts_of w) (asked w c))
sound-as_asked b w c s = counts-as_asked b w c (needed w c s)

within_from : (b : Bounds) (w : World) (cs : List Command) → IsSound w → AreAtMost (counts_of w) (of_each b.numbers) → AreAtMost (counts_of (world_past b w cs)) (of_each b.numbers)
within_from b w [] s h = h
within_from b w (c ∷ cs) s h = within_from b (answer b w c).world cs (sound-answer b w c s) (numbers-kept b w c (needed w c s) h)

-- after any commands no kind of object has more numbers than the limit
pub within-reached : (b : Bounds) (cs : List Command) → AreAtMost (counts_of first_world) (of_each b.numbers) → AreAtMost (counts_of (world_past b first_world cs)) (of_each b.numbers)
within-reached b cs h = within_from b first_world cs sound-first h

-- and each of the commands gives out no more than it asks for
pub asked-reached : (b : Bounds) (cs : List Command) (c : Command) → let w = world_past b first_world cs in AreAtMost (counts_of (answer b w c).world) (plus (counts_of w) (asked w c))
asked-reached b cs c = sound-as_asked b (world_past b first_world cs) c (sound-reached b cs)

-- from the first world, of which the Document has the only number
pub within-limit : (b : Bounds) (cs : List Command) → 1 ≤ b.numbers → AreAtMost (counts_of (world_past b first_world cs)) (of_each b.numbers)
within-limit b cs h = within-reached b cs (grind arith)
