-- A refused command leaves the world, and what the limit asks for is always enough. Ours.
use Rattle.std.proofs.Common.{◌≡◌, true}
use Rattle.dom_model.specs.Definitions.{World, is_refusal, Command, counts_of, plus, of_each, asked, AreAtMost, Bounds, answer}
use Rattle.dom_model.proofs.Counting.{StepsCounted.counted-leaves, StepsCounted.counted-never_fall, StepsCounted.counted-at_most, StepsCounted.counted-within, CommandsCounted.command-counted, CommandsCounted.Needed}

-- a refusal leaves the world
pub refused-leaves : (b : Bounds) (w : World) (c : Command) → is_refusal (answer b w c).reply ≡ true → (answer b w c).world ≡ w
refused-leaves b w c h = counted-leaves (command-counted b w c) h

-- no number is taken back
pub counts-never_fall : (b : Bounds) (w : World) (c : Command) → AreAtMost (counts_of w) (counts_of (answer b w c).world)
counts-never_fall b w c = counted-never_fall (command-counted b w c)

-- no more numbers are given out than the command asks for; only a copy of contents needs the world in order
pub counts-as_asked : (b : Bounds) (w : World) (c : Command) → Needed w c → AreAtMost (counts_of (answer b w c).world) (plus (counts_of w) (asked w c))
counts-as_asked b w c o = counted-at_most (command-counted b w c) o

-- from a world whose counts are within the limit the next one's are
pub numbers-kept : (b : Bounds) (w : World) (c : Command) → Needed w c → AreAtMost (counts_of w) (of_each b.numbers) → AreAtMost (counts_of (answer b w c).world) (of_each b.numbers)
numbers-kept b w c o h = counted-within (command-counted b w c) o h
