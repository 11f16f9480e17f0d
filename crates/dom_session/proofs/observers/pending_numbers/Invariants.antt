-- The numbers are the first of those that wait.
use Rattle.std.proofs.Common.{◌≡◌, ◌-◌, length, take, vec_len}
use Rattle.dom_session.proofs.observers.pending_numbers.Given as goal

abbrev pub invariant-loop-observer : goal.invariant-loop-observer
invariant-loop-observer l = l.numbers.items ≡ take (vec_len l.numbers) l.observers.pending

abbrev pub decreases-loop-observer : goal.decreases-loop-observer
decreases-loop-observer l = length l.observers.pending - vec_len l.numbers
