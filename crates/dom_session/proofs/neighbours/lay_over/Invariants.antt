-- What has been copied is over the front, and what is to come goes over the rest.
use Rattle.std.proofs.Common.{◌≡◌, ◌≤◌, ◌++◌, length, take, drop}
use Rattle.dom_session.specs.Neighbours.{laid_over}
use Rattle.dom_session.proofs.neighbours.lay_over.Given as goal

abbrev pub invariant-loop-child : goal.invariant-loop-child
invariant-loop-child l =
    (laid_over l.fn.children l.fn.into ≡ take l.at l.into ++ laid_over l.child-iterator (drop l.at l.into)) × (l.at ≤ length l.into)
