-- What has been copied is over the front, and what is to come goes over the rest.
use Rattle.std.proofs.Common.{◌≡◌, ◌≤◌, ◌++◌, length, take, drop}
use Rattle.dom_session.specs.Neighbours.{laid_over}
use Rattle.dom_c.proofs.reply_items.lay_over.Given as goal

abbrev pub invariant-loop-number : goal.invariant-loop-number
invariant-loop-number l =
    (laid_over l.numbers l.fn.into ≡ take l.at l.into ++ laid_over (drop l.number-index l.numbers) (drop l.at l.into)) × (l.at ≤ length l.into)
