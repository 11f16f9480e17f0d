-- What has been copied is over the front, and what is to come goes over the rest.
use Rattle.std.proofs.Common.{◌≡◌, ◌≤◌, ◌++◌, length, take, drop, map}
use Rattle.dom_session.specs.Neighbours.{laid_over}
use Rattle.dom_c.specs.Records.{record_out}
use Rattle.dom_c.proofs.records.lay_over.Given as goal

abbrev pub invariant-loop-found : goal.invariant-loop-found
invariant-loop-found l =
    (laid_over (map record_out l.records) l.fn.into ≡ take l.at l.into ++ laid_over (map record_out (drop l.found-index l.records)) (drop l.at l.into))
    × (l.at ≤ length l.into)
