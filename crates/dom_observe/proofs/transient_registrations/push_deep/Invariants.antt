-- The keys so far are those of the first registrations with subtree.
use Rattle.std.proofs.Common.{◌≡◌, ◌++◌, filter, take}
use Rattle.dom_observe.specs.Registrations.{at, deep_at}
use Rattle.dom_observe.proofs.transient_registrations.push_deep.Given as goal

abbrev pub invariant-loop-key : goal.invariant-loop-key
invariant-loop-key l = l.keys.items ≡ l.initial.keys.items ++ filter (deep_at (at l.registrations)) (take l.key-index l.own)
