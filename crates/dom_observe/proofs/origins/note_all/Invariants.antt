-- Noted are the origins under the first keys.
use Rattle.std.proofs.Common.{take}
use Rattle.dom_observe.specs.{Registrations.at, Origins.Notes}
use Rattle.dom_observe.proofs.origins.note_all.Given as goal

abbrev pub invariant-loop-key : goal.invariant-loop-key
invariant-loop-key l = Notes (at l.registrations) (take l.key-index l.own) l.noted
