-- The set has the first names.
use Rattle.std.proofs.Common.{map, string_bytes, take}
use Rattle.dom_observe.specs.Names.{HasNames}
use Rattle.dom_observe.proofs.filter.set_of.Given as goal

abbrev pub invariant-loop-name : goal.invariant-loop-name
invariant-loop-name l = HasNames l.set (map string_bytes (take l.name-index l.names))
