-- The copies so far are those of the first names.
use Rattle.std.proofs.Common.{◌≡◌, map, string_bytes, take}
use Rattle.dom_observe.proofs.options.copied.Given as goal

abbrev pub invariant-loop-name : goal.invariant-loop-name
invariant-loop-name l = map string_bytes l.copy.items ≡ map string_bytes (take l.name-index l.names)
