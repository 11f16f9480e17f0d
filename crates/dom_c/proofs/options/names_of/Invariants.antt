use Rattle.std.proofs.Common.{◌≡◌, [], drop, map, string_bytes}
use Rattle.dom_c.specs.NameLists.{names_from}
use Rattle.dom_c.proofs.options.names_of.Given as goal

-- what is left is read onto what was read
abbrev pub invariant-loop-length : goal.invariant-loop-length
invariant-loop-length l =
    names_from [] l.lengths l.fn.names ≡ names_from (map string_bytes l.given.items) (drop l.length-index l.lengths) l.bytes
