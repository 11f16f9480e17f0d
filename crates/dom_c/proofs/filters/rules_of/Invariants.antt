use Rattle.std.proofs.Common.{◌≡◌, [], drop}
use Rattle.dom_c.specs.NameLists.{rules_from}
use Rattle.dom_c.proofs.filters.rules_of.Given as goal

-- what is left is read onto what was read
abbrev pub invariant-loop-length : goal.invariant-loop-length
invariant-loop-length l =
    rules_from [] l.lengths l.fn.verdicts l.fn.names ≡ rules_from l.rules.items (drop l.length-index l.lengths) l.others l.bytes
