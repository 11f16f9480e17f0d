use Rattle.std.proofs.Common.{◌≡◌, drop, map, find}
use Rattle.dom_model.specs.Definitions.{is_row_of}
use Rattle.dom_wire.specs.Rows.{row_of}
use Rattle.dom_wire.proofs.command_reader.named_among.Given as goal

abbrev pub invariant-loop-name : goal.invariant-loop-name
invariant-loop-name l = find (is_row_of l.text) (map row_of l.names) ≡ find (is_row_of l.text) (map row_of (drop l.name-index l.names))
