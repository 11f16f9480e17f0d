use Rattle.std.proofs.Common.{refl}
use Rattle.dom_wire.specs.Rows.{row_of}
use Rattle.dom_wire.proofs.command_names.Name.command.Goals as goal

pub returns-in-CreateText : goal.returns-in-CreateText
unfolding row_of
returns-in-CreateText c = rw (c.in-CreateText.is, c.new-node.ensures, c.text.ensures) refl
