use Rattle.dom_model.specs.Definitions.{whole_table}
use Rattle.dom_wire.proofs.ReadStepLemmas.{command_in-array}
use Rattle.dom_wire.proofs.command_reader.command_in.Goals as goal

pub returns-in-Array : goal.returns-in-Array
returns-in-Array c =
    rw (command_in-array whole_table c.args.value.now c.in-Array.items c.in-Array.is, ← c.as_slice.ensures.value) c.command_among.ensures
