use Rattle.std.proofs.Common.{◌∙◌}
use Rattle.dom_model.specs.Definitions.{whole_table}
use Rattle.dom_wire.proofs.ReadStepLemmas.{find-of_length}
use Rattle.dom_wire.proofs.command_reader.named.Goals as goal

pub returns : goal.returns
returns c =
    c.named_among.ensures ∙ rw c.names_of_length.ensures (find-of_length c.args.text.now whole_table)
