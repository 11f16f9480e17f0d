-- The change of a node's data.
use Rattle.std.proofs.Common.{None, Some, ap}
use Rattle.dom_model.specs.declared.RecordType.TheVariants.{CharacterData}
use Rattle.dom_data.specs.Changes.{change_of}
use Rattle.dom_data.proofs.records.data_change.Goals as goal

pub returns : goal.returns
returns c = ap (λ text. change_of CharacterData c.args.node None (Some text)) c.data_in.ensures
