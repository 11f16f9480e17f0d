-- The change of an attribute.
use Rattle.std.proofs.Common.{Some, sym, ap, ◌∙◌}
use Rattle.dom_model.specs.declared.RecordType.TheVariants.{Attributes}
use Rattle.dom_data.specs.Changes.{change_of}
use Rattle.dom_data.proofs.QueuesMutationLemmas.{lent-text}
use Rattle.dom_data.proofs.records.attribute_change.Goals as goal

pub returns : goal.returns
returns c = ap (change_of Attributes c.args.node (Some c.args.name.now)) (sym (lent-text c.value_in-old_value.result) ∙ c.value_in-old_value.ensures)
