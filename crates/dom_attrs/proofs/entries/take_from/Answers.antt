use Rattle.std.proofs.Common.{◌∙◌, ap}
use Rattle.dom_attrs.specs.Entries.{entry_attributes}
use Rattle.dom_attrs.proofs.EntriesLemmas.{lookup-attributes_of, attributes_of-remove_entry}
use Rattle.dom_attrs.proofs.entries.take_from.Goals as goal

pub returns-clause-value : goal.returns-clause-value
returns-clause-value c =
    c.shift_remove-value.ensures.value ∙ lookup-attributes_of c.args.name.now c.args.map.now.entries

pub returns-clause-rest : goal.returns-clause-rest
returns-clause-rest c =
    ap entry_attributes (c.give_back.ensures.same ∙ c.shift_remove-value.ensures.entries) ∙ attributes_of-remove_entry c.args.name.now c.args.map.now.entries
