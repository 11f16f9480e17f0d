use Rattle.std.proofs.Common.{◌∙◌}
use Rattle.dom_attrs.proofs.EntriesLemmas.{lookup-attributes_of}
use Rattle.dom_attrs.proofs.entries.value_in.Goals as goal

pub returns : goal.returns
returns c = c.get.ensures.value ∙ lookup-attributes_of c.args.name.now c.args.map.now.entries
