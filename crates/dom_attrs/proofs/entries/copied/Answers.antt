use Rattle.std.proofs.Common.{◌∙◌, ap}
use Rattle.dom_attrs.specs.Entries.{entry_attributes}
use Rattle.dom_attrs.proofs.EntriesLemmas.{attributes_of-clones}
use Rattle.dom_attrs.proofs.entries.copied.Goals as goal

pub returns-clause-same : goal.returns-clause-same
returns-clause-same c =
    ap (λ copy. entry_attributes copy.entries) c.in_ok-new.ensures.ok ∙ attributes_of-clones c.args.map.now.entries c.in_ok-copy.copy.entries c.in_ok-copy.ensures.cases
