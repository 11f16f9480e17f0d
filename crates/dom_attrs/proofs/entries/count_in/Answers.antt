use Rattle.dom_attrs.proofs.EntriesLemmas.{distinct_names}
use Rattle.dom_attrs.proofs.entries.count_in.Goals as goal

pub returns-clause-distinct : goal.returns-clause-distinct
returns-clause-distinct c = distinct_names c.args.map.now.entries c.len.ensures.unique
