use Rattle.std.proofs.Common.{◌∙◌, ap, string_bytes, tests, rules}
use Rattle.dom_attrs.specs.Entries.{entry_attributes}
use Rattle.dom_attrs.proofs.EntriesLemmas.{lookup-attributes_of, attributes_of-insert_entry}
use Rattle.dom_attrs.proofs.entries.put_in.Goals as goal

pub returns-clause-old : goal.returns-clause-old
returns-clause-old c =
    c.in_ok-old.ensures.old ∙ lookup-attributes_of (string_bytes c.args.name) c.args.map.now.entries

pub returns-clause-ok : goal.returns-clause-ok
returns-clause-ok c =
    ap entry_attributes (c.fit_few.ensures.same ∙ c.in_ok-old.ensures.entries) ∙ attributes_of-insert_entry c.args.map.now.entries c.args.name c.args.value

pub returns-clause-err : goal.returns-clause-err
returns-clause-err c = search (tests, rules)

pub returns-clause-unique : goal.returns-clause-unique
returns-clause-unique c = search (tests, rules)
