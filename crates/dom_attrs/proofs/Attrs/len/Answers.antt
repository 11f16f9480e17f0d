use Rattle.std.proofs.Common.{List, subst, tests, rules, bytes_eq}
use Rattle.std.specs.List.{IsDistinct}
use Rattle.dom_model.specs.Definitions.{Attribute, attribute_names}
use Rattle.dom_attrs.specs.Entries.{entries_in}
use Rattle.dom_attrs.proofs.EntriesLemmas.{distinct_names}
use Rattle.dom_attrs.proofs.Attrs.len.Goals as goal

pub returns-in-None-clause-distinct : goal.returns-in-None-clause-distinct
returns-in-None-clause-distinct c =
    subst (λ (l : List Attribute). IsDistinct bytes_eq (attribute_names l)) c.self.view_is (distinct_names (entries_in c.self.inside.map) c.self.invariant)

pub returns-in-None-clause-len : goal.returns-in-None-clause-len
returns-in-None-clause-len c = search (tests, rules)

pub returns-in-Some-clause-len : goal.returns-in-Some-clause-len
returns-in-Some-clause-len c = search (tests, rules)

pub returns-in-Some-clause-distinct : goal.returns-in-Some-clause-distinct
returns-in-Some-clause-distinct c = search (tests, rules)
