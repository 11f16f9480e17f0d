use Rattle.std.proofs.Common.{ap, ◌∙◌, tests, rules}
use Rattle.std.specs.Map.{keys_of}
use Rattle.dom_model.specs.Definitions.{with_last}
use Rattle.dom_observe.proofs.InterestedLemmas.{keys-insert}
use Rattle.dom_observe.proofs.queue_record.note.Goals as goal

pub returns-clause-order : goal.returns-clause-order
returns-clause-order c =
    ap (λ es. keys_of es) c.in_ok-insert.ensures.entries
    ∙ keys-insert c.args.heard.now.entries c.number-number.result _
    ∙ ap (with_last (keys_of c.args.heard.now.entries)) c.number-number.ensures

pub returns-clause-ok : goal.returns-clause-ok
returns-clause-ok c = search (tests, rules)

pub returns-clause-unique : goal.returns-clause-unique
returns-clause-unique c = search (tests, rules)
