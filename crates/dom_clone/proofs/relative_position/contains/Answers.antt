use Rattle.std.proofs.Common.{sym, ◌∙◌, tests, rules}
use Rattle.dom_clone.proofs.PositionLemmas.{contains-absent}
use Rattle.dom_clone.proofs.relative_position.contains.Goals as goal

pub returns-else-holds : goal.returns-else-holds
returns-else-holds c =
    let out = c.if-holds.false in
    out ∙ sym (contains-absent c.args.tree.now.forest c.args.node c.args.other (sym c.holds.ensures ∙ out))

pub returns-then-holds : goal.returns-then-holds
returns-then-holds c = search (tests, rules)
