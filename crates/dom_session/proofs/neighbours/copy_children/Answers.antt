use Rattle.std.proofs.Common.{sym, ◌∙◌, tests, rules}
use Rattle.dom_model.specs.Definitions.{entry_in}
use Rattle.dom_session.proofs.LaidOverLemmas.{laid_over-absent}
use Rattle.dom_session.proofs.neighbours.copy_children.Goals as goal

pub returns-then-not-holds-clause-copied : goal.returns-then-not-holds-clause-copied
returns-then-not-holds-clause-copied c =
    laid_over-absent (entry_in c.args.tree.now.forest c.args.node) c.args.into.now (sym c.holds.ensures ∙ c.if-not-holds.true)

pub returns-clause-copied : goal.returns-clause-copied
returns-clause-copied c = search (tests, rules)
