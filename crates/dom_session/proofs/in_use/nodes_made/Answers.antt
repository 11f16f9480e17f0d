use Rattle.std.proofs.Common.{sym, ◌∙◌}
use Rattle.dom_session.proofs.in_use.nodes_made.Goals as goal

pub returns-clause-shown : goal.returns-clause-shown
returns-clause-shown c = λ w s. c.made.ensures ∙ sym s.keeps.made
