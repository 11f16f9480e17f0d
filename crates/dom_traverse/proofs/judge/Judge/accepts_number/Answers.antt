-- The node of the number.
use Rattle.std.proofs.Common.{ap, ◌∙◌}
use Rattle.dom_model.specs.Definitions.{Grove, accepts}
use Rattle.dom_traverse.proofs.judge.Judge.accepts_number.Goals as goal

pub returns : goal.returns
returns g c =
    c.accepts.ensures
    ∙ ap (λ (t : Grove g.row.X.Denot). accepts t.forest c.args.self.now c.at.result.node) c.at.ensures.tree
    ∙ ap (accepts c.args.tree.now.forest c.args.self.now) c.at.ensures.node
