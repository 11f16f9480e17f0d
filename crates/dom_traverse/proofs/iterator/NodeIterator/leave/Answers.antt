-- A reference inside goes by the exits of its root.
use Rattle.std.proofs.Common.{ap, ◌∙◌}
use Rattle.dom_model.specs.Definitions.{Iterator}
use Rattle.dom_traverse.proofs.IsExitLemmas.{goes}
use Rattle.dom_traverse.proofs.iterator.NodeIterator.leave.Goals as goal

pub returns-clause-moved : goal.returns-clause-moved
returns-clause-moved g c =
    c.step_off.ensures
    ∙ goes c.args.tree.now.forest c.args.node c.for_root-exit.result c.for_root-exit.ensures.exit c.args.self.now (c.for_root-exit.ensures.root ∙ ap (λ (i : Iterator). i.root) c.self.view_is) c.requires.inside
