use Rattle.std.proofs.Common.{arith}
use Rattle.std.proofs.lemmas.Grind.{common_steps}
use Rattle.dom_model.specs.Definitions.{number_json}
use Rattle.dom_wire.proofs.ReadStepLemmas.{list_closed}
use Rattle.dom_wire.proofs.values.write_nodes.Goals as goal

pub returns : goal.returns
returns c =
    list_closed _ c.args.writer.now c.loop-node.writer _ number_json c.args.nodes.now c.loop-node.node-index c.loop-node-test.false c.loop-node.invariant.before c.loop-node.invariant.tokens c.end_array.ensures

pub loop-node-preserved : goal.loop-node-preserved
loop-node-preserved c = grind (arith, common_steps)
