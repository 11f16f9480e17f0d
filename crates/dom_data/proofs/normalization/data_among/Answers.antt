-- Each node is held.
use Rattle.dom_data.proofs.FollowingTexts.{item-listed}
use Rattle.dom_data.proofs.normalization.data_among.Goals as goal

pub data_in-requires : goal.data_in-requires
data_in-requires c = record { held = c.requires.held c.node-item.result (item-listed c.args.nodes.now c.loop-node.node-index c.node-item.result c.node-item.is c.loop-node-test.true) }
