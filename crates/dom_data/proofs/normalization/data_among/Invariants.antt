-- The data of the nodes that were passed.
use Rattle.dom_data.proofs.FollowingTexts.{IsAmassed}
use Rattle.dom_data.proofs.normalization.data_among.Given as goal

abbrev pub invariant-loop-node : goal.invariant-loop-node
invariant-loop-node l = IsAmassed l.tree.forest l.nodes l.node-index l.data
