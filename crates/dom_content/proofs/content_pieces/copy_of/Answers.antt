-- A copy is there beside all others.
use Rattle.std.proofs.lemmas.Result.{on_ok_weaker}
use Rattle.dom_content.proofs.{StillHeldLemmas.labels-left, PieceSteps.room-clone, PieceSteps.kinds-clone, PieceSteps.data-clone, PieceSteps.clone-held, AreNewerLemmas.root-clone, StaysLemmas.stays-clone}
use Rattle.dom_content.proofs.content_pieces.copy_of.Goals as goal

pub clone_node-requires-clause-room : goal.clone_node-requires-clause-room
clone_node-requires-clause-room c = room-clone c.args.world.now c.args.deep c.args.node c.requires.room

pub returns-clause-copy_held : goal.returns-clause-copy_held
returns-clause-copy_held c = on_ok_weaker c.clone_node.result (clone-held c.args.world.now c.clone_node.new.world c.args.deep c.args.node c.requires.whole c.requires.held) c.clone_node.ensures.cloned

pub returns-clause-stays : goal.returns-clause-stays
returns-clause-stays c = on_ok_weaker c.clone_node.result (stays-clone c.args.world.now c.clone_node.new.world c.args.deep c.args.node) c.clone_node.ensures.cloned

pub returns-clause-kinds : goal.returns-clause-kinds
returns-clause-kinds c = on_ok_weaker c.clone_node.result (kinds-clone c.args.world.now c.clone_node.new.world c.args.deep c.args.node) c.clone_node.ensures.cloned

pub returns-clause-texts : goal.returns-clause-texts
returns-clause-texts c = on_ok_weaker c.clone_node.result (data-clone c.args.world.now c.clone_node.new.world c.args.deep c.args.node) c.clone_node.ensures.cloned

pub returns-clause-kept : goal.returns-clause-kept
returns-clause-kept c = labels-left c.args.world.now c.clone_node.new.world c.clone_node.ensures.left

pub returns-clause-root : goal.returns-clause-root
returns-clause-root c = on_ok_weaker c.clone_node.result (root-clone c.args.world.now c.clone_node.new.world c.requires.whole c.args.deep c.args.node) c.clone_node.ensures.cloned

pub returns-clause-left : goal.returns-clause-left
returns-clause-left c = c.clone_node.ensures.left
