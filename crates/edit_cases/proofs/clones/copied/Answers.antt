use Rattle.std.proofs.Common.{arith}
use Rattle.edit_cases.proofs.Rooms.{room-copy_few}
use Rattle.edit_cases.proofs.clones.copied.Goals as goal

pub clone_node-requires-clause-room : goal.clone_node-requires-clause-room
clone_node-requires-clause-room g c = room-copy_few c.args.world.now.tree.made c.args.deep c.held-node.result c.args.world.now.tree.forest (omega arith) (omega arith)
