use Rattle.std.proofs.Common.{true, arith}
use Rattle.edit_cases.proofs.Rooms.{room-copy_few}
use Rattle.edit_cases.proofs.clones.imported.Goals as goal

pub import-requires-clause-room : goal.import-requires-clause-room
import-requires-clause-room g c = λ _. room-copy_few c.args.world.now.tree.made true c.held-node.result c.args.world.now.tree.forest (omega arith) (omega arith)
