use Rattle.std.proofs.Common.{arith}
use Rattle.edit_cases.proofs.Rooms.{room-surround_few}
use Rattle.edit_cases.proofs.range_insertion.put_around.Goals as goal

pub surround-requires-clause-room : goal.surround-requires-clause-room
surround-requires-clause-room g c = room-surround_few c.args.world.now c.selected-range.result (omega arith) (omega arith) c.held-node.result
