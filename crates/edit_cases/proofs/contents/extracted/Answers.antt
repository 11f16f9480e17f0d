use Rattle.std.proofs.Common.{arith}
use Rattle.edit_cases.proofs.Rooms.{room-extract_few}
use Rattle.edit_cases.proofs.contents.extracted.Goals as goal

pub extract-requires-clause-room : goal.extract-requires-clause-room
extract-requires-clause-room g c = λ _. room-extract_few c.args.world.now c.selected-range.result (omega arith) (omega arith)
