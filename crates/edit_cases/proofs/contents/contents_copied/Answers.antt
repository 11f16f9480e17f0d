use Rattle.std.proofs.Common.{arith}
use Rattle.edit_cases.proofs.Rooms.{room-contents_few}
use Rattle.edit_cases.proofs.contents.contents_copied.Goals as goal

pub clone_contents-requires-clause-room : goal.clone_contents-requires-clause-room
clone_contents-requires-clause-room g c = λ _. room-contents_few c.args.world.now c.selected-range.result (omega arith) (omega arith) c.requires
