-- The primitive edits of every command fit every world that commands reach, and leave what the command leaves.
use Rattle.std.proofs.Common.{◌≡◌, ℕ, List, ◌<◌, subst, Ok}
use Rattle.dom_model.specs.Definitions.{World, first_world, Command, Bounds, answer, all_on_world, edits_of, world_past, IsSound, occurs, insert_node, AllFit}
use Rattle.dom_model.proofs.Soundness.{SoundContents.sound-extract, SoundPlacedNode.Gives, SoundInsertedNode.insert-next, SoundAnswers.sound-reached}
use Rattle.dom_model.proofs.TokenText.{EditsMade.EditsLeave.laid, EditsMade.EditsOfSurrounding.KeepSound, EditsMade.EditsOfCommands.IsLeftAs, EditsMade.EditsOfCommands.edits-leave_every}

-- extracting and inserting a node leave sound worlds
keeps_sound : KeepSound
keeps_sound = record { extracts = λ r w s c. sound-extract r w s c; inserts = inserts }
  where
    inserts : (r n : ℕ) (w v : World) → IsSound w → 0 < occurs n w.forest → insert_node r n w ≡ Ok v → IsSound v
    inserts r n w v s h e = (subst (Gives w) e (insert-next r n w s h)).sound

pub edits-leave_each : (b : Bounds) (w : World) → IsSound w → (c : Command) → IsLeftAs (all_on_world (edits_of b w c) w) (answer b w c).world
edits-leave_each b w s c = let k = edits-leave_every keeps_sound b w s c in k.left

-- the edits fit: each node, gap and offset that one names is there
pub edits-fit_each : (b : Bounds) (w : World) → IsSound w → (c : Command) → AllFit (laid w) (edits_of b w c)
edits-fit_each b w s c = let k = edits-leave_every keeps_sound b w s c in k.fits

-- after any commands
pub edits-leave_reached : (b : Bounds) (cs : List Command) (c : Command) → let w = world_past b first_world cs in IsLeftAs (all_on_world (edits_of b w c) w) (answer b w c).world
edits-leave_reached b cs c = edits-leave_each b (world_past b first_world cs) (sound-reached b cs) c
