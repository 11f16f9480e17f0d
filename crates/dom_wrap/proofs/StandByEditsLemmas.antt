-- What is put into and around a live range puts each marker where the end of its live range then stands.
use Rattle.std.proofs.Common.{◌≡◌, ℕ, None, IsSome}
use Rattle.dom_model.specs.Definitions.{HasNode, insert_node, surround, refusal_in, check_whole_surround, insert_node_edits, surround_edits}
use Rattle.dom_model.proofs.Forests.Entries.{occurs-HasNode}
use Rattle.dom_model.proofs.Soundness.SoundContents.{sound-extract}
use Rattle.dom_model.proofs.TokenText.{EditsMade.EditsOfInsertedNodes.sound-inserted, EditsMade.EditsOfInsertedNodes.leave-insert_node, EditsMade.EditsOfSurrounding.KeepSound, EditsMade.EditsOfSurrounding.leave-surround}
use Rattle.dom_ranges.specs.Tables.{range_in}
use Rattle.dom_edit.specs.{declared.world.World.World, Whole.IsWhole, Whole.Follows, Whole.unwatched, Markers.StandByEdits}
use Rattle.dom_edit.proofs.{FollowsLemmas.sound-unwatched, StandByEditsLemmas.stand-by_edits}
use Rattle.dom_wrap.specs.Outcomes.{world_after_outcome}
use Rattle.dom_wrap.proofs.SurroundingSteps.{ok-left}

-- extracting and inserting a node leave sound worlds
keeps : KeepSound
keeps = record { extracts = λ r w s c. sound-extract r w s c; inserts = λ r n w v s h e. sound-inserted r n w v s h e }

module _ (old new : World) (before : IsWhole old) (after : IsWhole new) (r n : ℕ) (held : HasNode old.tree.forest n) where
  pub stand-by_insert_node : refusal_in (insert_node r n (unwatched old)) ≡ None → Follows old new (λ w. world_after_outcome (insert_node r n w) w) → StandByEdits old new (insert_node_edits r n)
  stand-by_insert_node allowed f =
      let w = unwatched old in
      stand-by_edits old new (λ w. world_after_outcome (insert_node r n w) w) (insert_node_edits r n) before after f
      (leave-insert_node r n w (world_after_outcome (insert_node r n w) w) (sound-unwatched old before) (occurs-HasNode old.tree.forest n held) (ok-left (insert_node r n w) allowed w))

  pub stand-by_surround : IsSome (range_in old.ranges r) → check_whole_surround r n (unwatched old) ≡ None → Follows old new (λ w. world_after_outcome (surround r n w) w) → StandByEdits old new (surround_edits r n)
  stand-by_surround live allowed f =
      let w = unwatched old in
      stand-by_edits old new (λ w. world_after_outcome (surround r n w) w) (surround_edits r n) before after f
      (leave-surround keeps r n w (world_after_outcome (surround r n w) w) (sound-unwatched old before) (occurs-HasNode old.tree.forest n held) live (ok-left (surround r n w) allowed w))
