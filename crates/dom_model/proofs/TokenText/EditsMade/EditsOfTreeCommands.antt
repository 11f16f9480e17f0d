-- The edits of the commands that make nodes, edit the tree and change data leave the worlds that these leave: what an answer asks for.
use Rattle.std.proofs.Common.{◌≡◌, ℕ, false, Option, Some, None}
use Rattle.dom_model.specs.Definitions.{World, no_node_given, check_replace_children, IsSound}
use Rattle.dom_model.proofs.Soundness.{SoundEditing.MayComeIn, SoundEditing.may_come_in, SoundMaking.fits-original, SoundSplitting.text_has_data, SoundGuards.there_unless}
use Rattle.dom_model.proofs.TokenText.{EditsMade.EditsOfSteps.leave-making, EditsMade.EditsOfSteps.leave-copies, EditsMade.EditsOfSteps.leave-remove, EditsMade.EditsOfSteps.leave-replace_data, EditsMade.EditsOfTrees.leave-pre_insert, EditsMade.EditsOfTrees.leave-replace, EditsMade.EditsOfTrees.leave-replace_all, EditsMade.EditsOfSplitting.leave-split, EditsMade.EditsOfNormalizing.leave-normalize, EditsMade.EditsOfTextContent.leave-set_text_content, EditsMade.EditsOfTextContent.leave-text}

pub comes : (w : World) (p : ℕ) (o : Option ℕ) → IsSound w → (no_node_given o w).0 ≡ false → check_replace_children w p o ≡ None → MayComeIn w.forest o p
comes w p None s h k = tt
comes w p (Some m) s h k = may_come_in w s p m (there_unless w.forest m h) k

pub ruleset trees_edited = (leave-making, leave-copies, fits-original, leave-pre_insert, leave-replace, leave-replace_all, comes, leave-remove, leave-normalize, leave-set_text_content, leave-text, leave-replace_data, leave-split, text_has_data)
