-- The edits of data put each marker where the end of its live range then stands.
use Rattle.std.proofs.Common.{◌≡◌, ℕ, ◌≤◌, true, List, length, arith}
use Rattle.dom_model.specs.declared.Kind.TheVariants.{Text}
use Rattle.dom_model.specs.Definitions.{is_character_data, HasNode, IsSound, kind_passes, is_of_kind, data_of, replace_data, set_data, split, normalize, set_text_content, replace_data_edits, set_data_edits, split_edits, normalize_edits, set_text_content_edits}
use Rattle.dom_model.specs.Worlds.World as model
use Rattle.dom_model.proofs.Forests.Entries.{occurs-HasNode}
use Rattle.dom_model.proofs.TokenText.{EditsMade.EditsOfSteps.leave-replace_data, EditsMade.EditsOfSplitting.leave-split, EditsMade.EditsOfNormalizing.leave-normalize, EditsMade.EditsOfTextContent.leave-set_text_content}
use Rattle.dom_edit.specs.{declared.world.World.World, Whole.IsWhole, Whole.Follows, Whole.unwatched, Markers.StandByEdits}
use Rattle.dom_edit.proofs.{FollowsLemmas.sound-unwatched, StandByEditsLemmas.stand-by_edits}
use Rattle.dom_data.proofs.TextHeldLemmas.{text-held}

module _ (old new : World) (before : IsWhole old) (after : IsWhole new) where
  abbrev w : model.World
  w = unwatched old

  sound : IsSound w
  sound = sound-unwatched old before

  pub stand-by_replace_data : (n offset count : ℕ) (added : List ℕ) → kind_passes is_character_data old.tree.forest n ≡ true → offset ≤ length (data_of (unwatched old) n) → Follows old new (replace_data n offset count added)
      → StandByEdits old new (replace_data_edits n offset count added)
  stand-by_replace_data n offset count added kind within f =
      stand-by_edits old new (replace_data n offset count added) (replace_data_edits n offset count added) before after f (leave-replace_data n offset count added w sound kind within)

  pub stand-by_set_data : (n : ℕ) (text : List ℕ) → kind_passes is_character_data old.tree.forest n ≡ true → Follows old new (set_data n text) → StandByEdits old new (set_data_edits n text)
  stand-by_set_data n text kind f =
      stand-by_edits old new (set_data n text) (set_data_edits n text) before after f (leave-replace_data n 0 (length (data_of w n)) text w sound kind (omega arith))

  pub stand-by_split : (n offset : ℕ) → is_of_kind Text old.tree.forest n ≡ true → offset ≤ length (data_of (unwatched old) n) → Follows old new (split n offset) → StandByEdits old new (split_edits n offset)
  stand-by_split n offset kind within f =
      stand-by_edits old new (split n offset) (split_edits n offset) before after f
      (leave-split n offset w sound (occurs-HasNode old.tree.forest n (text-held old.tree.forest n kind)) kind within)

  pub stand-by_normalize : (n : ℕ) → Follows old new (normalize n) → StandByEdits old new (normalize_edits n)
  stand-by_normalize n f = stand-by_edits old new (normalize n) (normalize_edits n) before after f (leave-normalize n w sound)

  pub stand-by_set_text_content : (n : ℕ) (text : List ℕ) → HasNode old.tree.forest n → Follows old new (set_text_content n text) → StandByEdits old new (set_text_content_edits n text)
  stand-by_set_text_content n text held f =
      stand-by_edits old new (set_text_content n text) (set_text_content_edits n text) before after f (leave-set_text_content n text w sound (occurs-HasNode old.tree.forest n held))
