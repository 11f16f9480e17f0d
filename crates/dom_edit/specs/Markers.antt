-- The edits of the token text that a call makes of a world of the code. Ours; the edits follow the standard's steps.
use Rattle.std.specs.Prelude.{◌≡◌, ℕ, Bool, List, option_map}
use Rattle.dom_model.specs.Worlds.World as model
use Rattle.dom_model.specs.RangesAndContents.Ranges.{end_of, range_at}
use Rattle.dom_model.specs.TokenText.Tokens.{Edit, texts_of, unmarked, tokens_among, gap_among, all_on_texts}
use Rattle.dom_edit.specs.declared.world.World.{World}
use Rattle.dom_edit.specs.Whole.{unwatched}

-- After an edit each end of each live range stands where the edits of the token text put its marker; released ranges and those never made have
-- none. And without markers each node's tokens are those that the edits leave. The edits are told by the world before.
pub record StandByEdits (old new : World) (edits : model.World → List Edit) : Type 0 where
  pub gaps : (r : ℕ) (side : Bool) → gap_among r side (all_on_texts (edits (unwatched old)) (texts_of (unwatched old)))
      ≡ option_map (end_of side) (range_at (unwatched new) r)
  pub tokens : (n : ℕ) → unmarked (tokens_among n (all_on_texts (edits (unwatched old)) (texts_of (unwatched old))))
      ≡ unmarked (tokens_among n (texts_of (unwatched new)))
