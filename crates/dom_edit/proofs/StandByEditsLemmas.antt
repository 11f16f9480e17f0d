-- The edits of the token text put each marker where the end of its live range then stands, in the worlds of the code.
use Rattle.std.proofs.Common.{◌≡◌, ℕ, false, List, Option, Some, None, refl, ap, sym, ◌∙◌}
use Rattle.std.specs.Option.{ForSome}
use Rattle.dom_model.specs.Definitions.{HasNode, IsSound, check_insert, check_replace, remove, insert, pre_insert, replace, replace_all, IsInsertable, Token, Edit, texts_of, all_on_texts, all_on_world, insert_edits, pre_insert_edits, replace_edits, remove_edits, replace_all_edits, adopt_edits}
use Rattle.dom_model.specs.Worlds.World as model
use Rattle.dom_model.proofs.Forests.Entries.{occurs-HasNode}
use Rattle.dom_model.proofs.Soundness.SoundEditing.{MayComeIn, may_come_in}
use Rattle.dom_model.proofs.TokenText.{AlikeTrees.TreesAlike.bared, Marked.MarkedTexts.Marked, Marked.MarkedFirst.marked-kept, Marked.MarkedEdits.marked-edits, Marked.MarkedEdits.end-found, Pieces.NodeTokens.tokens-same, EditsMade.FittingEdits.ready-sound, EditsMade.EditsLeave.laid, EditsMade.EditsLeave.Leave, EditsMade.EditsOfSteps.leave-remove, EditsMade.EditsOfTrees.leave-insert, EditsMade.EditsOfTrees.leave-pre_insert, EditsMade.EditsOfTrees.leave-replace, EditsMade.EditsOfTrees.leave-replace_all, EditsMade.MarkersKept.marked-own}
use Rattle.dom_edit.specs.{declared.world.World.World, Whole.IsWhole, Whole.Follows, Whole.unwatched, Markers.StandByEdits, Refusals.check_only_child}
use Rattle.dom_edit.proofs.FollowsLemmas.{keeps-unwatched, sound-unwatched}

-- the edits leave a world that is the new one but for node documents, attributes and what watches
pub stand-by_left : (old new : World) (edits : model.World → List Edit) (left : model.World) → IsWhole old → IsWhole new → Leave (edits (unwatched old)) (unwatched old) left
    → bared new.tree.forest ≡ bared left.forest → new.ranges.ranges ≡ left.ranges → StandByEdits old new edits
stand-by_left old new edits left before after leave forest ranges = record {
  gaps = end-found texts v marked (ready-sound v sound);
  tokens = tokens-same texts (texts_of v) v marked (marked-own v sound) sound.forest.once;
}
  where
    w : model.World
    w = unwatched old

    v : model.World
    v = unwatched new

    texts : List (List Token)
    texts = all_on_texts (edits w) (texts_of w)

    sound : IsSound v
    sound = sound-unwatched new after

    marked : Marked texts v
    marked =
        marked-kept texts (all_on_world (edits w) (laid w)) v
        (forest ∙ sym (ap (λ (x : model.World). bared x.forest) leave.left)) (ranges ∙ sym (ap (λ (x : model.World). x.ranges) leave.left))
        (marked-edits (edits w) (texts_of w) (laid w) (marked-kept (texts_of w) w (laid w) refl refl (marked-own w (sound-unwatched old before))) leave.fits)

-- so it is after a step that the edits leave
pub stand-by_edits : (old new : World) (step : model.World → model.World) (edits : model.World → List Edit) → IsWhole old → IsWhole new → Follows old new step
    → Leave (edits (unwatched old)) (unwatched old) (step (unwatched old)) → StandByEdits old new edits
stand-by_edits old new step edits before after f leave =
    let k = f.keeps (unwatched old) (keeps-unwatched old) in
    stand-by_left old new edits (step (unwatched old)) before after leave (ap bared (sym k.forest)) (sym k.ranges)

-- The edits of the world's trees.

module _ (old new : World) (before : IsWhole old) (after : IsWhole new) where
  pub stand-by_insert : (n parent : ℕ) (child : Option ℕ) → IsInsertable old.tree.forest n parent child → Follows old new (insert false n parent child) → StandByEdits old new (insert_edits n parent child)
  stand-by_insert n parent child allowed f =
      stand-by_edits old new (insert false n parent child) (insert_edits n parent child) before after f
      (leave-insert false n parent child (unwatched old) (sound-unwatched old before) allowed)

  pub stand-by_pre_insert : (n parent : ℕ) (child : Option ℕ) → HasNode old.tree.forest n → check_insert old.tree.forest parent n child ≡ None → Follows old new (pre_insert n parent child) → StandByEdits old new (pre_insert_edits n parent child)
  stand-by_pre_insert n parent child held allowed f =
      stand-by_edits old new (pre_insert n parent child) (pre_insert_edits n parent child) before after f
      (leave-pre_insert n parent child (unwatched old) (sound-unwatched old before) (occurs-HasNode old.tree.forest n held) allowed)

  pub stand-by_replace : (child n parent : ℕ) → HasNode old.tree.forest n → check_replace old.tree.forest parent n child ≡ None → Follows old new (replace child n parent) → StandByEdits old new (replace_edits child n parent)
  stand-by_replace child n parent held allowed f =
      stand-by_edits old new (replace child n parent) (replace_edits child n parent) before after f
      (leave-replace child n parent (unwatched old) (sound-unwatched old before) (occurs-HasNode old.tree.forest n held) allowed)

  pub stand-by_remove : (n : ℕ) → Follows old new (remove false n) → StandByEdits old new (remove_edits n)
  stand-by_remove n f = stand-by_edits old new (remove false n) (remove_edits n) before after f (leave-remove false n (unwatched old) (sound-unwatched old before))

  only-child : (n : Option ℕ) (parent : ℕ) → ForSome n (λ m. HasNode old.tree.forest m) → check_only_child old.tree.forest parent n ≡ None → MayComeIn old.tree.forest n parent
  only-child None parent held allowed = tt
  only-child (Some m) parent held allowed = may_come_in (unwatched old) (sound-unwatched old before) parent m (occurs-HasNode old.tree.forest m (held m refl)) allowed

  pub stand-by_replace_all : (n : Option ℕ) (parent : ℕ) → ForSome n (λ m. HasNode old.tree.forest m) → check_only_child old.tree.forest parent n ≡ None → Follows old new (replace_all n parent) → StandByEdits old new (replace_all_edits n parent)
  stand-by_replace_all n parent held allowed f =
      stand-by_edits old new (replace_all n parent) (replace_all_edits n parent) before after f
      (leave-replace_all n parent (unwatched old) (sound-unwatched old before) (only-child n parent held allowed))

  -- node documents have no tokens
  pub stand-by_adopt : (out : World) (n : ℕ) → Follows old out (remove false n) → bared new.tree.forest ≡ bared out.tree.forest → new.ranges.ranges ≡ out.ranges.ranges → StandByEdits old new (adopt_edits n)
  stand-by_adopt out n f forest ranges =
      let k = f.keeps (unwatched old) (keeps-unwatched old) in
      stand-by_left old new (adopt_edits n) (remove false n (unwatched old)) before after (leave-remove false n (unwatched old) (sound-unwatched old before))
      (forest ∙ ap bared (sym k.forest)) (ranges ∙ sym k.ranges)
