-- Worlds without some observers: each command of ranges, iterators and walkers is answered alike.
use Rattle.std.proofs.Common.{◌≡◌, ℕ, Bool, true, false, [], ◌∷◌, length, refl}
use Rattle.dom_model.specs.Definitions.{World, Command, CreateIterator, CreateWalker, Bounds, Step, no_node, no_room, answer}
use Rattle.dom_model.proofs.Erasure.{ErasedWorlds.Without, ErasedWorlds.without, ErasedContents.with_range-left, ErasedContents.delete_contents-left, ErasedContents.extract-left, ErasedContents.clone_contents-left, ErasedWrapping.insert_node-left, ErasedWrapping.surround-left, ErasedSteps.Alike, ErasedSteps.replies-left, ErasedSteps.guarded-left, ErasedSteps.checked-left, ErasedSteps.on_range-left, ErasedSteps.at_point-left, ErasedSteps.at_ends-left, ErasedSteps.with_object-left, ErasedSteps.static_told-left, ErasedSteps.done_or_refused-left, ErasedTreeAnswers.concerns_watchers}

ruleset steps = (
  without,
  guarded-left,
  checked-left,
  replies-left,
  on_range-left,
  at_point-left,
  at_ends-left,
  with_object-left,
  static_told-left,
  done_or_refused-left,
  with_range-left,
  delete_contents-left,
  extract-left,
  clone_contents-left,
  insert_node-left,
  surround-left,
)

module _ (erased : ℕ → Bool) where
  -- a case that the test excludes
  impossible : {s t : Step} → false ≡ true → Alike erased true s t
  impossible e = absurd (cc e)

  pub watcher_answer-left : (b : Bounds) (c : Command) (x y : World) → Without erased true x y → concerns_watchers c ≡ true → Alike erased true (answer b x c) (answer b y c)
  watcher_answer-left b (CreateIterator root filter) x _ (without o v h) e =
      guarded-left erased true (no_node root x ∷ no_room b (length x.iterators) 1 ∷ []) {x = x} (without o v h)
      (record { reply = refl; world = without o v h })
  watcher_answer-left b (CreateWalker root filter) x _ (without o v h) e =
      guarded-left erased true (no_node root x ∷ no_room b (length x.walkers) 1 ∷ []) {x = x} (without o v h)
      (record { reply = refl; world = without o v h })
  watcher_answer-left b c x _ (without o v h) e = search (steps, impossible) depth 12
