-- Worlds without some observers: each command of nodes, trees, data and attributes is answered alike, whatever the watchers are.
use Rattle.std.proofs.Common.{◌≡◌, ℕ, Bool, true, false, ◌||◌, [], ◌∷◌, Option, Some, None, refl, ap}
use Rattle.dom_model.specs.Definitions.{Entry, Node, entry_in, Content, Observing, World, Command, InsertBefore, ReplaceChildren, IsContaining, IsEqual, TextContent, CreateObserver, Observe, Disconnect, TakeRecords, Notify, Pending, ReleaseObserver, TakePending, TellObserver, Discard, MaybeUnits, Done, text_content, text_content_by, by_kind, Bounds, Step, no_node, answers, answer, only_watches, edits_by_range}
use Rattle.dom_model.specs.declared.{Kind.Kind, Kind.TheVariants.Element}
use Rattle.dom_model.proofs.Erasure.{ErasedWorlds.Watchers, ErasedWorlds.left_world, ErasedWorlds.Without, ErasedWorlds.without, ErasedWorlds.remove-left, ErasedWorlds.pre_insert-left, ErasedWorlds.append-left, ErasedWorlds.replace-left, ErasedWorlds.replace_all-left, ErasedWorlds.adopt-left, ErasedData.replace_data-left, ErasedData.set_data-left, ErasedData.made_node-left, ErasedData.split-left, ErasedData.normalize-left, ErasedData.set_text_content-left, ErasedData.set_attribute-left, ErasedData.remove_attribute-left, ErasedData.toggle_attribute-left, ErasedData.clone_node-left, ErasedData.import_node-left, ErasedSteps.Alike, ErasedSteps.replies-left, ErasedSteps.guarded-left, ErasedSteps.checked-left, ErasedSteps.described-left}

ruleset steps = (
  without,
  guarded-left,
  checked-left,
  replies-left,
  described-left,
  made_node-left,
  remove-left,
  pre_insert-left,
  append-left,
  replace-left,
  replace_all-left,
  adopt-left,
  replace_data-left,
  set_data-left,
  split-left,
  normalize-left,
  set_text_content-left,
  set_attribute-left,
  remove_attribute-left,
  toggle_attribute-left,
  clone_node-left,
  import_node-left,
)

-- a command of mutation observers, or `discard`
abbrev pub concerns_observers : Command → Bool
concerns_observers CreateObserver = true
concerns_observers (Observe o n options) = true
concerns_observers (Disconnect o) = true
concerns_observers (TakeRecords o) = true
concerns_observers (ReleaseObserver o) = true
concerns_observers Notify = true
concerns_observers Pending = true
concerns_observers TakePending = true
concerns_observers (TellObserver o) = true
concerns_observers (Discard n) = true
concerns_observers _ = false

-- a command of ranges, iterators or walkers
abbrev pub concerns_watchers : Command → Bool
concerns_watchers c = only_watches c || edits_by_range c

module _ (erased : ℕ → Bool) (watched : Bool) where
  -- a case that the tests exclude
  impossible : {s t : Step} → true ≡ false → Alike erased watched s t
  impossible e = absurd (cc e)

  -- the text content is read from the tree alone

  text_by-left : (k : Kind) (n : ℕ) (x : World) (o : Observing) (v : Watchers) → text_content_by k (left_world watched o v x) n ≡ text_content_by k x n
  text_by-left Element n x o v = refl
  text_by-left k n x o v = refl

  text-left : (e : Option (Entry (Node Content))) (n : ℕ) (x : World) (o : Observing) (v : Watchers) → by_kind None (λ k. text_content_by k (left_world watched o v x) n) e ≡ by_kind None (λ k. text_content_by k x n) e
  text-left None n x o v = refl
  text-left (Some e) n x o v = text_by-left e.value.label.kind n x o v

  text_told-left : (n : ℕ) (x y : World) → Without erased watched x y → Alike erased watched (answers (MaybeUnits (text_content x n)) x) (answers (MaybeUnits (text_content y n)) y)
  text_told-left n x _ (without o v h) =
      record { reply = ap (λ a. Done (MaybeUnits a)) (text-left (entry_in x.forest n) n x o v); world = without o v h }

  pub tree_answer-left : (b : Bounds) (c : Command) (x y : World) → Without erased watched x y → concerns_observers c ≡ false → concerns_watchers c ≡ false → Alike erased watched (answer b x c) (answer b y c)
  tree_answer-left b (TextContent n) x _ (without o v h) e f =
      guarded-left erased watched (no_node n x ∷ []) {x = x} (without o v h) (text_told-left n x _ (without o v h))
  tree_answer-left b (InsertBefore p n None) x _ (without o v h) e f = search steps
  tree_answer-left b (InsertBefore p n (Some m)) x _ (without o v h) e f = search steps
  tree_answer-left b (ReplaceChildren n None) x _ (without o v h) e f = search steps
  tree_answer-left b (ReplaceChildren n (Some m)) x _ (without o v h) e f = search steps
  tree_answer-left b (IsContaining n None) x _ (without o v h) e f = search steps
  tree_answer-left b (IsContaining n (Some m)) x _ (without o v h) e f = search steps
  tree_answer-left b (IsEqual n None) x _ (without o v h) e f = search steps
  tree_answer-left b (IsEqual n (Some m)) x _ (without o v h) e f = search steps
  tree_answer-left b c x _ (without o v h) e f = search (steps, impossible)
