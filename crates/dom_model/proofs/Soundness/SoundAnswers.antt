-- Every world that commands reach is sound.
use Rattle.std.proofs.Common.{ℕ, List, [], ◌∷◌, Option, IfSome, Ok, Err, refl, arith}
use Rattle.std.proofs.lemmas.{List.Elements.All-nil, Bool.Decides.nat_tests}
use Rattle.dom_model.specs.Definitions.{Range, Iterator, Walker, World, first_world, Command, InsertBefore, AppendChild, ReplaceChild, ReplaceChildren, SetData, AppendData, InsertData, DeleteData, ReplaceData, SplitText, CreateRange, SetStart, SetEnd, SelectNodeContents, InsertNode, SurroundContents, CreateIterator, CreateWalker, SetCurrent, Observe, Discard, CreateStaticRange, ReleaseStaticRange, length_at, Outcome, insert_node, surround, Bounds, no_node, no_room, no_room_for_copies, no_range, done_or_refused, answer_insert_node, answer_surround_contents, answer, world_past, IsIterator, IsWalker, IsRegistration, AreHeld, IsSound}
use Rattle.dom_model.proofs.Soundness.{SoundWorlds.IsLive, SoundGuards.sound-guarded, SoundGuards.sound-checked, SoundGuards.there_unless, SoundDeleting.sound-delete_contents, SoundContents.sound-extract, SoundContents.sound-clone_contents, SoundPlacedNode.Gives, SoundInsertedNode.insert-next, SoundSurrounding.surround-next, SoundDiscarding.sound-discard, SoundObserverSteps.sound-observe, SoundQuestions.sound-create_static_range, SoundQuestions.sound-release_static_range, SoundRangeSteps.sound-create_range, SoundRangeSteps.sound-select_node_contents, SoundRangeSteps.sound-set_end, SoundRangeSteps.sound-set_start, SoundTraversalSteps.sound-create_iterator, SoundTraversalSteps.sound-create_walker, SoundTraversalSteps.sound-set_current, SoundTreeSteps.sound-append_child, SoundTreeSteps.sound-data_replaced, SoundTreeSteps.sound-data_set, SoundTreeSteps.sound-insert_before, SoundTreeSteps.sound-replace_child, SoundTreeSteps.sound-replace_children, SoundTreeSteps.sound-text_split, SoundTraversalSteps.iterator_steps, SoundTraversalSteps.walker_steps, SoundObserverSteps.observer_steps, SoundQuestions.described_steps, SoundRangeSteps.range_steps, SoundRangeSteps.end_steps, SoundTreeSteps.tree_steps, SoundTreeSteps.attribute_steps}

module _ (b : Bounds) (w : World) (s : IsSound w) where
  done : (o : Outcome) → Gives w o → IsSound (done_or_refused o w).world
  done (Ok v) g = g.sound
  done (Err e) g = s

  sound-node_inserted : (r n : ℕ) → IsSound (answer_insert_node b r n w).world
  sound-node_inserted r n =
      sound-guarded (no_range r w ∷ no_node n w ∷ no_room b w.made 1 ∷ []) w (done_or_refused (insert_node r n w) w) s
      (λ h. done (insert_node r n w) (insert-next r n w s (there_unless w.forest n h.1.0)))

  sound-contents_surrounded : (r n : ℕ) → IsSound (answer_surround_contents b r n w).world
  sound-contents_surrounded r n =
      sound-guarded (no_range r w ∷ no_node n w ∷ no_room_for_copies b w ∷ []) w (done_or_refused (surround r n w) w) s
      (λ h. done (surround r n w) (surround-next r n w s (there_unless w.forest n h.1.0)))

-- what a step on the contents of a live range leaves
ruleset contents_steps = (sound-delete_contents, sound-extract, sound-clone_contents)

-- whatever the command, the world that it leaves is sound
pub sound-answer : (b : Bounds) (w : World) (c : Command) → IsSound w → IsSound (answer b w c).world
sound-answer b w (InsertBefore p n c) sound = sound-insert_before b w sound p n c
sound-answer b w (AppendChild p n) sound = sound-append_child b w sound p n
sound-answer b w (ReplaceChild p n c) sound = sound-replace_child b w sound p n c
sound-answer b w (ReplaceChildren p n) sound = sound-replace_children b w sound p n
sound-answer b w (SetData x text) sound = sound-data_set b w sound x text
sound-answer b w (AppendData x text) sound = sound-data_replaced b w sound x (length_at w x) 0 text
sound-answer b w (InsertData x offset text) sound = sound-data_replaced b w sound x offset 0 text
sound-answer b w (DeleteData x offset count) sound = sound-data_replaced b w sound x offset count []
sound-answer b w (ReplaceData x offset count text) sound = sound-data_replaced b w sound x offset count text
sound-answer b w (SplitText t offset) sound = sound-text_split b w sound t offset
sound-answer b w (CreateRange d) sound = sound-create_range b w sound d
sound-answer b w (SetStart r n offset) sound = sound-set_start b w sound r n offset
sound-answer b w (SetEnd r n offset) sound = sound-set_end b w sound r n offset
sound-answer b w (SelectNodeContents r n) sound = sound-select_node_contents b w sound r n
sound-answer b w (InsertNode r n) sound = sound-node_inserted b w sound r n
sound-answer b w (SurroundContents r n) sound = sound-contents_surrounded b w sound r n
sound-answer b w (CreateIterator root filter) sound = sound-create_iterator b w sound root filter
sound-answer b w (CreateWalker root filter) sound = sound-create_walker b w sound root filter
sound-answer b w (SetCurrent k n) sound = sound-set_current b w sound k n
sound-answer b w (Observe o n options) sound = sound-observe b w sound o n options
sound-answer b w (Discard n) sound = sound-discard b w sound n
sound-answer b w (CreateStaticRange start end) sound = sound-create_static_range b w sound start end
sound-answer b w (ReleaseStaticRange u) sound = sound-release_static_range b w sound u
sound-answer b w c sound =
    search (sound-guarded, sound-checked, tree_steps, attribute_steps, range_steps, end_steps, contents_steps, iterator_steps, walker_steps, observer_steps, described_steps)

-- the first world is sound
pub sound-first : IsSound first_world
sound-first =
    record {
      forest = record {
        once = λ n. grind (arith, nat_tests);
        small = λ n l. grind (arith, nat_tests);
        rising = (omega arith, tt);
        kinds = (refl, tt, tt);
      };
      ranges = All-nil (IsLive first_world.forest);
      iterators = All-nil (λ (i : Option Iterator). IfSome i (IsIterator first_world.forest));
      walkers = All-nil (λ (k : Option Walker). IfSome k (IsWalker first_world.forest));
      registrations = All-nil (IsRegistration first_world.forest);
      statics = All-nil (λ (r : Option Range). IfSome r (AreHeld first_world.forest));
    }

-- so is the world after each list of commands
pub sound-after : (b : Bounds) (w : World) (cs : List Command) → IsSound w → IsSound (world_past b w cs)
sound-after b w [] s = s
sound-after b w (c ∷ cs) s = sound-after b (answer b w c).world cs (sound-answer b w c s)

-- and every world that commands reach from the first
pub sound-reached : (b : Bounds) (cs : List Command) → IsSound (world_past b first_world cs)
sound-reached b cs = sound-after b first_world cs sound-first
