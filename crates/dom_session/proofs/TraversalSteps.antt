-- The steps that change the iterators or the walkers and nothing else, from a world that is shown.
use Rattle.std.proofs.Common.{◌≡◌, ℕ, ◌+◌, nat_lt, true, false, List, [], ◌∷◌, ◌++◌, length, slice_set, Option, Some, None, refl, ap, subst, IfSome, is_some}
use Rattle.dom_model.specs.declared.Move.{Move}
use Rattle.dom_model.specs.Definitions.{entry_in, Filter, Iterator, Walker, IsSound, Command, CreateIterator, CreateWalker, NextNode, PreviousNode, SetCurrent, Walk, is_refusal, Bounds, Step, answer, new_iterator, next_found, previous_found, moved_to_next, moved_to_previous, new_walker, walk_found, walker_moved}
use Rattle.dom_model.specs.Worlds.World as model
use Rattle.dom_model.specs.Commands.Reply as model_reply
use Rattle.dom_model.proofs.Soundness.SoundAnswers.{sound-answer}
use Rattle.dom_traverse.specs.Items.{iterator_in, walker_in}
use Rattle.dom_edit.specs.{declared.world.World.World, Whole.IsWhole, Whole.Keeps, Whole.Shows, Whole.IsShown}
use Rattle.dom_edit.proofs.FollowsLemmas.{whole-sound}
use Rattle.dom_commands.specs.{declared.reply.Reply.Reply, Views.reply_view}
use Rattle.dom_session.specs.{SessionViews.IsStep, AnswerBounds.numbered}
use Rattle.dom_session.proofs.{GuardedLemmas.step-follows, TreeEdits.not-none}

-- what follows from what there is, where there is one
pub held-then : {A : Type 0} {Q : Type 0} (o : Option A) → is_some o ≡ true → ((a : A) → o ≡ Some a → Q) → Q
held-then None h then_so = absurd (cc h)
held-then (Some a) h then_so = then_so a refl

module _ (v : World) (shown : IsShown v) (b : Bounds) (c : Command) (reply : Reply) where
  -- what a world that is shown is after an answer is sound
  sound-after : (step : model.World → model.World) → ((w : model.World) → Shows v w → answer b w c ≡ record { reply = reply_view reply; world = step w }) → IsSound (step shown.stands_for)
  sound-after step e =
      let P : model.World → Type 0 = λ w. IsSound w in
      subst P (ap (λ (s : Step). s.world) (e shown.stands_for shown.shows)) (sound-answer b shown.stands_for c shown.shows.sound)

  -- the iterators are others
  pub step-iterators : (xs : List (Option Iterator)) → is_refusal (reply_view reply) ≡ false → ((w : model.World) → Shows v w → answer b w c ≡ record { reply = reply_view reply; world = record w { iterators = xs } }) → IsStep v (record v { iterators = xs }) b c reply
  step-iterators xs done e =
      let new : World = record v { iterators = xs } in
      let step : model.World → model.World = λ w. record w { iterators = xs } in
      let keeps : (w : model.World) → Keeps v w → Keeps new (step w) = λ w k. record { forest = k.forest; made = k.made; ranges = k.ranges; static_ranges = k.static_ranges; iterators = refl; walkers = k.walkers } in
      let h = shown.shows.whole in
      let whole : IsWhole new = whole-sound new (step shown.stands_for) (keeps shown.stands_for shown.shows.keeps) (sound-after step e) h.documents h.owners h.covered h.statics h.observers in
      step-follows b c reply v new step done e (record { keeps = keeps; watches = λ w k o. o }) whole

  -- the walkers are others
  pub step-walkers : (xs : List (Option Walker)) → is_refusal (reply_view reply) ≡ false → ((w : model.World) → Shows v w → answer b w c ≡ record { reply = reply_view reply; world = record w { walkers = xs } }) → IsStep v (record v { walkers = xs }) b c reply
  step-walkers xs done e =
      let new : World = record v { walkers = xs } in
      let step : model.World → model.World = λ w. record w { walkers = xs } in
      let keeps : (w : model.World) → Keeps v w → Keeps new (step w) = λ w k. record { forest = k.forest; made = k.made; ranges = k.ranges; static_ranges = k.static_ranges; iterators = k.iterators; walkers = refl } in
      let h = shown.shows.whole in
      let whole : IsWhole new = whole-sound new (step shown.stands_for) (keeps shown.stands_for shown.shows.keeps) (sound-after step e) h.documents h.owners h.covered h.statics h.observers in
      step-follows b c reply v new step done e (record { keeps = keeps; watches = λ w k o. o }) whole

module _ (v : World) (shown : IsShown v) where
  pub step-create_iterator : (n root id : ℕ) (filter : Filter) (xs : List (Option Iterator)) (reply : Reply) → is_some (entry_in v.tree.forest root) ≡ true → nat_lt n (length v.iterators + 1) ≡ false → id ≡ length v.iterators → reply_view reply ≡ model_reply.Done (model_reply.Number id) → xs ≡ v.iterators ++ Some (new_iterator root filter) ∷ [] → IsStep v (record v { iterators = xs }) (numbered n) (CreateIterator root filter) reply
  step-create_iterator n root id filter xs reply there room is said made =
      step-iterators v shown (numbered n) (CreateIterator root filter) reply xs (ap is_refusal said)
      (λ w s. rw (said, is, made, s.keeps.forest, not-none (entry_in v.tree.forest root) there, s.keeps.iterators, room) refl)

  pub step-create_walker : (n root id : ℕ) (filter : Filter) (xs : List (Option Walker)) (reply : Reply) → is_some (entry_in v.tree.forest root) ≡ true → nat_lt n (length v.walkers + 1) ≡ false → id ≡ length v.walkers → reply_view reply ≡ model_reply.Done (model_reply.Number id) → xs ≡ v.walkers ++ Some (new_walker root filter) ∷ [] → IsStep v (record v { walkers = xs }) (numbered n) (CreateWalker root filter) reply
  step-create_walker n root id filter xs reply there room is said made =
      step-walkers v shown (numbered n) (CreateWalker root filter) reply xs (ap is_refusal said)
      (λ w s. rw (said, is, made, s.keeps.forest, not-none (entry_in v.tree.forest root) there, s.keeps.walkers, room) refl)

  pub step-next_node : (b : Bounds) (i : ℕ) (found : Option ℕ) (xs : List (Option Iterator)) (reply : Reply) → is_some (iterator_in v.iterators i) ≡ true → reply_view reply ≡ model_reply.Done (model_reply.MaybeNumber found) → IfSome (iterator_in v.iterators i) (λ it. found ≡ next_found v.tree.forest it) → IfSome (iterator_in v.iterators i) (λ it. xs ≡ slice_set v.iterators i (Some (moved_to_next v.tree.forest it))) → IsStep v (record v { iterators = xs }) b (NextNode i) reply
  step-next_node b i found xs reply there said finds moved =
      held-then (iterator_in v.iterators i) there (λ it is.
      let e = rw is at finds in
      let m = rw is at moved in
      step-iterators v shown b (NextNode i) reply xs (ap is_refusal said) (λ w s. rw (said, e, m, s.keeps.iterators, s.keeps.forest, is) refl))

  pub step-previous_node : (b : Bounds) (i : ℕ) (found : Option ℕ) (xs : List (Option Iterator)) (reply : Reply) → is_some (iterator_in v.iterators i) ≡ true → reply_view reply ≡ model_reply.Done (model_reply.MaybeNumber found) → IfSome (iterator_in v.iterators i) (λ it. found ≡ previous_found v.tree.forest it) → IfSome (iterator_in v.iterators i) (λ it. xs ≡ slice_set v.iterators i (Some (moved_to_previous v.tree.forest it))) → IsStep v (record v { iterators = xs }) b (PreviousNode i) reply
  step-previous_node b i found xs reply there said finds moved =
      held-then (iterator_in v.iterators i) there (λ it is.
      let e = rw is at finds in
      let m = rw is at moved in
      step-iterators v shown b (PreviousNode i) reply xs (ap is_refusal said) (λ w s. rw (said, e, m, s.keeps.iterators, s.keeps.forest, is) refl))

  pub step-set_current : (b : Bounds) (k n : ℕ) (xs : List (Option Walker)) (reply : Reply) → is_some (walker_in v.walkers k) ≡ true → is_some (entry_in v.tree.forest n) ≡ true → reply_view reply ≡ model_reply.Done model_reply.Nothing → IfSome (walker_in v.walkers k) (λ (walker : Walker). xs ≡ slice_set v.walkers k (Some (record walker { current = n }))) → IsStep v (record v { walkers = xs }) b (SetCurrent k n) reply
  step-set_current b k n xs reply inside there said moved =
      held-then (walker_in v.walkers k) inside (λ walker is.
      let m = rw is at moved in
      step-walkers v shown b (SetCurrent k n) reply xs (ap is_refusal said) (λ w s. rw (said, m, s.keeps.walkers, s.keeps.forest, is, not-none (entry_in v.tree.forest n) there) refl))

  pub step-walk : (b : Bounds) (k : ℕ) (direction : Move) (found : Option ℕ) (xs : List (Option Walker)) (reply : Reply) → is_some (walker_in v.walkers k) ≡ true → reply_view reply ≡ model_reply.Done (model_reply.MaybeNumber found) → IfSome (walker_in v.walkers k) (λ walker. found ≡ walk_found direction v.tree.forest walker) → IfSome (walker_in v.walkers k) (λ walker. xs ≡ slice_set v.walkers k (Some (walker_moved (walk_found direction v.tree.forest walker) walker))) → IsStep v (record v { walkers = xs }) b (Walk k direction) reply
  step-walk b k direction found xs reply there said finds moved =
      held-then (walker_in v.walkers k) there (λ walker is.
      let e = rw is at finds in
      let m = rw is at moved in
      step-walkers v shown b (Walk k direction) reply xs (ap is_refusal said) (λ w s. rw (said, e, m, s.keeps.walkers, s.keeps.forest, is) refl))
