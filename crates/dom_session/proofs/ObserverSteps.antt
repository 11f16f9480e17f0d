-- The steps that change the observers and nothing else, from a world that is shown.
use Rattle.std.proofs.Common.{◌≡◌, ℕ, ◌+◌, nat_lt, true, false, List, [], ◌∷◌, length, subst, Option, Some, None, Ok, Err, refl, sym, ap, ◌∙◌, is_some}
use Rattle.dom_model.specs.declared.DomError.{DomError}
use Rattle.dom_model.specs.Definitions.{HasNode, entry_in, Observing, Options, Command, CreateObserver, Observe, Disconnect, TakeRecords, Notify, ReleaseObserver, TakePending, TellObserver, GivenOptions, is_refusal, Bounds, answer, with_observing, options_refusal, options_of, settled, settled_unless, has_observer, with_observer, observed, disconnected, released_observer, queue_of, records_taken, notifications, after_notify, pending_taken, observer_told, Record, Notification}
use Rattle.dom_model.specs.Worlds.World as model
use Rattle.dom_model.specs.Commands.Reply as model_reply
use Rattle.dom_model.proofs.PlainLists.Numbers.{same_or, same, apart}
use Rattle.dom_observe.specs.{ObservedNodes.NamesHeld, ObservedNodes.NamesOnly, Watchers.Watchers, Watchers.Watches, Watchers.queue_in}
use Rattle.dom_observe.proofs.NamesHeldLemmas.{held-after}
use Rattle.dom_edit.specs.{declared.world.World.World, Whole.IsWhole, Whole.Shows}
use Rattle.dom_commands.specs.{declared.reply.Reply.Reply, Views.reply_view}
use Rattle.dom_session.specs.{SessionViews.IsStep}
use Rattle.dom_session.proofs.{GuardedLemmas.step-follows, GuardedLemmas.step-stays, TreeEdits.not-none}

module _ (v : World) (whole : IsWhole v) where
  -- observers that name what is there
  pub whole-observed : (o : Watchers) → NamesHeld v.tree.forest o → IsWhole (record v { observers = o })
  whole-observed o names = record { forest = whole.forest; documents = whole.documents; owners = whole.owners; covered = whole.covered; ranges = whole.ranges; statics = whole.statics; iterators = whole.iterators; walkers = whole.walkers; observers = names }

  -- the observers are others, which watch what the step makes of it
  pub step-observers : (b : Bounds) (c : Command) (reply : Reply) (o : Watchers) (step : Observing → Observing) → is_refusal (reply_view reply) ≡ false → ((w : model.World) → Shows v w → answer b w c ≡ record { reply = reply_view reply; world = with_observing (step w.observing) w }) → ((x : Observing) → Watches v.observers x → Watches o (step x)) → NamesHeld v.tree.forest o → IsStep v (record v { observers = o }) b c reply
  step-observers b c reply o step done e watched names =
      let new : World = record v { observers = o } in
      step-follows b c reply v new (λ w. with_observing (step w.observing) w) done e
      (record {
        keeps = λ w k. record { forest = k.forest; made = k.made; ranges = k.ranges; static_ranges = k.static_ranges; iterators = k.iterators; walkers = k.walkers };
        watches = λ w k h. watched w.observing h;
      })
      (whole-observed o names)

  -- no other node is named
  pub names-none : (o : Watchers) → NamesOnly [] v.observers o → NamesHeld v.tree.forest o
  names-none o only = held-after v.tree.forest [] v.observers o only (λ n e. absurd (cc e)) whole.observers

  -- an observer that is there is there in each world that is shown
  is-there : (i : ℕ) → is_some (queue_in v.observers i) ≡ true → (w : model.World) → Shows v w → has_observer w.observing i ≡ true
  is-there i there w s = sym (s.watched.there i) ∙ there

  pub step-observe : (b : Bounds) (i n : ℕ) (given : GivenOptions) (o : Watchers) (reply : Reply) → is_some (queue_in v.observers i) ≡ true → is_some (entry_in v.tree.forest n) ≡ true → options_refusal given ≡ None → reply_view reply ≡ model_reply.Done model_reply.Nothing → ((x : Observing) → Watches v.observers x → Watches o (observed i n (options_of given) x)) → NamesOnly (n ∷ []) v.observers o → IsStep v (record v { observers = o }) b (Observe i n given) reply
  step-observe b i n given o reply there held allowed said watched only =
      step-observers b (Observe i n given) reply o (observed i n (options_of given)) (ap is_refusal said)
      (λ w s. rw (said, is-there i there w s, s.keeps.forest, not-none (entry_in v.tree.forest n) held, allowed) refl) watched
      (held-after v.tree.forest (n ∷ []) v.observers o only (λ m e. elim (same_or n m) [ same d t ↦ subst (λ k. HasNode v.tree.forest k) d held | apart ne t ↦ absurd (let k = rw t at e in cc k) ]) whole.observers)

  pub step-disconnect : (b : Bounds) (i : ℕ) (o : Watchers) (reply : Reply) → is_some (queue_in v.observers i) ≡ true → reply_view reply ≡ model_reply.Done model_reply.Nothing → ((x : Observing) → Watches v.observers x → Watches o (disconnected i x)) → NamesOnly [] v.observers o → IsStep v (record v { observers = o }) b (Disconnect i) reply
  step-disconnect b i o reply there said watched only =
      step-observers b (Disconnect i) reply o (disconnected i) (ap is_refusal said) (λ w s. rw (said, is-there i there w s) refl) watched (names-none o only)

  pub step-release_observer : (b : Bounds) (i : ℕ) (o : Watchers) (reply : Reply) → is_some (queue_in v.observers i) ≡ true → reply_view reply ≡ model_reply.Done model_reply.Nothing → ((x : Observing) → Watches v.observers x → Watches o (released_observer i x)) → NamesOnly [] v.observers o → IsStep v (record v { observers = o }) b (ReleaseObserver i) reply
  step-release_observer b i o reply there said watched only =
      step-observers b (ReleaseObserver i) reply o (released_observer i) (ap is_refusal said) (λ w s. rw (said, is-there i there w s) refl) watched (names-none o only)

  pub step-create : (b : Bounds) (o : Watchers) (reply : Reply) → nat_lt b.numbers (length v.observers.queues + 1) ≡ false → reply_view reply ≡ model_reply.Done (model_reply.Number (length v.observers.queues)) → ((x : Observing) → Watches v.observers x → Watches o (with_observer x)) → NamesOnly [] v.observers o → IsStep v (record v { observers = o }) b CreateObserver reply
  step-create b o reply room said watched only =
      step-observers b CreateObserver reply o with_observer (ap is_refusal said) (λ w s. rw (said, s.watched.made, room) refl) watched (names-none o only)

  pub step-take : (b : Bounds) (i : ℕ) (records : List Record) (o : Watchers) (reply : Reply) → is_some (queue_in v.observers i) ≡ true → reply_view reply ≡ model_reply.Done (model_reply.Records records) → ((x : Observing) → Watches v.observers x → records ≡ queue_of i x) → ((x : Observing) → Watches v.observers x → Watches o (records_taken i x)) → NamesOnly [] v.observers o → IsStep v (record v { observers = o }) b (TakeRecords i) reply
  step-take b i records o reply there said are watched only =
      step-observers b (TakeRecords i) reply o (records_taken i) (ap is_refusal said) (λ w s. rw (said, is-there i there w s, are w.observing s.watched) refl) watched (names-none o only)

  pub step-notify : (b : Bounds) (all : List Notification) (o : Watchers) (reply : Reply) → reply_view reply ≡ model_reply.Done (model_reply.Notified all) → ((x : Observing) → Watches v.observers x → all ≡ notifications x) → ((x : Observing) → Watches v.observers x → Watches o (after_notify x)) → NamesOnly [] v.observers o → IsStep v (record v { observers = o }) b Notify reply
  step-notify b all o reply said are watched only =
      step-observers b Notify reply o after_notify (ap is_refusal said) (λ w s. rw (said, are w.observing s.watched) refl) watched (names-none o only)

  pub step-take_pending : (b : Bounds) (numbers : List ℕ) (o : Watchers) (reply : Reply) → reply_view reply ≡ model_reply.Done (model_reply.Numbers numbers) → numbers ≡ v.observers.pending → ((x : Observing) → Watches v.observers x → Watches o (pending_taken x)) → NamesOnly [] v.observers o → IsStep v (record v { observers = o }) b TakePending reply
  step-take_pending b numbers o reply said are watched only =
      step-observers b TakePending reply o pending_taken (ap is_refusal said) (λ w s. rw (said, are ∙ s.watched.pending) refl) watched (names-none o only)

  pub step-tell_observer : (b : Bounds) (i : ℕ) (records : List Record) (o : Watchers) (reply : Reply) → is_some (queue_in v.observers i) ≡ true → reply_view reply ≡ model_reply.Done (model_reply.Records records) → ((x : Observing) → Watches v.observers x → records ≡ queue_of i x) → ((x : Observing) → Watches v.observers x → Watches o (observer_told i x)) → NamesOnly [] v.observers o → IsStep v (record v { observers = o }) b (TellObserver i) reply
  step-tell_observer b i records o reply there said are watched only =
      step-observers b (TellObserver i) reply o (observer_told i) (ap is_refusal said) (λ w s. rw (said, is-there i there w s, are w.observing s.watched) refl) watched (names-none o only)

  -- options that are refused
  pub step-not_observed : (b : Bounds) (i n : ℕ) (given : GivenOptions) (error : DomError) (reply : Reply) → is_some (queue_in v.observers i) ≡ true → is_some (entry_in v.tree.forest n) ≡ true → options_refusal given ≡ Some error → reply_view reply ≡ model_reply.Dom error → IsStep v v b (Observe i n given) reply
  step-not_observed b i n given error reply there held not_allowed said =
      step-stays b (Observe i n given) reply v (λ w s. rw (said, is-there i there w s, s.keeps.forest, not-none (entry_in v.tree.forest n) held, not_allowed) refl)

-- the options that are settled are those of the definitions, and nothing stands in their way
pub settled-ok : (given : GivenOptions) (options : Options) → settled given ≡ Ok options → (options_refusal given ≡ None) × (options ≡ options_of given)
settled-ok given options e = go (options_refusal given) e
  where
    go : (refusal : Option DomError) → settled_unless refusal (options_of given) ≡ Ok options → (refusal ≡ None) × (options ≡ options_of given)
    go None e = (refl, cc e)
    go (Some error) e = absurd (cc e)

pub settled-err : (given : GivenOptions) (error : DomError) → settled given ≡ Err error → options_refusal given ≡ Some error
settled-err given error e = go (options_refusal given) e
  where
    go : (refusal : Option DomError) → settled_unless refusal (options_of given) ≡ Err error → refusal ≡ Some error
    go None e = absurd (cc e)
    go (Some other) e = cc e
