-- Observers do not feel one another: a list of commands without those of some observers is answered as the whole list is, but for their parts.
-- DOM Standard, "Mutation observers".
use Rattle.std.proofs.Common.{◌≡◌, ℕ, Bool, true, false, not, List, [], ◌∷◌, refl, sym, ◌∙◌}
use Rattle.std.specs.List.{list_any}
use Rattle.dom_model.specs.Definitions.{World, first_world, Command, Observe, Disconnect, TakeRecords, Notify, Pending, ReleaseObserver, TakePending, TellObserver, Discard, Reply, Bounds, answer, replies_to, is_by_observer, left_by_observers, without_observers, replies_without_observers, discards, makes_no_discard}
use Rattle.dom_model.proofs.MutationObservers.Apart.{taken-erased, observer_told-erased, disconnected-erased, released-erased, observed-erased}
use Rattle.dom_model.proofs.Erasure.{ErasedWorlds.Without, ErasedWorlds.without, ErasedWorlds.first-left, ErasedTreeAnswers.concerns_watchers, ErasedWatcherAnswers.watcher_answer-left, ErasedSteps.guarded-alone, ErasedSteps.checked-alone, ErasedObserving.Follows, ErasedObserving.command-left, ErasedLists.IsErased, ErasedLists.apart_from, ErasedLists.discard-follows}

-- no command is barred
abbrev pub no_command : Command → Bool
no_command c = false

pub none_barred : (cs : List Command) → not (list_any no_command cs) ≡ true
none_barred [] = refl
none_barred (c ∷ cs) = none_barred cs

module _ (erased : ℕ → Bool) where
  -- The commands of erased observers, which the second world does not meet.

  pub command-erased : (b : Bounds) (c : Command) (x y : World) → Without erased true x y → is_by_observer erased c ≡ true → Without erased true (answer b x c).world y
  command-erased b (Observe p n options) x _ (without o v h) e = search (guarded-alone, checked-alone, observed-erased, without)
  command-erased b (Disconnect p) x _ (without o v h) e = search (guarded-alone, disconnected-erased, without)
  command-erased b (TakeRecords p) x _ (without o v h) e = search (guarded-alone, taken-erased, without)
  command-erased b (ReleaseObserver p) x _ (without o v h) e = search (guarded-alone, released-erased, without)
  command-erased b (TellObserver p) x _ (without o v h) e = search (guarded-alone, observer_told-erased, without)
  command-erased b c x y h e = absurd (cc e)

  -- nothing is taken out of the answers about watchers
  untouched : (c : Command) → concerns_watchers c ≡ true → (r : Reply) → left_by_observers erased c r ≡ r
  untouched Notify e r = absurd (cc e)
  untouched Pending e r = absurd (cc e)
  untouched TakePending e r = absurd (cc e)
  untouched c e r = refl

  -- a command that is not erased, and discards nothing
  pub other-follows : (b : Bounds) (c : Command) (x y : World) → Without erased true x y → discards c ≡ false → is_by_observer erased c ≡ false → Follows erased true c (answer b x c) (answer b y c)
  other-follows b c x y h d e = go (concerns_watchers c) refl
    where
      go : (v : Bool) → concerns_watchers c ≡ v → Follows erased true c (answer b x c) (answer b y c)
      go true f = let k = watcher_answer-left erased b c x y h f in record { reply = k.reply ∙ sym (untouched c f (answer b x c).reply); world = k.world }
      go false f = command-left erased true b c x y h d e f

  erased-keeps : (c : Command) → is_by_observer erased c ≡ true → discards c ≡ false
  erased-keeps (Discard n) e = absurd (cc e)
  erased-keeps c e = refl

  pub observers-erased : (b : Bounds) → IsErased b (is_by_observer erased) (left_by_observers erased) no_command (Without erased true)
  observers-erased b = record {
    alone = command-erased b;
    keeps = erased-keeps;
    others = λ c x y h _ d e. let k = other-follows b c x y h d e in (k.reply, k.world);
    discard = λ c x y h d e. let k = discard-follows erased true b c x y h d e in (k.reply, k.world);
  }

  -- from any two such worlds on, and from the first world on

  pub observers-apart_from : (b : Bounds) (cs : List Command) → makes_no_discard cs ≡ true → (x y : World) → Without erased true x y → replies_to b y (without_observers erased cs) ≡ replies_without_observers erased cs (replies_to b x cs)
  observers-apart_from b cs d x y h = apart_from b (is_by_observer erased) (left_by_observers erased) no_command (Without erased true) (observers-erased b) cs x y (none_barred cs) d h

  pub observers-apart : (b : Bounds) (cs : List Command) → makes_no_discard cs ≡ true → replies_to b first_world (without_observers erased cs) ≡ replies_without_observers erased cs (replies_to b first_world cs)
  observers-apart b cs d = observers-apart_from b cs d first_world first_world (first-left erased true)
