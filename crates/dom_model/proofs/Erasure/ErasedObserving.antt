-- Worlds without some observers: the commands of the other observers, and what is left of the answers to notify and pending.
-- DOM Standard, "Interface MutationObserver".
use Rattle.std.proofs.Common.{◌≡◌, ℕ, ◌<◌, Bool, true, false, not, if◌then◌else◌, [], ◌∷◌, length, refl, ap, sym, subst}
use Rattle.dom_model.specs.Definitions.{World, Command, CreateObserver, Observe, Disconnect, TakeRecords, Notify, Pending, ReleaseObserver, TakePending, TellObserver, Discard, GivenOptions, Number, Numbers, Notified, Done, Own, options_refusal, options_of, observed, has_observer, with_observer, after_notify, pending_taken, Bounds, Step, refused, guarded, no_node, no_room, answers, answer, is_by_observer, left_by_observers, discards}
use Rattle.dom_model.specs.declared.OwnError.TheVariants.{NoSuchObject}
use Rattle.dom_model.proofs.MutationObservers.{Apart.queue-left, Apart.pending-left, Apart.told-left, Apart.notified-left, Apart.pending_taken-left, Apart.taken-left, Apart.observer_told-left, Apart.disconnected-left, Apart.released-left, Apart.observed-left, Apart.made-left, Apart.there-left, Queues.observer-made}
use Rattle.dom_model.proofs.Erasure.{ErasedWorlds.left_world, ErasedWorlds.Without, ErasedWorlds.without, ErasedSteps.Alike, ErasedSteps.guarded-left, ErasedSteps.checked-left, ErasedTreeAnswers.concerns_watchers, ErasedTreeAnswers.tree_answer-left}

module _ (erased : ℕ → Bool) (watched : Bool) where
  create_observer-left : (b : Bounds) (x y : World) → Without erased watched x y → Alike erased watched (answer b x CreateObserver) (answer b y CreateObserver)
  create_observer-left b x _ (without o v h) =
      subst (λ l. Alike erased watched (answer b x CreateObserver) (guarded (no_room b l 1 ∷ []) (left_world watched o v x) (answers (Number l) (left_world watched (with_observer o) v x))))
      (sym h.made)
      (guarded-left erased watched (no_room b (length x.observing.places) 1 ∷ []) {x = x} (without o v h)
      (record { reply = refl; world = without (with_observer o) v (made-left erased x.observing o h) }))

  -- the observer is there in both worlds, or in neither
  named-left : (p : ℕ) → erased p ≡ false → (x y : World) → Without erased watched x y → (s t : Step) → (p < length x.observing.places → Alike erased watched s t) → Alike erased watched (if not (has_observer x.observing p) then refused (Own NoSuchObject) x else s) (if not (has_observer y.observing p) then refused (Own NoSuchObject) y else t)
  named-left p e x _ (without o v h) s t k =
      subst (λ u. Alike erased watched (if not (has_observer x.observing p) then refused (Own NoSuchObject) x else s) (if not u then refused (Own NoSuchObject) (left_world watched o v x) else t))
      (sym (there-left erased x.observing o h p e))
      (go (has_observer x.observing p) refl)
    where
      go : (u : Bool) → has_observer x.observing p ≡ u → Alike erased watched (if not u then refused (Own NoSuchObject) x else s) (if not u then refused (Own NoSuchObject) (left_world watched o v x) else t)
      go true d = k (observer-made x.observing p d)
      go false d = record { reply = refl; world = without o v h }

  observe-left : (b : Bounds) (p n : ℕ) (options : GivenOptions) → erased p ≡ false → (x y : World) → Without erased watched x y → Alike erased watched (answer b x (Observe p n options)) (answer b y (Observe p n options))
  observe-left b p n options e x _ (without o v h) =
      named-left p e x _ (without o v h) _ _ λ _.
      guarded-left erased watched (no_node n x ∷ []) {x = x} (without o v h)
      (checked-left erased watched (options_refusal options) {x = x} (without o v h)
      (record { reply = refl; world = without (observed p n (options_of options) o) v (observed-left erased x.observing o h p n (options_of options) e) }))

  disconnect-left : (b : Bounds) (p : ℕ) → erased p ≡ false → (x y : World) → Without erased watched x y → Alike erased watched (answer b x (Disconnect p)) (answer b y (Disconnect p))
  disconnect-left b p e x _ (without o v h) =
      named-left p e x _ (without o v h) _ _ λ below. search (disconnected-left, without)

  release-left : (b : Bounds) (p : ℕ) → erased p ≡ false → (x y : World) → Without erased watched x y → Alike erased watched (answer b x (ReleaseObserver p)) (answer b y (ReleaseObserver p))
  release-left b p e x _ (without o v h) =
      named-left p e x _ (without o v h) _ _ λ below. search (released-left, without)

  take_records-left : (b : Bounds) (p : ℕ) → erased p ≡ false → (x y : World) → Without erased watched x y → Alike erased watched (answer b x (TakeRecords p)) (answer b y (TakeRecords p))
  take_records-left b p e x _ (without o v h) =
      let queue = queue-left erased x.observing o h p e in
      named-left p e x _ (without o v h) _ _ λ below. search (queue, taken-left, without)

  tell_observer-left : (b : Bounds) (p : ℕ) → erased p ≡ false → (x y : World) → Without erased watched x y → Alike erased watched (answer b x (TellObserver p)) (answer b y (TellObserver p))
  tell_observer-left b p e x _ (without o v h) =
      let queue = queue-left erased x.observing o h p e in
      named-left p e x _ (without o v h) _ _ λ below. search (queue, observer_told-left, without)

  -- the reply is what is left of the first, and the second world is the first one without the erased observers
  pub record Follows (c : Command) (s t : Step) : Type 0 where
    pub reply : t.reply ≡ left_by_observers erased c s.reply
    pub world : Without erased watched s.world t.world

  -- a command of neither erased observers nor watchers
  pub command-left : (b : Bounds) (c : Command) (x y : World) → Without erased watched x y → discards c ≡ false → is_by_observer erased c ≡ false → concerns_watchers c ≡ false → Follows c (answer b x c) (answer b y c)
  command-left b CreateObserver x y h d e f = let k = create_observer-left b x y h in record { reply = k.reply; world = k.world }
  command-left b (Observe p n options) x y h d e f = let k = observe-left b p n options e x y h in record { reply = k.reply; world = k.world }
  command-left b (Disconnect p) x y h d e f = let k = disconnect-left b p e x y h in record { reply = k.reply; world = k.world }
  command-left b (ReleaseObserver p) x y h d e f = let k = release-left b p e x y h in record { reply = k.reply; world = k.world }
  command-left b (TakeRecords p) x y h d e f = let k = take_records-left b p e x y h in record { reply = k.reply; world = k.world }
  command-left b Notify x _ (without o v h) d e f = record {
    reply = ap (λ ts. Done (Notified ts)) (told-left erased x.observing o h);
    world = without (after_notify o) v (notified-left erased x.observing o h);
  }
  command-left b Pending x _ (without o v h) d e f =
      record { reply = ap (λ os. Done (Numbers os)) (pending-left erased x.observing o h); world = without o v h }
  command-left b TakePending x _ (without o v h) d e f = record {
    reply = ap (λ os. Done (Numbers os)) (pending-left erased x.observing o h);
    world = without (pending_taken o) v (pending_taken-left erased x.observing o h);
  }
  command-left b (TellObserver p) x y h d e f = let k = tell_observer-left b p e x y h in record { reply = k.reply; world = k.world }
  command-left b (Discard n) x y h d e f = absurd (cc d)
  command-left b c x y h d e f = let k = tree_answer-left erased watched b c x y h refl f in record { reply = k.reply; world = k.world }
