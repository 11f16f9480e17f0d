-- Notify, made of commands: what takes the pending observers, then for each of them, in order, what tells it; and then every transient registration that is
-- left goes. DOM Standard, "notify mutation observers".
use Rattle.std.proofs.Common.{◌≡◌, ℕ, true, List, [], ◌∷◌, map, refl, ap, sym, ◌∙◌, filter}
use Rattle.dom_model.specs.Definitions.{among, World, Notify, TakePending, TellObserver, Reply, Done, Records, Notified, Notification, has_observer, queue_of, pending_of, has_records, pending_taken, observer_told, told_in_turn, answers_in_turn, transients_ended, Bounds, Step, answers, with_observing, answer, world_past, replies_to}
use Rattle.dom_model.proofs.MutationObservers.{Queues.among-later, Queues.there-taken, Queues.pending-there, InTurn.notify-in_turn, InTurn.told-in_turn}
use Rattle.dom_model.proofs.PlainLists.Heads.{among-first}

module _ (b : Bounds) where
  tells : (w : World) (o : ℕ) → has_observer w.observing o ≡ true → answer b w (TellObserver o) ≡ answers (Records (queue_of o w.observing)) (with_observing (observer_told o w.observing) w)
  tells w o h = rw h refl

  -- each is there when it is its turn
  abbrev AreThere : List ℕ → World → Type 0
  AreThere os w = (o : ℕ) → among o os ≡ true → has_observer w.observing o ≡ true

  there_still : (o : ℕ) (os : List ℕ) (w : World) → AreThere (o ∷ os) w → AreThere os (with_observing (observer_told o w.observing) w)
  there_still o os w h p k = there-taken o w.observing (h o (among-first o os)) p ∙ h p (among-later p o os k)

  -- several are told, one command after another
  pub told-world : (os : List ℕ) (w : World) → AreThere os w → world_past b w (map TellObserver os) ≡ with_observing (told_in_turn os w.observing) w
  told-world [] w h = refl
  told-world (o ∷ os) w h =
      ap (λ (s : Step). world_past b s.world (map TellObserver os)) (tells w o (h o (among-first o os)))
      ∙ told-world os (with_observing (observer_told o w.observing) w) (there_still o os w h)

  pub told-replies : (os : List ℕ) (w : World) → AreThere os w → replies_to b w (map TellObserver os) ≡ map (λ (t : Notification). Done (Records t.records)) (answers_in_turn os w.observing)
  told-replies [] w h = refl
  told-replies (o ∷ os) w h =
      ap (λ (s : Step). s.reply ∷ replies_to b s.world (map TellObserver os)) (tells w o (h o (among-first o os)))
      ∙ ap (λ (rs : List Reply). Done (Records (queue_of o w.observing)) ∷ rs) (told-replies os (with_observing (observer_told o w.observing) w) (there_still o os w h))

  -- the world after the pending observers of a world were taken, and after each of them was told
  abbrev pub after_taking : World → World
  after_taking w = (answer b w TakePending).world

  abbrev pub after_telling : World → World
  after_telling w = world_past b (after_taking w) (map TellObserver (pending_of w.observing))

  pub notify-is_its_steps : (w : World) → answer b w Notify ≡ answers (Notified (filter has_records (answers_in_turn (pending_of w.observing) (after_taking w).observing))) (with_observing (transients_ended (after_telling w).observing) w)
  notify-is_its_steps w =
      (λ i. answers (Notified (told-in_turn w.observing i)) (with_observing (notify-in_turn w.observing i) w))
      ∙ ap (λ (v : World). answers (Notified (filter has_records (answers_in_turn (pending_of w.observing) (pending_taken w.observing)))) (with_observing (transients_ended v.observing) w))
      (sym (told-world (pending_of w.observing) (after_taking w) (λ o k. pending-there o w.observing k)))

  pub tells-each : (w : World) → replies_to b (after_taking w) (map TellObserver (pending_of w.observing)) ≡ map (λ (t : Notification). Done (Records t.records)) (answers_in_turn (pending_of w.observing) (after_taking w).observing)
  tells-each w = told-replies (pending_of w.observing) (after_taking w) (λ o k. pending-there o w.observing k)
