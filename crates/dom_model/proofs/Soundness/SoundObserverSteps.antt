-- The commands of mutation observers leave a sound world. DOM Standard, "Interface MutationObserver".
use Rattle.std.proofs.Common.{ℕ, Bool, true, false, not, if◌then◌else◌, List, [], ◌∷◌, ◌++◌, map, filter, All}
use Rattle.std.proofs.lemmas.List.Elements.{All-map, All-weaker, All-filter, All-push}
use Rattle.std.specs.List.{list_any}
use Rattle.dom_model.specs.Definitions.{Forest, HasNode, Content, Options, Registration, Observing, World, GivenOptions, options_refusal, options_of, is_registered, is_transient_from, new_registration, with_options, registered, observed, Bounds, checked, no_node, does, no_observer, with_observing, answer_observe, IsRegistration, IsSound}
use Rattle.dom_model.proofs.Forests.Entries.{HasNode-occurs}
use Rattle.dom_model.proofs.Soundness.SoundGuards.{sound-guarded, sound-checked, there_unless}

pub sound-observing : (x : Observing) (w : World) → IsSound w → All (IsRegistration w.forest) x.registrations → IsSound (with_observing x w)
sound-observing x w s h = record { forest = s.forest; ranges = s.ranges; iterators = s.iterators; walkers = s.walkers; registrations = h; statics = s.statics }

pub registrations-left : (f : Forest Content) (test : Registration → Bool) (rs : List Registration) → All (IsRegistration f) rs → All (IsRegistration f) (filter test rs)
registrations-left f test rs h = All-filter test (IsRegistration f) rs h

registered-sound : (f : Forest Content) (o n : ℕ) (options : Options) (rs : List Registration) → HasNode f n → All (IsRegistration f) rs → All (IsRegistration f) (registered o n options rs)
registered-sound f o n options rs there h = go (list_any (is_registered o n) rs)
  where
    with_new : (r : Registration) → IsRegistration f r → IsRegistration f (with_options o n options r)
    with_new r k = either (is_registered o n r)
      where
        either : (v : Bool) → IsRegistration f (if v then record r { options = options } else r)
        either true = record { node = k.node; source = k.source }
        either false = k

    kept : List Registration
    kept = filter (λ (r : Registration). not (is_transient_from o n r)) rs

    go : (v : Bool) → All (IsRegistration f) (if v then map (with_options o n options) (filter (λ (r : Registration). not (is_transient_from o n r)) rs) else rs ++ new_registration o n options ∷ [])
    go true =
        All-map (IsRegistration f) (with_options o n options) kept
        (All-weaker (IsRegistration f) (λ r. IsRegistration f (with_options o n options r)) with_new kept (All-filter (λ (r : Registration). not (is_transient_from o n r)) (IsRegistration f) rs h))
    go false = All-push (IsRegistration f) rs (new_registration o n options) h (record { node = there; source = tt })

pub ruleset observer_steps = (sound-observing, registrations-left)

module _ (b : Bounds) (w : World) (s : IsSound w) where
  pub sound-observe : (o n : ℕ) (options : GivenOptions) → IsSound (answer_observe b o n options w).world
  sound-observe o n options =
      sound-guarded (no_observer o w ∷ no_node n w ∷ []) w (checked (options_refusal options) w (does (with_observing (observed o n (options_of options) w.observing) w))) s (λ h.
      sound-checked (options_refusal options) w (does (with_observing (observed o n (options_of options) w.observing) w)) s (λ _.
      sound-observing (observed o n (options_of options) w.observing) w s
      (registered-sound w.forest o n (options_of options) w.observing.registrations (HasNode-occurs w.forest n (there_unless w.forest n h.1.0)) s.registrations)))
