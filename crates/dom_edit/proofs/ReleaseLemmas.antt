-- What callers cite where an iterator, a walker, a static range or an observer is released: what follows, that the world stays whole, and what it shows.
use Rattle.std.proofs.Common.{slice_set, ℕ, ◌==◌, not, List, [], Option, None, IfSome, All, refl, ap}
use Rattle.std.proofs.lemmas.List.Elements.{All-set, All-filter}
use Rattle.dom_model.specs.Worlds.World as model
use Rattle.dom_model.specs.Definitions.{Range, Iterator, Walker, Registration, Observing, released_observer, released_static, released_iterator, released_walker, with_observing, IsIterator, IsWalker, IsRegistration}
use Rattle.dom_observe.specs.{ObservedNodes.NamesOnly, Watchers.Watchers, Watchers.Watches}
use Rattle.dom_edit.specs.{declared.world.World.World, Whole.AreHeld, Whole.IsWhole, Whole.Shows, Whole.Follows}
use Rattle.dom_edit.proofs.{FollowsLemmas.shows-next, KeepsNodesLemmas.none-there, AreThereLemmas.whole-named}

-- what each has that was not released, each has of those that are left
left-of : {A : Type 0} (P : A → Type 0) (xs : List (Option A)) (i : ℕ) → All (λ (x : Option A). IfSome x P) xs → All (λ (x : Option A). IfSome x P) (slice_set xs i None)
left-of {A} P xs i h = All-set (λ (x : Option A). IfSome x P) xs i None tt h

module _ (v : World) (i : ℕ) where
  -- An iterator.

  abbrev pub without_iterator : World
  without_iterator = record v { iterators = slice_set v.iterators i None }

  pub follows-iterator_released : Follows v without_iterator (released_iterator i)
  follows-iterator_released = record {
    keeps = λ w k. record { forest = k.forest; made = k.made; ranges = k.ranges; static_ranges = k.static_ranges; iterators = ap (λ (is : List (Option Iterator)). slice_set is i None) k.iterators; walkers = k.walkers };
    watches = λ w k o. o;
  }

  pub whole-iterator_released : IsWhole v → IsWhole without_iterator
  whole-iterator_released h =
      record { forest = h.forest; documents = h.documents; owners = h.owners; covered = h.covered; ranges = h.ranges; statics = h.statics; iterators = left-of (IsIterator v.tree.forest) v.iterators i h.iterators; walkers = h.walkers; observers = h.observers }

  pub shows-iterator_released : (w : model.World) → Shows v w → Shows without_iterator (released_iterator i w)
  shows-iterator_released w shown =
      let s = shown.sound in
      shows-next v without_iterator (released_iterator i) w shown follows-iterator_released
      (record { forest = s.forest; ranges = s.ranges; iterators = left-of (IsIterator w.forest) w.iterators i s.iterators; walkers = s.walkers; registrations = s.registrations; statics = s.statics })
      (whole-iterator_released shown.whole)

  -- A walker.

  abbrev pub without_walker : World
  without_walker = record v { walkers = slice_set v.walkers i None }

  pub follows-walker_released : Follows v without_walker (released_walker i)
  follows-walker_released = record {
    keeps = λ w k. record { forest = k.forest; made = k.made; ranges = k.ranges; static_ranges = k.static_ranges; iterators = k.iterators; walkers = ap (λ (ks : List (Option Walker)). slice_set ks i None) k.walkers };
    watches = λ w k o. o;
  }

  pub whole-walker_released : IsWhole v → IsWhole without_walker
  whole-walker_released h =
      record { forest = h.forest; documents = h.documents; owners = h.owners; covered = h.covered; ranges = h.ranges; statics = h.statics; iterators = h.iterators; walkers = left-of (IsWalker v.tree.forest) v.walkers i h.walkers; observers = h.observers }

  pub shows-walker_released : (w : model.World) → Shows v w → Shows without_walker (released_walker i w)
  shows-walker_released w shown =
      let s = shown.sound in
      shows-next v without_walker (released_walker i) w shown follows-walker_released
      (record { forest = s.forest; ranges = s.ranges; iterators = s.iterators; walkers = left-of (IsWalker w.forest) w.walkers i s.walkers; registrations = s.registrations; statics = s.statics })
      (whole-walker_released shown.whole)

  -- A static range.

  abbrev pub without_static : World
  without_static = record v { statics = slice_set v.statics i None }

  pub follows-static_released : Follows v without_static (released_static i)
  follows-static_released = record {
    keeps = λ w k. record { forest = k.forest; made = k.made; ranges = k.ranges; static_ranges = ap (λ (rs : List (Option Range)). slice_set rs i None) k.static_ranges; iterators = k.iterators; walkers = k.walkers };
    watches = λ w k o. o;
  }

  pub whole-static_released : IsWhole v → IsWhole without_static
  whole-static_released h =
      record { forest = h.forest; documents = h.documents; owners = h.owners; covered = h.covered; ranges = h.ranges; statics = left-of (AreHeld v.tree.forest) v.statics i h.statics; iterators = h.iterators; walkers = h.walkers; observers = h.observers }

  pub shows-static_released : (w : model.World) → Shows v w → Shows without_static (released_static i w)
  shows-static_released w shown =
      let s = shown.sound in
      shows-next v without_static (released_static i) w shown follows-static_released
      (record { forest = s.forest; ranges = s.ranges; iterators = s.iterators; walkers = s.walkers; registrations = s.registrations; statics = left-of (AreHeld w.forest) w.static_ranges i s.statics })
      (whole-static_released shown.whole)

  -- An observer, of which `o` is what is left: it watches what the definitions leave, and names no node that was not named.

  module _ (o : Watchers) where
    pub follows-observer_released : ((x : Observing) → Watches v.observers x → Watches o (released_observer i x)) → Follows v (record v { observers = o }) (λ w. with_observing (released_observer i w.observing) w)
    follows-observer_released released = record {
      keeps = λ w k. record { forest = k.forest; made = k.made; ranges = k.ranges; static_ranges = k.static_ranges; iterators = k.iterators; walkers = k.walkers };
      watches = λ w k h. released w.observing h;
    }

    pub whole-observer_released : IsWhole v → NamesOnly [] v.observers o → IsWhole (record v { observers = o })
    whole-observer_released h names = whole-named v (record v { observers = o }) [] refl h names (none-there v.tree.forest)

    pub shows-observer_released : (w : model.World) → Shows v w → ((x : Observing) → Watches v.observers x → Watches o (released_observer i x)) → NamesOnly [] v.observers o → Shows (record v { observers = o }) (with_observing (released_observer i w.observing) w)
    shows-observer_released w shown released names =
        let s = shown.sound in
        let left = All-filter (λ (r : Registration). not (r.observer == i)) (IsRegistration w.forest) w.observing.registrations s.registrations in
        shows-next v (record v { observers = o }) (λ w. with_observing (released_observer i w.observing) w) w shown (follows-observer_released released)
        (record { forest = s.forest; ranges = s.ranges; iterators = s.iterators; walkers = s.walkers; registrations = left; statics = s.statics })
        (whole-observer_released shown.whole names)
