-- Steps of the definitions that follow one another, and what a world of the code shows after one.
use Rattle.std.proofs.Common.{◌≡◌, Option, IfSome, All, refl, sym, subst}
use Rattle.std.proofs.lemmas.List.Elements.{All-nil}
use Rattle.dom_model.specs.Definitions.{IsForest, HasOneDocument, Range, IsRegistration, IsSound, HasOwners}
use Rattle.dom_model.specs.Worlds.World as model
use Rattle.dom_observe.specs.ObservedNodes.{NamesHeld}
use Rattle.dom_edit.specs.{declared.world.World.World, Whole.AreHeld, Whole.CoversHeld, Whole.IsWhole, Whole.Keeps, Whole.Shows, Whole.Follows, Whole.unwatched}

-- no step
pub follows-none : (v : World) → Follows v v (λ w. w)
follows-none v = record { keeps = λ w k. k; watches = λ w k o. o }

-- one step after another
pub follows-then : (a b c : World) (first second : model.World → model.World) → Follows a b first → Follows b c second → Follows a c (λ w. second (first w))
follows-then a b c first second f s = record {
  keeps = λ w k. s.keeps (first w) (f.keeps w k);
  watches = λ w k o. s.watches (first w) (f.keeps w k) (f.watches w k o);
}

-- what is shown after a step
pub shows-next : (old new : World) (step : model.World → model.World) (w : model.World) → Shows old w → Follows old new step → IsSound (step w) → IsWhole new → Shows new (step w)
shows-next old new step w shown f sound whole = record {
  keeps = f.keeps w shown.keeps;
  watched = f.watches w shown.keeps shown.watched;
  sound = sound;
  whole = whole;
}

pub keeps-unwatched : (v : World) → Keeps v (unwatched v)
keeps-unwatched v = record { forest = refl; made = refl; ranges = refl; static_ranges = refl; iterators = refl; walkers = refl }

-- a world of the code is whole where it keeps a sound world, each node document is where it should be, and all nodes are covered
pub whole-sound : (v : World) (w : model.World) → Keeps v w → IsSound w → HasOneDocument v.tree.forest → HasOwners v.tree.forest → CoversHeld v.tree v.ranges.covered → All (λ (r : Option Range). IfSome r (AreHeld v.tree.forest)) v.statics → NamesHeld v.tree.forest v.observers → IsWhole v
whole-sound v w k s documents owners covered statics names = record {
  forest = subst (λ g. IsForest g) (rw (k.forest, k.made) refl) s.forest;
  documents = documents;
  owners = owners;
  covered = covered;
  ranges = rw (k.forest, k.ranges) at s.ranges;
  statics = statics;
  iterators = rw (k.forest, k.iterators) at s.iterators;
  walkers = rw (k.forest, k.walkers) at s.walkers;
  observers = names;
}

-- a whole world is sound, as one in which nobody watches
pub sound-unwatched : (v : World) → IsWhole v → IsSound (unwatched v)
sound-unwatched v h = record {
  forest = h.forest;
  ranges = h.ranges;
  iterators = h.iterators;
  walkers = h.walkers;
  registrations = All-nil (IsRegistration v.tree.forest);
  statics = h.statics;
}

-- other observers, of which each node that they name is there
pub whole-observed : (old new : World) → new ≡ record old { observers = new.observers } → IsWhole old → NamesHeld old.tree.forest new.observers → IsWhole new
whole-observed old new e h names =
    subst IsWhole (sym e) (record { forest = h.forest; documents = h.documents; owners = h.owners; covered = h.covered; ranges = h.ranges; statics = h.statics; iterators = h.iterators; walkers = h.walkers; observers = names })
