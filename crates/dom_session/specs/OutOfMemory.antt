-- What is left if memory was refused. Ours.
use Rattle.std.specs.Prelude.{◌≡◌, true}
use Rattle.dom_model.specs.Worlds.World as model
use Rattle.dom_edit.specs.declared.world.World.{World}
use Rattle.dom_edit.specs.Whole.{IsWhole, Shows}
use Rattle.dom_edit.specs.KeptNodes.{KeepsLabels}
use Rattle.dom_session.specs.SessionViews.{SessionView, StandsFor}

-- the world is whole, and what was held is held
pub record KeepsWholeWorld (old new : World) : Type 0 where
  pub whole : IsWhole new
  pub held : KeepsLabels old new

-- the same of the world of a session; and one that had ended before is as it was
pub record IsLeft (old new : SessionView) : Type 0 where
  pub whole : IsWhole new.world
  pub held : KeepsLabels old.world new.world
  pub had_ended : old.ended ≡ true → new ≡ old

-- a world as it was, but that live ranges may have room for more nodes
abbrev pub with_covered : World → World → World
with_covered old new = record old { ranges = record old.ranges { covered = new.ranges.covered } }

-- Nothing has changed but that room, which no reply tells of: the world stands for all that it stood for.
pub record IsAsItWas (old new : World) : Type 0 where
  pub is : new ≡ with_covered old new
  pub stands : (w : model.World) → Shows old w → Shows new w

-- the same of a session, which is open if it was open
pub record IsAsBefore (old new : SessionView) : Type 0 where
  pub is : new ≡ record old { world = with_covered old.world new.world }
  pub stands : (w : model.World) → StandsFor old w → StandsFor new w
