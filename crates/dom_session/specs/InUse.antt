-- How many objects a world has of each kind: what was made, without what was discarded or released. Ours.
use Rattle.std.specs.Prelude.{length, count_by, is_some}
use Rattle.dom_model.specs.Forests.Forest.{size}
use Rattle.dom_model.specs.Worlds.World as model
use Rattle.dom_observe.specs.WithoutRepeats.{once}
use Rattle.dom_observe.specs.Watchers.{registrations_in}
use Rattle.dom_edit.specs.declared.world.World.{World}
use Rattle.dom_session.specs.declared.in_use.Counts.{Counts}

-- of the registrations that are equal in every field one counts: a transient one is not made where an equal one is there
abbrev pub in_use_of : model.World → Counts
in_use_of w = record {
  nodes = size w.forest;
  ranges = count_by is_some w.ranges;
  static_ranges = count_by is_some w.static_ranges;
  iterators = count_by is_some w.iterators;
  walkers = count_by is_some w.walkers;
  observers = count_by is_some w.observing.places;
  registrations = length (once w.observing.registrations);
}

-- the same of what the code keeps
abbrev pub in_use_in : World → Counts
in_use_in v = record {
  nodes = size v.tree.forest;
  ranges = count_by is_some v.ranges.ranges;
  static_ranges = count_by is_some v.statics;
  iterators = count_by is_some v.iterators;
  walkers = count_by is_some v.walkers;
  observers = count_by is_some v.observers.queues;
  registrations = registrations_in v.observers;
}
