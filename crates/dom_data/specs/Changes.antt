-- Mutations without lists of nodes.
use Rattle.std.specs.Prelude.{ℕ, List, [], Option, None}
use Rattle.dom_model.specs.declared.RecordType.{RecordType}
use Rattle.dom_model.specs.Forests.Forest.{Forest, ancestors}
use Rattle.dom_model.specs.Worlds.World.{Content, Mutation, Observing}
use Rattle.dom_model.specs.MutationObservers.Observing.{standing_on, noted}
use Rattle.dom_observe.specs.Watchers.{Watchers, Watches}

-- a change of a node's data or attributes
abbrev pub change_of : RecordType → ℕ → Option (List ℕ) → Option (List ℕ) → Mutation
change_of what target name value = record {
  type = what;
  target = target;
  name = name;
  old_value = value;
  added = [];
  removed = [];
  previous = None;
  next = None;
  standing = [];
}

-- the change is noted, with the registrations that stand
abbrev pub QueuesMutation : RecordType → ℕ → Option (List ℕ) → Option (List ℕ) → Forest Content → Watchers → Watchers → Type 0
QueuesMutation what target name value f old new =
    (x : Observing) → Watches old x → Watches new
    (noted (record (change_of what target name value) { standing = standing_on (ancestors target f) x.registrations }) x)
