-- What is noted of children that came or went.
use Rattle.std.proofs.Common.{ℕ, List, Option, None}
use Rattle.dom_model.specs.declared.RecordType.TheVariants.{ChildList}
use Rattle.dom_model.specs.Definitions.{ancestors, Mutation, standing_on}
use Rattle.dom_model.specs.Worlds.World as model

-- what is noted of children that came or went
abbrev pub tree_mutation : ℕ → List ℕ → List ℕ → Option ℕ → Option ℕ → model.World → Mutation
tree_mutation target added removed previous next w = record {
  type = ChildList;
  target = target;
  name = None;
  old_value = None;
  added = added;
  removed = removed;
  previous = previous;
  next = next;
  standing = standing_on (ancestors target w.forest) w.observing.registrations;
}
