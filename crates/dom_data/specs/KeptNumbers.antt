-- What changes of data leave, also where memory was wanting half-way. Ours.
use Rattle.std.specs.Prelude.{◌≡◌}
use Rattle.dom_edit.specs.declared.world.World.{World}
use Rattle.dom_edit.specs.KeptNodes.{KeepsLabels}

-- what `KeepsLabels` says, of nodes, their labels and attributes, and of all that watches; and no number was given out
pub record KeepsNumbers (old new : World) : Type 0 where
  pub labelled : KeepsLabels old new
  pub made : new.tree.made ≡ old.tree.made
