-- The Texts up to the node that the walk has come to.
use Rattle.std.proofs.Common.{length}
use Rattle.dom_model.specs.Definitions.{inclusive_descendants, from_first}
use Rattle.dom_data.proofs.TextsBelow.{IsCollecting}
use Rattle.dom_data.proofs.normalization.texts_below.Given as goal

abbrev pub invariant-loop-next : goal.invariant-loop-next
invariant-loop-next l = IsCollecting l.tree l.top l.here l.texts.items

abbrev pub decreases-loop-next : goal.decreases-loop-next
decreases-loop-next l = length (from_first l.here (inclusive_descendants l.tree.forest l.top))
