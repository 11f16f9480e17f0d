-- What was gathered up to the node that the walk has come to.
use Rattle.std.proofs.Common.{length}
use Rattle.dom_model.specs.Definitions.{inclusive_descendants, from_first}
use Rattle.dom_data.proofs.GatheredLemmas.{IsGathering}
use Rattle.dom_data.proofs.text_contents.descendant_text.Given as goal

abbrev pub invariant-loop-next : goal.invariant-loop-next
invariant-loop-next l = IsGathering l.tree l.top l.here l.text

abbrev pub decreases-loop-next : goal.decreases-loop-next
decreases-loop-next l = length (from_first l.here (inclusive_descendants l.tree.forest l.top))
