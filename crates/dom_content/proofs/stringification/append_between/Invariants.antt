-- What was told up to the node that the walk has come to.
use Rattle.std.proofs.Common.{length}
use Rattle.dom_model.specs.Definitions.{inclusive_descendants, from_first}
use Rattle.dom_content.specs.RangeTexts.{text_within}
use Rattle.dom_content.proofs.WalkedParts.{IsAlong}
use Rattle.dom_content.proofs.stringification.append_between.Given as goal

abbrev pub invariant-loop-start : goal.invariant-loop-start
invariant-loop-start l = IsAlong l.tree (record { start = l.start; end = l.end }) (text_within l.tree.forest (record { start = l.start; end = l.end })) l.root l.stop l.fn.text l.here l.text

abbrev pub decreases-loop-start : goal.decreases-loop-start
decreases-loop-start l = length (from_first l.here (inclusive_descendants l.tree.forest l.root))
