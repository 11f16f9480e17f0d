-- To set the documents from where the walk stands on is to set them all.
use Rattle.std.proofs.Common.{length}
use Rattle.dom_model.specs.Definitions.{inclusive_descendants, from_first}
use Rattle.dom_tree.proofs.SetDocumentLemmas.{Adopts}
use Rattle.dom_tree.proofs.tree.Tree.set_document.Given as goal

abbrev pub invariant-loop-next : goal.invariant-loop-next
invariant-loop-next g l = Adopts l.initial.self l.self l.top l.document l.here

abbrev pub decreases-loop-next : goal.decreases-loop-next
decreases-loop-next g l = length (from_first l.here (inclusive_descendants l.self.forest l.top))
