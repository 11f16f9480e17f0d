-- The Texts up to the sibling that the walk has come to.
use Rattle.std.proofs.Common.{length}
use Rattle.dom_model.specs.Definitions.{siblings_in, entry_in, past}
use Rattle.dom_data.proofs.FollowingTexts.{IsFollowing}
use Rattle.dom_data.proofs.normalization.texts_behind.Given as goal

abbrev pub invariant-loop-next : goal.invariant-loop-next
invariant-loop-next l = IsFollowing l.tree.forest l.fn.node l.here l.texts.items

abbrev pub decreases-loop-next : goal.decreases-loop-next
decreases-loop-next l = length (past l.here (siblings_in (entry_in l.tree.forest) l.fn.node))
