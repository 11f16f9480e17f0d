use Rattle.std.proofs.Common.{◌-◌, length, vec_len}
use Rattle.dom_model.specs.Definitions.{tree_rows}
use Rattle.dom_session.proofs.PrintingLemmas.{IsPrinting}
use Rattle.dom_session.proofs.tree_rows.rows_of.Given as goal

abbrev pub invariant-loop-next : goal.invariant-loop-next
invariant-loop-next l = IsPrinting l.tree.forest (tree_rows l.tree.forest l.fn.top) l.rows.items l.waiting.items

abbrev pub decreases-loop-next : goal.decreases-loop-next
decreases-loop-next l = length (tree_rows l.tree.forest l.fn.top) - vec_len l.rows
