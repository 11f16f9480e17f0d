-- A place for each number.
use Rattle.std.proofs.Common.{◌∙◌}
use Rattle.dom_tree.proofs.PlaceTableLemmas.{made-read}
use Rattle.dom_tree.proofs.tree.Tree.made.Goals as goal

pub returns : goal.returns
returns g c = c.len.ensures ∙ made-read c.self.invariant c.self.view_is
