-- The child that was found stands at the index.
use Rattle.std.proofs.Common.{sym}
use Rattle.dom_model.proofs.Forests.Siblings.{child-held}
use Rattle.dom_tree.proofs.SiblingLemmas.{indexed-child}
use Rattle.dom_tree.proofs.tree.Tree.found_child.Goals as goal

pub cache_index-requires-clause-held : goal.cache_index-requires-clause-held
cache_index-requires-clause-held g c = child-held c.state_law.ensures c.args.id c.in_ok-child.child c.args.index c.requires (sym c.in_ok-child.ensures)

pub cache_index-requires-clause-index : goal.cache_index-requires-clause-index
cache_index-requires-clause-index g c = indexed-child c.state_law.ensures c.args.id c.in_ok-child.child c.args.index (sym c.in_ok-child.ensures)
