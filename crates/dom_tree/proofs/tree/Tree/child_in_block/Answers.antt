-- A child whose index is known stands there.
use Rattle.dom_tree.proofs.SiblingLemmas.{child-indexed, child-held_under}
use Rattle.dom_tree.proofs.tree.Tree.child_in_block.Goals as goal

pub index_within-requires : goal.index_within-requires
index_within-requires g c = child-held_under c.args.self.now.forest c.args.id c.in_ok-near.near c.in_ok-near.ensures

pub child_after-requires-clause-child : goal.child_after-requires-clause-child
child_after-requires-clause-child g c = child-indexed c.state_law.ensures c.args.id c.in_ok-near.near c.in_ok-from.from c.in_ok-near.ensures c.in_ok-from.ensures.counted

pub child_before-requires-clause-child : goal.child_before-requires-clause-child
child_before-requires-clause-child g c = child-indexed c.state_law.ensures c.args.id c.in_ok-near.near c.in_ok-from.from c.in_ok-near.ensures c.in_ok-from.ensures.counted
