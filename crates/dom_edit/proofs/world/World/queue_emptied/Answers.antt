use Rattle.dom_edit.proofs.KeepsNodesLemmas.{none-there, nodes-observed}
use Rattle.dom_edit.proofs.world.World.queue_emptied.Goals as goal

pub queue_tree_record-requires-clause-added : goal.queue_tree_record-requires-clause-added
queue_tree_record-requires-clause-added c = none-there c.args.self.now.tree.forest

pub queue_tree_record-requires-clause-previous : goal.queue_tree_record-requires-clause-previous
queue_tree_record-requires-clause-previous c n e = absurd (cc e)

pub queue_tree_record-requires-clause-next : goal.queue_tree_record-requires-clause-next
queue_tree_record-requires-clause-next c n e = absurd (cc e)

pub returns-clause-kept : goal.returns-clause-kept
returns-clause-kept c = nodes-observed c.args.self.now c.queue_tree_record.new.self c.queue_tree_record.ensures.parts c.queue_tree_record.ensures.observers
