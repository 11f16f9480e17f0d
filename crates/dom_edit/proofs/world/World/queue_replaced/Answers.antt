use Rattle.std.proofs.Common.{sym, ◌∙◌, tests, rules}
use Rattle.std.proofs.lemmas.Result.{on_ok_weaker}
use Rattle.dom_edit.proofs.{KeepsNodesLemmas.nodes-observed, ReplaceLemmas.follows-added, ReplaceLemmas.follows-removed, world.World.queue_replaced.Goals.else-is_empty-via-then-is_empty+else-is_empty-2, world.World.queue_replaced.Goals.else-is_empty-via-else-is_empty}
use Rattle.dom_edit.proofs.world.World.queue_replaced.Goals as goal

pub returns-clause-queued : goal.returns-clause-queued
returns-clause-queued c =
    let old = c.args.self.now in
    let new = c.queue_tree_record.new.self in
    elim c.else-is_empty.branch [
      | else-is_empty-via-then-is_empty+else-is_empty-2 w ↦
          on_ok_weaker c.queue_tree_record.result
          (follows-removed old new c.args.parent c.args.added.now c.args.removed.now (sym w.is_empty-then-is_empty.ensures ∙ w.if-is_empty-2.false)) c.queue_tree_record.ensures.queued
      | else-is_empty-via-else-is_empty w ↦
          on_ok_weaker c.queue_tree_record.result
          (follows-added old new c.args.parent c.args.added.now c.args.removed.now (sym c.is_empty.ensures ∙ w.if-is_empty.false)) c.queue_tree_record.ensures.queued
    ]

pub queue_tree_record-requires-clause-previous : goal.queue_tree_record-requires-clause-previous
queue_tree_record-requires-clause-previous c n e = absurd (cc e)

pub queue_tree_record-requires-clause-next : goal.queue_tree_record-requires-clause-next
queue_tree_record-requires-clause-next c n e = absurd (cc e)

pub returns-then-is_empty-2-clause-queued : goal.returns-then-is_empty-2-clause-queued
returns-then-is_empty-2-clause-queued c = search (tests, rules)

pub returns-then-is_empty-2-clause-whole : goal.returns-then-is_empty-2-clause-whole
returns-then-is_empty-2-clause-whole c = search (tests, rules)

pub returns-clause-whole : goal.returns-clause-whole
returns-clause-whole c = search (tests, rules)

pub returns-clause-kept : goal.returns-clause-kept
returns-clause-kept c = nodes-observed c.args.self.now c.queue_tree_record.new.self c.queue_tree_record.ensures.parts c.queue_tree_record.ensures.observers
