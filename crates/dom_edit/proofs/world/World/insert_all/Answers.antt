use Rattle.std.proofs.Common.{sym, subst}
use Rattle.dom_model.proofs.Forests.{Entries.HasNode-occurs, Climbing.hits-first}
use Rattle.dom_model.specs.Definitions.{insert_all}
use Rattle.dom_edit.specs.{OlderNodes.LeavesAll, Whole.Follows}
use Rattle.dom_edit.proofs.{InsertLemmas.follows-insert_all, LeavesOlderLemmas.quiet-above, LeavesOlderLemmas.same-left, KeepsNodesLemmas.placeable-there, KeepsNodesLemmas.ahead-held, UnobservedLemmas.follows-unheard}
use Rattle.dom_edit.proofs.world.World.insert_all.Goals as goal

pub queue_tree_record-requires-clause-held : goal.queue_tree_record-requires-clause-held
queue_tree_record-requires-clause-held c = HasNode-occurs c.args.self.now.tree.forest c.args.parent c.requires.ready.parent_there

pub queue_tree_record-requires-clause-added : goal.queue_tree_record-requires-clause-added
queue_tree_record-requires-clause-added c = placeable-there c.args.self.now.tree.forest c.args.parent c.args.nodes.now c.requires.ready.placeable

pub queue_tree_record-requires-clause-previous : goal.queue_tree_record-requires-clause-previous
queue_tree_record-requires-clause-previous c =
    ahead-held c.args.self.now c.requires.whole c.args.parent c.args.child c.requires.ready.before_child c.previous_to-previous.result c.previous_to-previous.ensures

pub returns-in_err-queue_tree_record-clause-left : goal.returns-in_err-queue_tree_record-clause-left
returns-in_err-queue_tree_record-clause-left c last a h newer l =
    let v = c.args.self.now in
    let p = c.args.parent in
    same-left a h v c.queue_tree_record.new.self (c.queue_tree_record.ensures.quiet (quiet-above a h v l c.requires.whole.forest.once p (newer p (hits-first p c.args.nodes.now)))) l

pub returns-clause-inserted : goal.returns-clause-inserted
returns-clause-inserted c =
    follows-insert_all c.args.self.now c.queue_tree_record.new.self c.place-2.new.self c.args.parent c.args.child c.args.nodes.now c.args.suppressed c.previous_to-previous.result
    c.requires.whole c.requires.ready c.if-suppressed.false c.previous_to-previous.ensures c.in_ok-queue_tree_record.ensures.queued c.place-2.ensures.placed

pub returns-clause-left : goal.returns-clause-left
returns-clause-left c last a h newer l =
    let v = c.args.self.now in
    let p = c.args.parent in
    let mid = c.queue_tree_record.new.self in
    let m : LeavesAll a mid = same-left a h v mid (c.queue_tree_record.ensures.quiet (quiet-above a h v l c.requires.whole.forest.once p (newer p (hits-first p c.args.nodes.now)))) l in
    c.place-2.ensures.left last a h newer m

pub returns-then-suppressed-clause-inserted : goal.returns-then-suppressed-clause-inserted
returns-then-suppressed-clause-inserted c =
    let p = c.args.parent in
    let before = c.args.child in
    let ns = c.args.nodes.now in
    elim c.then-suppressed.branch [
      | goal.then-suppressed-via-then-suppressed w ↦ subst (λ b. Follows c.args.self.now c.place.new.self (insert_all b p before ns)) (sym w.if-suppressed.true) c.place.ensures.placed
      | goal.then-suppressed-via-else-suppressed+then-is_idle w ↦
          follows-unheard c.args.self.now c.place.new.self c.args.suppressed p before ns (λ x o. w.is_idle.ensures.idle x o w.if-is_idle.true) c.place.ensures.placed
    ]
