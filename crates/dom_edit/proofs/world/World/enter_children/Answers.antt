use Rattle.std.proofs.Common.{sym, ◌∙◌, subst, tests, rules}
use Rattle.std.proofs.lemmas.Result.{on_ok_weaker}
use Rattle.dom_model.specs.Definitions.{remove_all}
use Rattle.dom_model.proofs.Forests.Entries.{HasNode-occurs}
use Rattle.dom_edit.specs.{declared.world.World.World, Insertion.AreThere, KeptNodes.KeepsNodes, Whole.IsWhole, Whole.Follows}
use Rattle.dom_edit.proofs.{InsertLemmas.children-entering, InsertLemmas.follows-freed_children, InsertLemmas.open-freed, InsertLemmas.follows-insert, InsertLemmas.follows-nothing, KeepsNodesLemmas.stay-there, KeepsNodesLemmas.nodes-none, KeepsNodesLemmas.nodes-then, ReplaceLemmas.children-held}
use Rattle.dom_edit.proofs.world.World.enter_children.Goals as goal

pub reserve_children-requires : goal.reserve_children-requires
reserve_children-requires c = HasNode-occurs c.args.self.now.tree.forest c.args.parent c.requires.allowed.parent_there

pub remove_all-requires-clause-whole : goal.remove_all-requires-clause-whole
remove_all-requires-clause-whole c = subst IsWhole (sym c.reserve_children.ensures) c.requires.whole

pub remove_all-requires-clause-held : goal.remove_all-requires-clause-held
remove_all-requires-clause-held c =
    subst (λ (w : World). AreThere w.tree.forest c.args.nodes.now) (sym c.reserve_children.ensures)
    (children-held c.args.self.now c.requires.whole c.args.node c.args.nodes.now c.requires.nodes)

pub queue_emptied-requires-clause-held : goal.queue_emptied-requires-clause-held
queue_emptied-requires-clause-held c =
    let v = c.args.self.now in
    let kept = subst (λ (w : World). KeepsNodes w c.remove_all.new.self) c.reserve_children.ensures c.remove_all.ensures.kept in
    kept.labelled.held c.args.node (HasNode-occurs v.tree.forest c.args.node c.requires.allowed.there)

pub queue_emptied-requires-clause-nodes : goal.queue_emptied-requires-clause-nodes
queue_emptied-requires-clause-nodes c =
    let v = c.args.self.now in
    let kept = subst (λ (w : World). KeepsNodes w c.remove_all.new.self) c.reserve_children.ensures c.remove_all.ensures.kept in
    stay-there v c.remove_all.new.self kept c.args.nodes.now (children-held v c.requires.whole c.args.node c.args.nodes.now c.requires.nodes)

pub insert_all-requires-clause-ready : goal.insert_all-requires-clause-ready
insert_all-requires-clause-ready c =
    let v = c.args.self.now in
    let n = c.args.node in
    let ns = c.args.nodes.now in
    let left = subst (λ (w : World). Follows w c.remove_all.new.self (remove_all ns)) c.reserve_children.ensures c.in_ok-remove_all.ensures.removed in
    open-freed v c.queue_emptied.new.self n c.args.parent c.args.child ns c.requires.whole c.requires.allowed (children-entering v.tree.forest n ns c.requires.fragment c.requires.nodes)
    (follows-freed_children v c.remove_all.new.self c.queue_emptied.new.self n ns c.requires.fragment left c.in_ok-queue_emptied.ensures.queued)

pub returns-clause-inserted : goal.returns-clause-inserted
returns-clause-inserted c =
    let v = c.args.self.now in
    let n = c.args.node in
    let ns = c.args.nodes.now in
    let left = subst (λ (w : World). Follows w c.remove_all.new.self (remove_all ns)) c.reserve_children.ensures c.in_ok-remove_all.ensures.removed in
    on_ok_weaker c.insert_all.result
    (follows-insert v c.queue_emptied.new.self c.insert_all.new.self n c.args.parent c.args.child ns c.args.suppressed (sym c.is_empty.ensures ∙ c.if-is_empty.false)
    (children-entering v.tree.forest n ns c.requires.fragment c.requires.nodes)
    (follows-freed_children v c.remove_all.new.self c.queue_emptied.new.self n ns c.requires.fragment left c.in_ok-queue_emptied.ensures.queued))
    c.insert_all.ensures.inserted

pub returns-then-is_empty-clause-inserted : goal.returns-then-is_empty-clause-inserted
returns-then-is_empty-clause-inserted c =
    follows-nothing c.args.self.now c.args.suppressed c.args.node c.args.parent c.args.child c.args.nodes.now
    (children-entering c.args.self.now.tree.forest c.args.node c.args.nodes.now c.requires.fragment c.requires.nodes) (sym c.is_empty.ensures ∙ c.if-is_empty.true)

pub returns-then-is_empty-clause-kept : goal.returns-then-is_empty-clause-kept
returns-then-is_empty-clause-kept c = nodes-none c.args.self.now

pub returns-then-is_empty-clause-whole : goal.returns-then-is_empty-clause-whole
returns-then-is_empty-clause-whole c = search (tests, rules)

pub returns-in_err-remove_all-clause-kept : goal.returns-in_err-remove_all-clause-kept
returns-in_err-remove_all-clause-kept c = subst (λ (w : World). KeepsNodes w c.remove_all.new.self) c.reserve_children.ensures c.remove_all.ensures.kept

pub returns-in_err-queue_emptied-clause-kept : goal.returns-in_err-queue_emptied-clause-kept
returns-in_err-queue_emptied-clause-kept c =
    nodes-then c.args.self.now c.remove_all.new.self c.queue_emptied.new.self
    (subst (λ (w : World). KeepsNodes w c.remove_all.new.self) c.reserve_children.ensures c.remove_all.ensures.kept) c.queue_emptied.ensures.kept

pub returns-clause-kept : goal.returns-clause-kept
returns-clause-kept c =
    nodes-then c.args.self.now c.queue_emptied.new.self c.insert_all.new.self
    (nodes-then c.args.self.now c.remove_all.new.self c.queue_emptied.new.self
    (subst (λ (w : World). KeepsNodes w c.remove_all.new.self) c.reserve_children.ensures c.remove_all.ensures.kept) c.queue_emptied.ensures.kept)
    c.insert_all.ensures.kept

pub returns-clause-whole : goal.returns-clause-whole
returns-clause-whole c = search (tests, rules)
