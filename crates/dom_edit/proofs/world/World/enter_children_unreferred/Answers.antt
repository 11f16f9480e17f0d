use Rattle.std.proofs.Common.{[], ◌∷◌, false, ap, sym, ◌∙◌, subst, arith, tests, rules}
use Rattle.std.proofs.lemmas.Result.{on_ok_weaker}
use Rattle.dom_model.specs.Definitions.{children_of, remove_all}
use Rattle.dom_model.proofs.Forests.{Entries.HasNode-occurs, Climbing.hits-first}
use Rattle.dom_edit.specs.{declared.world.World.World, Insertion.IsUnreferred, KeptNodes.KeepsNodes, OlderNodes.LeavesAll, Whole.IsWhole, Whole.Follows}
use Rattle.dom_edit.proofs.{InsertLemmas.children-entering, InsertLemmas.follows-freed_children, InsertLemmas.open-freed, InsertLemmas.follows-insert, InsertLemmas.follows-nothing, LeavesOlderLemmas.newer-more, LeavesOlderLemmas.quiet-above, LeavesOlderLemmas.same-left, LeavesOlderLemmas.children-newer, KeepsNodesLemmas.stay-there, KeepsNodesLemmas.nodes-none, KeepsNodesLemmas.nodes-then, ReplaceLemmas.children-held}
use Rattle.dom_edit.proofs.world.World.enter_children_unreferred.Goals as goal

pub reserve_children-requires : goal.reserve_children-requires
reserve_children-requires c = HasNode-occurs c.args.self.now.tree.forest c.args.parent c.requires.allowed.parent_there

pub remove_all_unreferred-requires-clause-whole : goal.remove_all_unreferred-requires-clause-whole
remove_all_unreferred-requires-clause-whole c = subst IsWhole (sym c.reserve_children.ensures) c.requires.whole

pub remove_all_unreferred-requires-clause-nodes : goal.remove_all_unreferred-requires-clause-nodes
remove_all_unreferred-requires-clause-nodes c = c.requires.nodes ∙ ap (λ (w : World). children_of w.tree.forest c.args.node) (sym c.reserve_children.ensures)

pub remove_all_unreferred-requires-clause-unreferred : goal.remove_all_unreferred-requires-clause-unreferred
remove_all_unreferred-requires-clause-unreferred c = subst (λ (w : World). IsUnreferred w c.args.node) (sym c.reserve_children.ensures) c.requires.unreferred

pub queue_emptied-requires-clause-held : goal.queue_emptied-requires-clause-held
queue_emptied-requires-clause-held c =
    let v = c.args.self.now in
    let kept = subst (λ (w : World). KeepsNodes w c.remove_all_unreferred.new.self) c.reserve_children.ensures c.remove_all_unreferred.ensures.kept in
    kept.labelled.held c.args.node (HasNode-occurs v.tree.forest c.args.node c.requires.allowed.there)

pub queue_emptied-requires-clause-nodes : goal.queue_emptied-requires-clause-nodes
queue_emptied-requires-clause-nodes c =
    let v = c.args.self.now in
    let kept = subst (λ (w : World). KeepsNodes w c.remove_all_unreferred.new.self) c.reserve_children.ensures c.remove_all_unreferred.ensures.kept in
    stay-there v c.remove_all_unreferred.new.self kept c.args.nodes.now (children-held v c.requires.whole c.args.node c.args.nodes.now c.requires.nodes)

pub insert_all-requires-clause-ready : goal.insert_all-requires-clause-ready
insert_all-requires-clause-ready c =
    let v = c.args.self.now in
    let n = c.args.node in
    let ns = c.args.nodes.now in
    let left = subst (λ (w : World). Follows w c.remove_all_unreferred.new.self (remove_all ns)) c.reserve_children.ensures c.in_ok-remove_all_unreferred.ensures.removed in
    open-freed v c.queue_emptied.new.self n c.args.parent c.args.child ns c.requires.whole c.requires.allowed (children-entering v.tree.forest n ns c.requires.fragment c.requires.nodes)
    (follows-freed_children v c.remove_all_unreferred.new.self c.queue_emptied.new.self n ns c.requires.fragment left c.in_ok-queue_emptied.ensures.queued)

pub returns-clause-inserted : goal.returns-clause-inserted
returns-clause-inserted c =
    let v = c.args.self.now in
    let n = c.args.node in
    let ns = c.args.nodes.now in
    let left = subst (λ (w : World). Follows w c.remove_all_unreferred.new.self (remove_all ns)) c.reserve_children.ensures c.in_ok-remove_all_unreferred.ensures.removed in
    on_ok_weaker c.insert_all.result
    (follows-insert v c.queue_emptied.new.self c.insert_all.new.self n c.args.parent c.args.child ns false (sym c.is_empty.ensures ∙ c.if-is_empty.false)
    (children-entering v.tree.forest n ns c.requires.fragment c.requires.nodes)
    (follows-freed_children v c.remove_all_unreferred.new.self c.queue_emptied.new.self n ns c.requires.fragment left c.in_ok-queue_emptied.ensures.queued))
    c.insert_all.ensures.inserted

pub returns-then-is_empty-clause-inserted : goal.returns-then-is_empty-clause-inserted
returns-then-is_empty-clause-inserted c =
    follows-nothing c.args.self.now false c.args.node c.args.parent c.args.child c.args.nodes.now
    (children-entering c.args.self.now.tree.forest c.args.node c.args.nodes.now c.requires.fragment c.requires.nodes) (sym c.is_empty.ensures ∙ c.if-is_empty.true)

pub returns-then-is_empty-clause-kept : goal.returns-then-is_empty-clause-kept
returns-then-is_empty-clause-kept c = nodes-none c.args.self.now

pub returns-then-is_empty-clause-whole : goal.returns-then-is_empty-clause-whole
returns-then-is_empty-clause-whole c = search (tests, rules)

pub returns-in_err-remove_all_unreferred-clause-kept : goal.returns-in_err-remove_all_unreferred-clause-kept
returns-in_err-remove_all_unreferred-clause-kept c = subst (λ (w : World). KeepsNodes w c.remove_all_unreferred.new.self) c.reserve_children.ensures c.remove_all_unreferred.ensures.kept

pub returns-in_err-queue_emptied-clause-kept : goal.returns-in_err-queue_emptied-clause-kept
returns-in_err-queue_emptied-clause-kept c =
    nodes-then c.args.self.now c.remove_all_unreferred.new.self c.queue_emptied.new.self
    (subst (λ (w : World). KeepsNodes w c.remove_all_unreferred.new.self) c.reserve_children.ensures c.remove_all_unreferred.ensures.kept) c.queue_emptied.ensures.kept

pub returns-clause-kept : goal.returns-clause-kept
returns-clause-kept c =
    nodes-then c.args.self.now c.queue_emptied.new.self c.insert_all.new.self
    (nodes-then c.args.self.now c.remove_all_unreferred.new.self c.queue_emptied.new.self
    (subst (λ (w : World). KeepsNodes w c.remove_all_unreferred.new.self) c.reserve_children.ensures c.remove_all_unreferred.ensures.kept) c.queue_emptied.ensures.kept)
    c.insert_all.ensures.kept

pub returns-clause-whole : goal.returns-clause-whole
returns-clause-whole c = search (tests, rules)

pub returns-then-is_empty-clause-left : goal.returns-then-is_empty-clause-left
returns-then-is_empty-clause-left c last a h newer l = l

pub returns-in_err-remove_all_unreferred-clause-left : goal.returns-in_err-remove_all_unreferred-clause-left
returns-in_err-remove_all_unreferred-clause-left c last a h newer l =
    c.remove_all_unreferred.ensures.left a h (λ k i. newer k (omega arith)) (subst (LeavesAll a) (sym c.reserve_children.ensures) l)

pub returns-in_err-queue_emptied-clause-left : goal.returns-in_err-queue_emptied-clause-left
returns-in_err-queue_emptied-clause-left c last a h newer l =
    let n = c.args.node in
    let mid = c.remove_all_unreferred.new.self in
    let below = newer n (let i = hits-first n [] in omega arith) in
    let m = c.remove_all_unreferred.ensures.left a h (λ k i. newer k (omega arith)) (subst (LeavesAll a) (sym c.reserve_children.ensures) l) in
    same-left a h mid c.queue_emptied.new.self (c.queue_emptied.ensures.quiet (quiet-above a h mid m c.remove_all_unreferred.ensures.whole.forest.once n below)) m

pub returns-clause-left : goal.returns-clause-left
returns-clause-left c last a h newer l =
    let v = c.args.self.now in
    let p = c.args.parent in
    let n = c.args.node in
    let ns = c.args.nodes.now in
    let mid = c.remove_all_unreferred.new.self in
    let below = newer n (let i = hits-first n [] in omega arith) in
    let m = c.remove_all_unreferred.ensures.left a h (λ k i. newer k (omega arith)) (subst (LeavesAll a) (sym c.reserve_children.ensures) l) in
    let each = children-newer a h v l c.requires.whole.forest.once n below ns c.requires.nodes in
    c.insert_all.ensures.left last a h (newer-more a h p ns (newer p (hits-first p (n ∷ []))) each)
    (same-left a h mid c.queue_emptied.new.self (c.queue_emptied.ensures.quiet (quiet-above a h mid m c.remove_all_unreferred.ensures.whole.forest.once n below)) m)
