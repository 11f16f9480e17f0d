use Rattle.std.proofs.Common.{ap, ◌∙◌, tests, rules}
use Rattle.dom_edit.proofs.{StandByEditsLemmas.stand-by_replace, InsertLemmas.brought-entering, ReplaceLemmas.insertable-instead, ReplaceLemmas.come-instead, ReplaceLemmas.follows-replace, KeepsNodesLemmas.one-there, KeepsNodesLemmas.stay-there, KeepsNodesLemmas.stay-some, KeepsNodesLemmas.previous-held, KeepsNodesLemmas.next-held, KeepsNodesLemmas.entering-held, KeepsNodesLemmas.reference-held, KeepsNodesLemmas.nodes-then}
use Rattle.dom_edit.specs.Insertion.{reference_in}
use Rattle.dom_edit.proofs.world.World.check_and_replace.Goals as goal

pub enter-requires-clause-allowed : goal.enter-requires-clause-allowed
enter-requires-clause-allowed c =
    let v = c.args.self.now in
    let r = c.reference_child-reference.ensures ∙ ap (reference_in v.tree.forest c.args.node) c.next-following.ensures in
    insertable-instead v c.remove_node.new.self c.requires.whole c.args.child c.args.node c.args.parent c.reference_child-reference.result c.requires.node_held c.in_default.ensures r c.in_ok-remove_node.ensures.removed

pub enter-requires-clause-incoming : goal.enter-requires-clause-incoming
enter-requires-clause-incoming c =
    let v = c.args.self.now in
    let r = c.reference_child-reference.ensures ∙ ap (reference_in v.tree.forest c.args.node) c.next-following.ensures in
    come-instead v c.remove_node.new.self c.requires.whole c.args.child c.args.node c.args.parent c.reference_child-reference.result c.requires.node_held c.in_default.ensures r c.in_ok-remove_node.ensures.removed
    c.in_ok-incoming.incoming c.in_ok-incoming.ensures

pub queue_tree_record-requires-clause-held : goal.queue_tree_record-requires-clause-held
queue_tree_record-requires-clause-held c =
    let v = c.args.self.now in
    let child = c.args.child in
    let stays = nodes-then v c.remove_node.new.self c.enter.new.self c.remove_node.ensures.kept c.enter.ensures.kept in
    stays.labelled.held c.args.parent c.requires.parent_held

pub queue_tree_record-requires-clause-added : goal.queue_tree_record-requires-clause-added
queue_tree_record-requires-clause-added c =
    let v = c.args.self.now in
    let child = c.args.child in
    let stays = nodes-then v c.remove_node.new.self c.enter.new.self c.remove_node.ensures.kept c.enter.ensures.kept in
    stay-there v c.enter.new.self stays c.nodes.result.now
    (entering-held v c.requires.whole c.args.node c.requires.node_held c.nodes.result.now (c.nodes.ensures ∙ brought-entering v.tree.forest c.args.node c.in_ok-incoming.incoming c.in_ok-incoming.ensures))

pub queue_tree_record-requires-clause-removed : goal.queue_tree_record-requires-clause-removed
queue_tree_record-requires-clause-removed c =
    let v = c.args.self.now in
    let child = c.args.child in
    let stays = nodes-then v c.remove_node.new.self c.enter.new.self c.remove_node.ensures.kept c.enter.ensures.kept in
    one-there c.enter.new.self.tree.forest child (stays.labelled.held child c.requires.child_held)

pub queue_tree_record-requires-clause-previous : goal.queue_tree_record-requires-clause-previous
queue_tree_record-requires-clause-previous c =
    let v = c.args.self.now in
    let child = c.args.child in
    let stays = nodes-then v c.remove_node.new.self c.enter.new.self c.remove_node.ensures.kept c.enter.ensures.kept in
    stay-some v c.enter.new.self stays c.prev-previous.result
    (previous-held v c.requires.whole child c.requires.child_held c.prev-previous.result c.prev-previous.ensures)

pub queue_tree_record-requires-clause-next : goal.queue_tree_record-requires-clause-next
queue_tree_record-requires-clause-next c =
    let v = c.args.self.now in
    let child = c.args.child in
    let stays = nodes-then v c.remove_node.new.self c.enter.new.self c.remove_node.ensures.kept c.enter.ensures.kept in
    stay-some v c.enter.new.self stays c.reference_child-reference.result
    (reference-held v c.requires.whole c.args.node c.next-following.result c.reference_child-reference.result c.requires.node_held
    (next-held v c.requires.whole child c.requires.child_held c.next-following.result c.next-following.ensures) c.reference_child-reference.ensures)

pub returns-clause-replaced : goal.returns-clause-replaced
returns-clause-replaced c =
    let v = c.args.self.now in
    let r = c.reference_child-reference.ensures ∙ ap (reference_in v.tree.forest c.args.node) c.next-following.ensures in
    follows-replace v c.remove_node.new.self c.enter.new.self c.queue_tree_record.new.self c.args.child c.args.node c.args.parent c.prev-previous.result c.reference_child-reference.result c.nodes.result.now
    c.prev-previous.ensures r (c.nodes.ensures ∙ brought-entering v.tree.forest c.args.node c.in_ok-incoming.incoming c.in_ok-incoming.ensures) c.in_ok-remove_node.ensures.removed c.in_ok-enter.ensures.inserted c.in_ok-queue_tree_record.ensures.queued

pub returns-clause-markers : goal.returns-clause-markers
returns-clause-markers c =
    let v = c.args.self.now in
    let r = c.reference_child-reference.ensures ∙ ap (reference_in v.tree.forest c.args.node) c.next-following.ensures in
    stand-by_replace v c.queue_tree_record.new.self c.requires.whole c.queue_tree_record.ensures.whole c.args.child c.args.node c.args.parent c.requires.node_held c.in_default.ensures
    (follows-replace v c.remove_node.new.self c.enter.new.self c.queue_tree_record.new.self c.args.child c.args.node c.args.parent c.prev-previous.result c.reference_child-reference.result c.nodes.result.now
    c.prev-previous.ensures r (c.nodes.ensures ∙ brought-entering v.tree.forest c.args.node c.in_ok-incoming.incoming c.in_ok-incoming.ensures) c.in_ok-remove_node.ensures.removed c.in_ok-enter.ensures.inserted c.in_ok-queue_tree_record.ensures.queued)

pub returns-in-Err-clause-allowed : goal.returns-in-Err-clause-allowed
returns-in-Err-clause-allowed c = search (tests, rules)

pub returns-in-Err-clause-replaced : goal.returns-in-Err-clause-replaced
returns-in-Err-clause-replaced c = search (tests, rules)

pub returns-in-Err-clause-markers : goal.returns-in-Err-clause-markers
returns-in-Err-clause-markers c = search (tests, rules)

pub returns-in-Err-clause-refused : goal.returns-in-Err-clause-refused
returns-in-Err-clause-refused c = search (tests, rules)

pub returns-in-Err-clause-whole : goal.returns-in-Err-clause-whole
returns-in-Err-clause-whole c = search (tests, rules)

pub returns-clause-allowed : goal.returns-clause-allowed
returns-clause-allowed c = search (tests, rules)

pub returns-clause-refused : goal.returns-clause-refused
returns-clause-refused c = search (tests, rules)

pub returns-clause-whole : goal.returns-clause-whole
returns-clause-whole c = search (tests, rules)
