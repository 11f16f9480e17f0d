use Rattle.std.proofs.Common.{sym, ◌∙◌, subst, tests, rules}
use Rattle.std.proofs.lemmas.Result.{on_ok_weaker}
use Rattle.dom_model.specs.Definitions.{remove_all}
use Rattle.dom_edit.specs.Whole.{Follows}
use Rattle.dom_edit.proofs.{StandByEditsLemmas.stand-by_replace_all, ReplaceLemmas.children-held, ReplaceLemmas.parent-emptied, ReplaceLemmas.insertable-only, ReplaceLemmas.come-only, ReplaceLemmas.brought-if_any, ReplaceLemmas.follows-replace_all, KeepsNodesLemmas.stay-there, KeepsNodesLemmas.entering_if_any-held, KeepsNodesLemmas.nodes-then}
use Rattle.dom_edit.proofs.world.World.replace_children_checked.Goals as goal

pub remove_all-requires-clause-held : goal.remove_all-requires-clause-held
remove_all-requires-clause-held c = children-held c.args.self.now c.requires.whole c.args.parent c.as_slice.result.now (c.as_slice.ensures.value ∙ c.in_ok-removed.ensures)

pub insert_if_any-requires-clause-parent_held : goal.insert_if_any-requires-clause-parent_held
insert_if_any-requires-clause-parent_held c =
    parent-emptied c.args.self.now c.remove_all.new.self c.requires.whole c.args.parent c.as_slice.result.now (c.as_slice.ensures.value ∙ c.in_ok-removed.ensures) c.in_ok-remove_all.ensures.removed c.requires.parent_held

pub insert_if_any-requires-clause-allowed : goal.insert_if_any-requires-clause-allowed
insert_if_any-requires-clause-allowed c =
    insertable-only c.args.self.now c.remove_all.new.self c.requires.whole c.args.parent c.as_slice.result.now (c.as_slice.ensures.value ∙ c.in_ok-removed.ensures) c.in_ok-remove_all.ensures.removed c.args.node c.requires.node_held c.requires.allowed

pub insert_if_any-requires-clause-incoming : goal.insert_if_any-requires-clause-incoming
insert_if_any-requires-clause-incoming c =
    come-only c.args.self.now c.remove_all.new.self c.requires.whole c.args.parent c.as_slice.result.now (c.as_slice.ensures.value ∙ c.in_ok-removed.ensures) c.in_ok-remove_all.ensures.removed c.requires.parent_held c.args.node c.requires.node_held c.requires.allowed
    c.in_ok-incoming.incoming c.in_ok-incoming.ensures

pub queue_replaced-requires-clause-parent_held : goal.queue_replaced-requires-clause-parent_held
queue_replaced-requires-clause-parent_held c =
    let v = c.args.self.now in
    let stays = nodes-then v c.remove_all.new.self c.insert_if_any.new.self c.remove_all.ensures.kept c.insert_if_any.ensures.kept in
    stays.labelled.held c.args.parent c.requires.parent_held

pub queue_replaced-requires-clause-added : goal.queue_replaced-requires-clause-added
queue_replaced-requires-clause-added c =
    let v = c.args.self.now in
    let stays = nodes-then v c.remove_all.new.self c.insert_if_any.new.self c.remove_all.ensures.kept c.insert_if_any.ensures.kept in
    stay-there v c.insert_if_any.new.self stays c.nodes_if_any-added.result.now
    (entering_if_any-held v c.requires.whole c.args.node c.requires.node_held c.nodes_if_any-added.result.now (c.nodes_if_any-added.ensures ∙ brought-if_any c.args.self.now.tree.forest c.args.node c.in_ok-incoming.incoming c.in_ok-incoming.ensures))

pub queue_replaced-requires-clause-removed : goal.queue_replaced-requires-clause-removed
queue_replaced-requires-clause-removed c =
    let v = c.args.self.now in
    let stays = nodes-then v c.remove_all.new.self c.insert_if_any.new.self c.remove_all.ensures.kept c.insert_if_any.ensures.kept in
    stay-there v c.insert_if_any.new.self stays c.as_slice-2.result.now
    (children-held v c.requires.whole c.args.parent c.as_slice-2.result.now (c.as_slice-2.ensures.value ∙ c.in_ok-removed.ensures))

pub returns-clause-replaced : goal.returns-clause-replaced
returns-clause-replaced c =
    on_ok_weaker c.queue_replaced.result
    (λ queued.
    follows-replace_all c.args.self.now c.remove_all.new.self c.insert_if_any.new.self c.queue_replaced.new.self c.args.node c.args.parent c.nodes_if_any-added.result.now c.as_slice-2.result.now
    (c.nodes_if_any-added.ensures ∙ brought-if_any c.args.self.now.tree.forest c.args.node c.in_ok-incoming.incoming c.in_ok-incoming.ensures) (c.as_slice-2.ensures.value ∙ c.in_ok-removed.ensures)
    (subst (λ ns. Follows c.args.self.now c.remove_all.new.self (remove_all ns)) (c.as_slice.ensures.value ∙ sym c.as_slice-2.ensures.value) c.in_ok-remove_all.ensures.removed) c.in_ok-insert_if_any.ensures.inserted queued)
    c.queue_replaced.ensures.queued

pub returns-clause-markers : goal.returns-clause-markers
returns-clause-markers c =
    on_ok_weaker c.queue_replaced.result
    (stand-by_replace_all c.args.self.now c.queue_replaced.new.self c.requires.whole c.queue_replaced.ensures.whole c.args.node c.args.parent c.requires.node_held c.requires.allowed) (returns-clause-replaced c)

pub returns-clause-whole : goal.returns-clause-whole
returns-clause-whole c = search (tests, rules)
