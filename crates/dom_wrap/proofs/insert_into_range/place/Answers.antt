use Rattle.std.proofs.Common.{false, tests, rules}
use Rattle.dom_model.proofs.Forests.Entries.{HasNode-occurs, occurs-HasNode}
use Rattle.dom_edit.proofs.{InsertLemmas.there-removed, KeepsNodesLemmas.labels-then}
use Rattle.dom_wrap.proofs.InsertedNode.{passes-out, placed-allowed, may-end, follows-placed}
use Rattle.dom_wrap.proofs.insert_into_range.place.Goals as goal

pub offset_past-offset-requires-clause-node_held : goal.offset_past-offset-requires-clause-node_held
offset_past-offset-requires-clause-node_held c =
    let v = c.args.world.now in
    let n = c.args.node in
    let there = occurs-HasNode v.tree.forest n c.requires.held in
    HasNode-occurs c.remove.new.self.tree.forest n (there-removed v c.remove.new.self n false c.requires.whole there c.in_ok-remove.ensures.removed n there)

pub offset_past-offset-requires-clause-allowed : goal.offset_past-offset-requires-clause-allowed
offset_past-offset-requires-clause-allowed c = passes-out c.args.world.now c.remove.new.self c.args.range c.args.node c.args.parent c.args.reference c.in_ok-remove.ensures.removed c.requires.placeable

pub insert_checked-requires-clause-node_held : goal.insert_checked-requires-clause-node_held
insert_checked-requires-clause-node_held c =
    let v = c.args.world.now in
    let n = c.args.node in
    let there = occurs-HasNode v.tree.forest n c.requires.held in
    HasNode-occurs c.remove.new.self.tree.forest n (there-removed v c.remove.new.self n false c.requires.whole there c.in_ok-remove.ensures.removed n there)

pub insert_checked-requires-clause-allowed : goal.insert_checked-requires-clause-allowed
insert_checked-requires-clause-allowed c = passes-out c.args.world.now c.remove.new.self c.args.range c.args.node c.args.parent c.args.reference c.in_ok-remove.ensures.removed c.requires.placeable

pub end_if_collapsed-requires-clause-sound : goal.end_if_collapsed-requires-clause-sound
end_if_collapsed-requires-clause-sound c =
    let passes = passes-out c.args.world.now c.remove.new.self c.args.range c.args.node c.args.parent c.args.reference c.in_ok-remove.ensures.removed c.requires.placeable in
    may-end c.args.world.now c.remove.new.self c.insert_checked.new.self c.args.range c.args.node c.args.parent c.args.reference c.offset_past-offset.result c.in_ok-remove.ensures.removed c.offset_past-offset.ensures passes
    c.in_ok-insert_checked.ensures.inserted c.requires.placeable

pub returns-clause-allowed : goal.returns-clause-allowed
returns-clause-allowed c =
    let passes = passes-out c.args.world.now c.remove.new.self c.args.range c.args.node c.args.parent c.args.reference c.in_ok-remove.ensures.removed c.requires.placeable in
    placed-allowed c.args.world.now c.remove.new.self c.insert_checked.new.self c.args.range c.args.node c.args.parent c.args.reference c.offset_past-offset.result c.in_ok-remove.ensures.removed c.offset_past-offset.ensures passes

pub returns-clause-placed : goal.returns-clause-placed
returns-clause-placed c =
    let passes = passes-out c.args.world.now c.remove.new.self c.args.range c.args.node c.args.parent c.args.reference c.in_ok-remove.ensures.removed c.requires.placeable in
    follows-placed c.args.world.now c.remove.new.self c.insert_checked.new.self c.args.range c.args.node c.args.parent c.args.reference c.offset_past-offset.result c.in_ok-remove.ensures.removed c.offset_past-offset.ensures passes
    c.in_ok-insert_checked.ensures.inserted c.end_if_collapsed.new.world c.end_if_collapsed.ensures.ended

pub returns-clause-whole : goal.returns-clause-whole
returns-clause-whole c = search (tests, rules)

pub returns-clause-kept : goal.returns-clause-kept
returns-clause-kept c =
    let placed = c.insert_checked.new.self in
    let behind = labels-then c.remove.new.self placed c.end_if_collapsed.new.world c.in_ok-insert_checked.ensures.kept.labelled c.end_if_collapsed.ensures.kept in
    labels-then c.args.world.now c.remove.new.self c.end_if_collapsed.new.world c.in_ok-remove.ensures.kept.labelled behind
