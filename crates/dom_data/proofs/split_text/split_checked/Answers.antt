-- An empty Text, its place behind the old one, and what is beyond the offset in it.
use Rattle.std.proofs.Common.{ℕ, ◌-◌, List, length, ap, sym, ◌∙◌, subst}
use Rattle.dom_model.specs.Definitions.{split, Content}
use Rattle.dom_edit.specs.{declared.world.World.World, KeptNodes.KeepsLabels, Whole.IsWhole, Whole.Follows}
use Rattle.dom_edit.proofs.KeepsNodesLemmas.{labels-then, nodes-observed}
use Rattle.dom_data.specs.Tails.{HasNextSibling}
use Rattle.dom_data.proofs.{PutBehindLemmas.is-tail, StandByEditsLemmas.stand-by_split}
use Rattle.dom_data.proofs.SplitSteps as steps
use Rattle.dom_data.proofs.split_text.split_checked.Goals as goal

pub put_behind-requires-clause-tail : goal.put_behind-requires-clause-tail
put_behind-requires-clause-tail c =
    is-tail c.args.world.now c.make_text.new.world c.args.node c.document_in-document.result c.in_ok-new.new c.new.result c.requires.whole c.requires.kind
    c.document_in-document.ensures.document c.in_ok-new.ensures.number c.new.ensures c.in_ok-new.ensures.made

pub move_tail-requires-clause-new_held : goal.move_tail-requires-clause-new_held
move_tail-requires-clause-new_held c =
    steps.new-told c.args.world.now c.make_text.new.world c.put_behind.new.world c.queue_data_record.new.world c.args.node c.args.offset c.document_in-document.result c.in_ok-new.new c.new.result
    c.requires.whole c.requires.kind c.requires.within c.document_in-document.ensures.document c.in_ok-new.ensures.number c.new.ensures c.in_ok-new.ensures.made c.put_behind.ensures.kept c.queue_data_record.ensures.kept

pub move_tail-requires-clause-within : goal.move_tail-requires-clause-within
move_tail-requires-clause-within c =
    steps.within-told c.args.world.now c.make_text.new.world c.put_behind.new.world c.queue_data_record.new.world c.args.node c.args.offset c.document_in-document.result c.in_ok-new.new c.new.result
    c.requires.whole c.requires.kind c.requires.within c.document_in-document.ensures.document c.in_ok-new.ensures.number c.new.ensures c.in_ok-new.ensures.made c.put_behind.ensures.kept c.queue_data_record.ensures.kept

pub move_tail-requires-clause-bare : goal.move_tail-requires-clause-bare
move_tail-requires-clause-bare c =
    steps.bare-told c.args.world.now c.make_text.new.world c.put_behind.new.world c.queue_data_record.new.world c.args.node c.args.offset c.document_in-document.result c.in_ok-new.new c.new.result
    c.requires.whole c.requires.kind c.requires.within c.document_in-document.ensures.document c.in_ok-new.ensures.number c.new.ensures c.in_ok-new.ensures.made c.put_behind.ensures.kept c.queue_data_record.ensures.kept

pub split_ends-requires-clause-held : goal.split_ends-requires-clause-held
split_ends-requires-clause-held c =
    steps.held-moved c.queue_data_record.new.world c.args.node c.args.offset c.in_ok-new.new c.move_tail.new.tree c.in_ok-move_tail.ensures.ok c.args.node
    (steps.held-told c.args.world.now c.make_text.new.world c.put_behind.new.world c.queue_data_record.new.world c.args.node c.args.offset c.document_in-document.result c.in_ok-new.new c.new.result
    c.requires.whole c.requires.kind c.requires.within c.document_in-document.ensures.document c.in_ok-new.ensures.number c.new.ensures c.in_ok-new.ensures.made c.put_behind.ensures.kept c.queue_data_record.ensures.kept)

pub split_ends-requires-clause-new_held : goal.split_ends-requires-clause-new_held
split_ends-requires-clause-new_held c =
    steps.held-moved c.queue_data_record.new.world c.args.node c.args.offset c.in_ok-new.new c.move_tail.new.tree c.in_ok-move_tail.ensures.ok c.in_ok-new.new
    (steps.new-told c.args.world.now c.make_text.new.world c.put_behind.new.world c.queue_data_record.new.world c.args.node c.args.offset c.document_in-document.result c.in_ok-new.new c.new.result
    c.requires.whole c.requires.kind c.requires.within c.document_in-document.ensures.document c.in_ok-new.ensures.number c.new.ensures c.in_ok-new.ensures.made c.put_behind.ensures.kept c.queue_data_record.ensures.kept)

pub split_ends-requires-clause-room : goal.split_ends-requires-clause-room
split_ends-requires-clause-room c =
    steps.room-moved c.queue_data_record.new.world c.args.node c.args.offset c.in_ok-new.new c.move_tail.new.tree c.in_ok-move_tail.ensures.ok
    (subst (λ (v : World). HasNextSibling v.tree.forest c.args.node) (sym c.queue_data_record.ensures.kept) c.in_ok-put_behind.ensures.room)

pub split_ends-requires-clause-covered : goal.split_ends-requires-clause-covered
split_ends-requires-clause-covered c =
    steps.covered-moved c.queue_data_record.new.world c.args.node c.args.offset c.in_ok-new.new c.move_tail.new.tree c.in_ok-move_tail.ensures.ok c.queue_data_record.ensures.whole.covered

pub returns-clause-split : goal.returns-clause-split
returns-clause-split c =
    let content = steps.content-told c.args.world.now c.make_text.new.world c.put_behind.new.world c.queue_data_record.new.world c.args.node c.args.offset c.document_in-document.result c.in_ok-new.new c.new.result
    c.requires.whole c.requires.kind c.requires.within c.document_in-document.ensures.document c.in_ok-new.ensures.number c.new.ensures c.in_ok-new.ensures.made c.put_behind.ensures.kept c.queue_data_record.ensures.kept in
    subst (λ (v : World). Follows c.args.world.now v (split c.args.node c.args.offset))
    (steps.end-is c.queue_data_record.new.world c.args.node c.args.offset c.in_ok-new.new c.move_tail.new.tree c.in_ok-move_tail.ensures.ok c.split_ends.new.world c.split_ends.ensures
    (length c.data_in.result.now - c.args.offset) (ap (λ (units : List ℕ). length units - c.args.offset) (c.data_in.ensures ∙ ap (λ (k : Content). k.text) (sym content)))
    c.spliced.new.self c.spliced.ensures)
    (steps.follows-split c.args.world.now c.make_text.new.world c.put_behind.new.world c.queue_data_record.new.world c.args.node c.args.offset c.document_in-document.result c.in_ok-new.new c.new.result
    c.requires.whole c.requires.kind c.requires.within c.document_in-document.ensures.document c.in_ok-new.ensures.number c.new.ensures c.in_ok-new.ensures.made c.put_behind.ensures.kept c.queue_data_record.ensures.kept
    c.in_ok-put_behind.ensures.behind c.in_ok-put_behind.ensures.parent c.in_ok-queue_data_record.ensures.told)

pub returns-clause-whole : goal.returns-clause-whole
returns-clause-whole c =
    let content = steps.content-told c.args.world.now c.make_text.new.world c.put_behind.new.world c.queue_data_record.new.world c.args.node c.args.offset c.document_in-document.result c.in_ok-new.new c.new.result
    c.requires.whole c.requires.kind c.requires.within c.document_in-document.ensures.document c.in_ok-new.ensures.number c.new.ensures c.in_ok-new.ensures.made c.put_behind.ensures.kept c.queue_data_record.ensures.kept in
    subst IsWhole
    (steps.end-is c.queue_data_record.new.world c.args.node c.args.offset c.in_ok-new.new c.move_tail.new.tree c.in_ok-move_tail.ensures.ok c.split_ends.new.world c.split_ends.ensures
    (length c.data_in.result.now - c.args.offset) (ap (λ (units : List ℕ). length units - c.args.offset) (c.data_in.ensures ∙ ap (λ (k : Content). k.text) (sym content)))
    c.spliced.new.self c.spliced.ensures)
    (steps.whole-split c.args.world.now c.make_text.new.world c.put_behind.new.world c.queue_data_record.new.world c.args.node c.args.offset c.document_in-document.result c.in_ok-new.new c.new.result
    c.requires.whole c.requires.kind c.requires.within c.document_in-document.ensures.document c.in_ok-new.ensures.number c.new.ensures c.in_ok-new.ensures.made c.put_behind.ensures.kept c.queue_data_record.ensures.kept
    c.in_ok-put_behind.ensures.behind c.in_ok-put_behind.ensures.parent c.in_ok-queue_data_record.ensures.told c.queue_data_record.ensures.whole)

pub returns-clause-kept : goal.returns-clause-kept
returns-clause-kept c =
    let old = c.args.world.now in
    let mid = c.put_behind.new.world in
    let told = c.queue_data_record.new.world in
    let content = steps.content-told c.args.world.now c.make_text.new.world c.put_behind.new.world c.queue_data_record.new.world c.args.node c.args.offset c.document_in-document.result c.in_ok-new.new c.new.result
    c.requires.whole c.requires.kind c.requires.within c.document_in-document.ensures.document c.in_ok-new.ensures.number c.new.ensures c.in_ok-new.ensures.made c.put_behind.ensures.kept c.queue_data_record.ensures.kept in
    subst (KeepsLabels c.args.world.now)
    (steps.end-is c.queue_data_record.new.world c.args.node c.args.offset c.in_ok-new.new c.move_tail.new.tree c.in_ok-move_tail.ensures.ok c.split_ends.new.world c.split_ends.ensures
    (length c.data_in.result.now - c.args.offset) (ap (λ (units : List ℕ). length units - c.args.offset) (c.data_in.ensures ∙ ap (λ (k : Content). k.text) (sym content)))
    c.spliced.new.self c.spliced.ensures)
    (labels-then old told (steps.end_world told c.args.node c.args.offset c.in_ok-new.new)
    (labels-then old mid told (labels-then old c.make_text.new.world mid c.make_text.ensures.kept c.put_behind.ensures.kept.labelled)
    (nodes-observed mid told c.queue_data_record.ensures.kept c.queue_data_record.ensures.observers).labelled)
    (steps.labels-end told c.args.node c.args.offset c.in_ok-new.new))

pub returns-clause-markers : goal.returns-clause-markers
returns-clause-markers c =
    stand-by_split c.args.world.now (record c.split_ends.new.world { ranges = c.spliced.new.self }) c.requires.whole (returns-clause-whole c) c.args.node c.args.offset c.requires.kind
    c.requires.within (returns-clause-split c)
