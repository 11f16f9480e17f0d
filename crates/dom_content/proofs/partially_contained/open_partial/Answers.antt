-- A copy is put, and a further fragment is made.
use Rattle.std.proofs.Common.{[], false, arith}
use Rattle.dom_model.proofs.Forests.Climbing.{hits-first}
use Rattle.dom_edit.proofs.{LeavesOlderLemmas.newer-two, KeepsNodesLemmas.labels-then}
use Rattle.dom_clone.proofs.LeavesAllLemmas.{left-then}
use Rattle.dom_content.proofs.{PieceSteps.data-then, StillHeldLemmas.still-held, StaysLemmas.stays-then, MayDrawLemmas.first-old, MayDrawLemmas.may-put_copy, MayDrawLemmas.copy-unreferred, PathSteps.room-copy, PathSteps.room-inner, PathSteps.inner-is, PathSteps.follows-opened, PathSteps.document-stays}
use Rattle.dom_content.proofs.partially_contained.open_partial.Goals as goal

pub copy_of-requires-clause-room : goal.copy_of-requires-clause-room
copy_of-requires-clause-room c = room-copy c.args.world.now c.args.into c.args.node c.requires.room

pub put_last-requires-clause-allowed : goal.put_last-requires-clause-allowed
put_last-requires-clause-allowed c =
    rw c.in_ok-copy.ensures.number
    (may-put_copy c.args.world.now c.requires.whole c.requires.may.low c.requires.may.rising c.args.into c.requires.may.holder false c.args.node (first-old c.requires.may.low c.args.world.now.tree.forest c.args.node c.args.children.items c.requires.may.nodes)
    c.copy_of.new.world c.in_ok-copy.ensures.whole c.in_ok-copy.ensures.copied)

pub put_last-requires-clause-unreferred : goal.put_last-requires-clause-unreferred
put_last-requires-clause-unreferred c =
    rw c.in_ok-copy.ensures.number
    (copy-unreferred c.args.world.now c.requires.whole c.requires.may.low c.requires.may.rising false c.args.node c.copy_of.new.world c.in_ok-copy.ensures.whole c.in_ok-copy.ensures.copied c.in_ok-copy.ensures.copy_held)

pub new_fragment-requires-clause-document_kind : goal.new_fragment-requires-clause-document_kind
new_fragment-requires-clause-document_kind c =
    document-stays c.args.world.now c.copy_of.new.world c.put_last.new.world c.document_in-document.result (still-held c.args.world.now c.copy_of.new.world c.in_ok-copy.ensures.kept) c.in_ok-copy.ensures.kinds c.in_ok-put_last.ensures.kinds c.document_in-document.ensures.kind

pub new_fragment-requires-clause-room : goal.new_fragment-requires-clause-room
new_fragment-requires-clause-room c =
    room-inner c.args.world.now c.args.into c.args.node c.document_in-document.result c.in_ok-copy.copy c.in_ok-copy.ensures.number c.document_in-document.ensures.document
    c.copy_of.new.world c.put_last.new.world c.in_ok-copy.ensures.copied c.in_ok-put_last.ensures.appended c.requires.room

pub returns-clause-inner : goal.returns-clause-inner
returns-clause-inner c =
    inner-is c.args.world.now c.args.into c.args.node c.document_in-document.result c.in_ok-copy.copy c.in_ok-copy.ensures.number c.document_in-document.ensures.document
    c.copy_of.new.world c.put_last.new.world c.in_ok-copy.ensures.copied c.in_ok-put_last.ensures.appended c.in_ok-inner.inner c.in_ok-inner.ensures.number

pub returns-clause-opened : goal.returns-clause-opened
returns-clause-opened c =
    follows-opened c.args.world.now c.args.into c.args.node c.document_in-document.result c.in_ok-copy.copy c.in_ok-copy.ensures.number c.document_in-document.ensures.document
    c.copy_of.new.world c.put_last.new.world c.in_ok-copy.ensures.copied c.in_ok-put_last.ensures.appended c.new_fragment.new.world c.in_ok-inner.ensures.made

pub returns-clause-stays : goal.returns-clause-stays
returns-clause-stays c =
    stays-then c.args.world.now c.copy_of.new.world c.new_fragment.new.world c.in_ok-copy.ensures.stays
    (stays-then c.copy_of.new.world c.put_last.new.world c.new_fragment.new.world c.in_ok-put_last.ensures.stays c.in_ok-inner.ensures.stays)

pub returns-clause-texts : goal.returns-clause-texts
returns-clause-texts c =
    data-then c.args.world.now c.copy_of.new.world c.new_fragment.new.world (still-held c.args.world.now c.copy_of.new.world c.in_ok-copy.ensures.kept) c.in_ok-copy.ensures.texts
    (data-then c.copy_of.new.world c.put_last.new.world c.new_fragment.new.world (still-held c.copy_of.new.world c.put_last.new.world c.in_ok-put_last.ensures.kept) c.in_ok-put_last.ensures.texts c.in_ok-inner.ensures.texts)

pub returns-in_err-copy-clause-left : goal.returns-in_err-copy-clause-left
returns-in_err-copy-clause-left c a h newer l = left-then a c.args.world.now c.copy_of.new.world l c.copy_of.ensures.left

pub returns-in_err-put_last-clause-left : goal.returns-in_err-put_last-clause-left
returns-in_err-put_last-clause-left c a h newer l =
    let v = c.args.world.now in
    let m = left-then a v c.copy_of.new.world l c.copy_of.ensures.left in
    let begun = l.made in
    let two = newer-two a h c.args.into c.in_ok-copy.copy (newer c.args.into (hits-first c.args.into [])) (omega (arith, begun, c.in_ok-copy.ensures.number)) in
    let put = c.put_last.ensures.left (λ _. rw c.in_ok-copy.ensures.number c.in_ok-copy.ensures.root) a h two m in
    put

pub returns-in_err-inner-clause-left : goal.returns-in_err-inner-clause-left
returns-in_err-inner-clause-left c a h newer l =
    let v = c.args.world.now in
    let m = left-then a v c.copy_of.new.world l c.copy_of.ensures.left in
    let begun = l.made in
    let two = newer-two a h c.args.into c.in_ok-copy.copy (newer c.args.into (hits-first c.args.into [])) (omega (arith, begun, c.in_ok-copy.ensures.number)) in
    let put = c.put_last.ensures.left (λ _. rw c.in_ok-copy.ensures.number c.in_ok-copy.ensures.root) a h two m in
    left-then a c.put_last.new.world c.new_fragment.new.world put c.new_fragment.ensures.left

pub returns-clause-left : goal.returns-clause-left
returns-clause-left c a h newer l =
    let v = c.args.world.now in
    let m = left-then a v c.copy_of.new.world l c.copy_of.ensures.left in
    let begun = l.made in
    let two = newer-two a h c.args.into c.in_ok-copy.copy (newer c.args.into (hits-first c.args.into [])) (omega (arith, begun, c.in_ok-copy.ensures.number)) in
    let put = c.put_last.ensures.left (λ _. rw c.in_ok-copy.ensures.number c.in_ok-copy.ensures.root) a h two m in
    left-then a c.put_last.new.world c.new_fragment.new.world put c.new_fragment.ensures.left

pub returns-clause-begun : goal.returns-clause-begun
returns-clause-begun c a h newer l =
    let v = c.args.world.now in
    let m = left-then a v c.copy_of.new.world l c.copy_of.ensures.left in
    let begun = l.made in
    let two = newer-two a h c.args.into c.in_ok-copy.copy (newer c.args.into (hits-first c.args.into [])) (omega (arith, begun, c.in_ok-copy.ensures.number)) in
    let put = c.put_last.ensures.left (λ _. rw c.in_ok-copy.ensures.number c.in_ok-copy.ensures.root) a h two m in
    let grown = put.made in
    newer-two a h c.in_ok-copy.copy c.in_ok-inner.inner (omega (arith, begun, c.in_ok-copy.ensures.number)) (omega (arith, grown, c.in_ok-inner.ensures.number))

pub returns-clause-kept : goal.returns-clause-kept
returns-clause-kept c =
    labels-then c.args.world.now c.put_last.new.world c.new_fragment.new.world
    (labels-then c.args.world.now c.copy_of.new.world c.put_last.new.world c.in_ok-copy.ensures.kept c.in_ok-put_last.ensures.kept) c.in_ok-inner.ensures.kept

pub returns-in_err-inner-clause-kept : goal.returns-in_err-inner-clause-kept
returns-in_err-inner-clause-kept c =
    labels-then c.args.world.now c.put_last.new.world c.new_fragment.new.world
    (labels-then c.args.world.now c.copy_of.new.world c.put_last.new.world c.in_ok-copy.ensures.kept c.in_ok-put_last.ensures.kept) c.new_fragment.ensures.kept
