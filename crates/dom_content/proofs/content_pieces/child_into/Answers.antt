-- The node itself, or its copy.
use Rattle.std.proofs.Common.{[], true, subst, sym, arith, OnOk}
use Rattle.std.proofs.lemmas.Result.{on_ok_weaker}
use Rattle.dom_model.specs.Definitions.{child_into}
use Rattle.dom_edit.specs.Whole.{Follows}
use Rattle.dom_content.specs.Paths.{HasNumbers}
use Rattle.dom_content.proofs.{PieceSteps.room-child, PieceSteps.follows-child, AreNewerLemmas.no_moves, StaysLemmas.stays-then, MayDrawLemmas.first-old, MayDrawLemmas.may-put, MayDrawLemmas.may-put_copy, MayDrawLemmas.copy-unreferred}
use Rattle.dom_model.proofs.Forests.Climbing.{hits-first}
use Rattle.dom_edit.proofs.LeavesOlderLemmas.{newer-two}
use Rattle.dom_clone.proofs.LeavesAllLemmas.{left-then}
use Rattle.dom_content.proofs.content_pieces.child_into.Goals as goal

pub copy_of-requires-clause-room : goal.copy_of-requires-clause-room
copy_of-requires-clause-room c =
    room-child c.args.world.now c.args.into c.args.node (subst (λ b. HasNumbers c.args.world.now (child_into b c.args.into c.args.node)) c.if-moves.false c.requires.room)

pub returns-then-moves-clause-drawn : goal.returns-then-moves-clause-drawn
returns-then-moves-clause-drawn c =
    subst (λ b. OnOk c.move_last.result (Follows c.args.world.now c.move_last.new.world (child_into b c.args.into c.args.node))) (sym c.if-moves.true) c.move_last.ensures.moved

pub move_last-requires-clause-allowed : goal.move_last-requires-clause-allowed
move_last-requires-clause-allowed c =
    may-put c.args.world.now c.requires.whole c.requires.may.low c.requires.may.rising c.args.into c.args.node c.requires.may.holder (first-old c.requires.may.low c.args.world.now.tree.forest c.args.node [] c.requires.may.nodes)

pub move_last-requires-clause-child : goal.move_last-requires-clause-child
move_last-requires-clause-child c = (first-old c.requires.may.low c.args.world.now.tree.forest c.args.node [] c.requires.may.nodes).child

pub put_last-requires-clause-unreferred : goal.put_last-requires-clause-unreferred
put_last-requires-clause-unreferred c =
    rw c.in_ok-copy.ensures.number
    (copy-unreferred c.args.world.now c.requires.whole c.requires.may.low c.requires.may.rising true c.args.node c.copy_of.new.world c.in_ok-copy.ensures.whole c.in_ok-copy.ensures.copied c.in_ok-copy.ensures.copy_held)

pub put_last-requires-clause-allowed : goal.put_last-requires-clause-allowed
put_last-requires-clause-allowed c =
    rw c.in_ok-copy.ensures.number
    (may-put_copy c.args.world.now c.requires.whole c.requires.may.low c.requires.may.rising c.args.into c.requires.may.holder true c.args.node (first-old c.requires.may.low c.args.world.now.tree.forest c.args.node [] c.requires.may.nodes)
    c.copy_of.new.world c.in_ok-copy.ensures.whole c.in_ok-copy.ensures.copied)

pub returns-clause-drawn : goal.returns-clause-drawn
returns-clause-drawn c =
    subst (λ b. OnOk c.put_last.result (Follows c.args.world.now c.put_last.new.world (child_into b c.args.into c.args.node))) (sym c.if-moves.false)
    (on_ok_weaker c.put_last.result (follows-child c.args.world.now c.copy_of.new.world c.put_last.new.world c.args.into c.args.node c.in_ok-copy.ensures.copied) (rw c.in_ok-copy.ensures.number at c.put_last.ensures.appended))

pub returns-clause-stays : goal.returns-clause-stays
returns-clause-stays c = on_ok_weaker c.put_last.result (stays-then c.args.world.now c.copy_of.new.world c.put_last.new.world c.in_ok-copy.ensures.stays) c.put_last.ensures.stays

pub returns-then-moves-clause-left : goal.returns-then-moves-clause-left
returns-then-moves-clause-left c still = no_moves c.args.moves c.if-moves.true still

pub returns-in_err-copy-clause-left : goal.returns-in_err-copy-clause-left
returns-in_err-copy-clause-left c still a h newer l = left-then a c.args.world.now c.copy_of.new.world l c.copy_of.ensures.left

pub returns-clause-left : goal.returns-clause-left
returns-clause-left c still a h newer l =
    let v = c.args.world.now in
    let m = left-then a v c.copy_of.new.world l c.copy_of.ensures.left in
    let begun = l.made in
    let two = newer-two a h c.args.into c.in_ok-copy.copy (newer c.args.into (hits-first c.args.into [])) (omega (arith, begun, c.in_ok-copy.ensures.number)) in
    let put = c.put_last.ensures.left (λ _. rw c.in_ok-copy.ensures.number c.in_ok-copy.ensures.root) a h two m in
    put
