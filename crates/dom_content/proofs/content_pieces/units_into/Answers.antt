-- A copy with the units is made, put and the units cut.
use Rattle.std.proofs.Common.{[], arith}
use Rattle.std.proofs.lemmas.Result.{on_ok_weaker}
use Rattle.dom_model.proofs.Forests.Climbing.{hits-first}
use Rattle.dom_edit.proofs.LeavesOlderLemmas.{newer-two, same-left}
use Rattle.dom_clone.proofs.LeavesAllLemmas.{left-then}
use Rattle.dom_content.proofs.{PieceSteps.room-units, PieceSteps.follows-units, PieceSteps.still-data, PieceSteps.still-within, StillHeldLemmas.still-held, StaysLemmas.stays-then, MayDrawLemmas.may-put_part, MayDrawLemmas.part-unreferred}
use Rattle.dom_content.proofs.content_pieces.units_into.Goals as goal

pub copy_with-requires-clause-room : goal.copy_with-requires-clause-room
copy_with-requires-clause-room c = room-units c.args.world.now c.args.moves c.args.into c.args.node c.args.offset c.args.count c.in_ok-units.units c.in_ok-units.ensures c.requires.room

pub put_last-requires : goal.put_last-requires
put_last-requires c =
    record {
      whole = c.in_ok-copy.ensures.whole;
      allowed = rw c.in_ok-copy.ensures.number (may-put_part c.args.world.now c.requires.whole c.requires.may.low c.requires.may.rising c.args.into c.requires.may.holder c.in_ok-units.units c.args.node c.requires.kind c.copy_with.new.world c.in_ok-copy.ensures.whole c.in_ok-copy.ensures.copied);
      unreferred = rw c.in_ok-copy.ensures.number (part-unreferred c.args.world.now c.requires.whole c.requires.may.low c.requires.may.rising c.in_ok-units.units c.args.node c.copy_with.new.world c.in_ok-copy.ensures.whole c.in_ok-copy.ensures.copied c.in_ok-copy.ensures.copy_held);
    }

pub cut_if-requires-clause-kind : goal.cut_if-requires-clause-kind
cut_if-requires-clause-kind c = still-data c.args.world.now c.copy_with.new.world c.put_last.new.world c.args.node (still-held c.args.world.now c.copy_with.new.world c.in_ok-copy.ensures.kept) c.in_ok-copy.ensures.kinds c.in_ok-put_last.ensures.kinds c.requires.kind

pub cut_if-requires-clause-within : goal.cut_if-requires-clause-within
cut_if-requires-clause-within c = still-within c.args.world.now c.copy_with.new.world c.put_last.new.world c.args.node c.args.offset (still-held c.args.world.now c.copy_with.new.world c.in_ok-copy.ensures.kept) c.in_ok-copy.ensures.texts c.in_ok-put_last.ensures.texts c.requires.kind c.requires.within

pub returns-clause-drawn : goal.returns-clause-drawn
returns-clause-drawn c =
    on_ok_weaker c.cut_if.result
    (follows-units c.args.world.now c.args.moves c.args.into c.args.node c.args.offset c.args.count c.in_ok-units.units c.in_ok-units.ensures
    c.copy_with.new.world c.put_last.new.world c.cut_if.new.world c.in_ok-copy.ensures.copied (rw c.in_ok-copy.ensures.number at c.in_ok-put_last.ensures.appended))
    c.cut_if.ensures.cut

pub returns-clause-stays : goal.returns-clause-stays
returns-clause-stays c =
    on_ok_weaker c.cut_if.result
    (λ s. stays-then c.args.world.now c.copy_with.new.world c.cut_if.new.world c.in_ok-copy.ensures.stays (stays-then c.copy_with.new.world c.put_last.new.world c.cut_if.new.world c.in_ok-put_last.ensures.stays s))
    c.cut_if.ensures.stays

pub returns-in_err-units-clause-left : goal.returns-in_err-units-clause-left
returns-in_err-units-clause-left c still a h newer l = l

pub returns-in_err-copy-clause-left : goal.returns-in_err-copy-clause-left
returns-in_err-copy-clause-left c still a h newer l = left-then a c.args.world.now c.copy_with.new.world l c.copy_with.ensures.left

pub returns-in_err-put_last-clause-left : goal.returns-in_err-put_last-clause-left
returns-in_err-put_last-clause-left c still a h newer l =
    let v = c.args.world.now in
    let m = left-then a v c.copy_with.new.world l c.copy_with.ensures.left in
    let begun = l.made in
    let two = newer-two a h c.args.into c.in_ok-copy.copy (newer c.args.into (hits-first c.args.into [])) (omega (arith, begun, c.in_ok-copy.ensures.number)) in
    let put = c.put_last.ensures.left (λ _. rw c.in_ok-copy.ensures.number c.in_ok-copy.ensures.root) a h two m in
    put

pub returns-clause-left : goal.returns-clause-left
returns-clause-left c still a h newer l =
    let v = c.args.world.now in
    let m = left-then a v c.copy_with.new.world l c.copy_with.ensures.left in
    let begun = l.made in
    let two = newer-two a h c.args.into c.in_ok-copy.copy (newer c.args.into (hits-first c.args.into [])) (omega (arith, begun, c.in_ok-copy.ensures.number)) in
    let put = c.put_last.ensures.left (λ _. rw c.in_ok-copy.ensures.number c.in_ok-copy.ensures.root) a h two m in
    same-left a h c.put_last.new.world c.cut_if.new.world (c.cut_if.ensures.left still) put
