-- The children go in, and then the fragment into the copy.
use Rattle.std.proofs.Common.{sym, ◌∙◌, arith}
use Rattle.std.proofs.lemmas.{Bool.false≢true, Result.on_ok_weaker}
use Rattle.dom_content.proofs.{StaysLemmas.stays-then, MayDrawLemmas.inner-holder, MayDrawLemmas.unfinished-goes, MayDrawLemmas.goes-children, MayDrawLemmas.may-finish, MayDrawLemmas.finish-unreferred, PathSteps.room-children, PathSteps.follows-closed}
use Rattle.dom_content.proofs.partially_contained.close_partial.Goals as goal

pub children_into-requires-clause-may : goal.children_into-requires-clause-may
children_into-requires-clause-may c =
    rw c.deref.ensures.value (record {
      low = c.requires.may.low;
      rising = c.requires.may.rising;
      holder = inner-holder c.requires.may.low c.args.world.now.tree.forest c.args.partial.now c.requires.may.parts.0;
      nodes = c.requires.may.parts.0.children;
    })

pub children_into-requires-clause-room : goal.children_into-requires-clause-room
children_into-requires-clause-room c = rw c.deref.ensures.value (room-children c.args.world.now c.args.moves c.args.partial.now c.requires.room)

pub put_last-requires-clause-allowed : goal.put_last-requires-clause-allowed
put_last-requires-clause-allowed c =
    let v = c.args.world.now in
    let p = c.args.partial.now in
    let m = c.requires.may in
    let drawn = rw c.deref.ensures.value at c.in_ok-children_into.ensures.drawn in
    let g = goes-children v c.requires.whole m.low m.rising p.inner (inner-holder m.low v.tree.forest p m.parts.0) c.args.moves p.children.items m.parts.0.children c.children_into.new.world drawn c.in_ok-children_into.ensures.stays in
    may-finish c.children_into.new.world c.in_ok-children_into.ensures.whole m.low g.rising p (unfinished-goes m.low v c.children_into.new.world g p m.parts.0)

pub put_last-requires-clause-unreferred : goal.put_last-requires-clause-unreferred
put_last-requires-clause-unreferred c =
    let v = c.args.world.now in
    let p = c.args.partial.now in
    let m = c.requires.may in
    let drawn = rw c.deref.ensures.value at c.in_ok-children_into.ensures.drawn in
    let g = goes-children v c.requires.whole m.low m.rising p.inner (inner-holder m.low v.tree.forest p m.parts.0) c.args.moves p.children.items m.parts.0.children c.children_into.new.world drawn c.in_ok-children_into.ensures.stays in
    finish-unreferred c.children_into.new.world c.in_ok-children_into.ensures.whole m.low g.rising p (unfinished-goes m.low v c.children_into.new.world g p m.parts.0)

pub returns-clause-closed : goal.returns-clause-closed
returns-clause-closed c =
    on_ok_weaker c.put_last.result
    (follows-closed c.args.world.now c.children_into.new.world c.put_last.new.world c.args.moves c.args.partial.now (rw c.deref.ensures.value at c.in_ok-children_into.ensures.drawn)) c.put_last.ensures.appended

pub returns-clause-stays : goal.returns-clause-stays
returns-clause-stays c = on_ok_weaker c.put_last.result (stays-then c.args.world.now c.children_into.new.world c.put_last.new.world c.in_ok-children_into.ensures.stays) c.put_last.ensures.stays

pub returns-in_err-children_into-clause-left : goal.returns-in_err-children_into-clause-left
returns-in_err-children_into-clause-left c still a h newer l = c.children_into.ensures.left still a h (λ m i. newer m (omega arith)) l

pub returns-clause-left : goal.returns-clause-left
returns-clause-left c still a h newer l =
    let v = c.args.world.now in
    let p = c.args.partial.now in
    let m = c.requires.may in
    let drawn = rw c.deref.ensures.value at c.in_ok-children_into.ensures.drawn in
    let g = goes-children v c.requires.whole m.low m.rising p.inner (inner-holder m.low v.tree.forest p m.parts.0) c.args.moves p.children.items m.parts.0.children c.children_into.new.world drawn c.in_ok-children_into.ensures.stays in
    let fragment = (unfinished-goes m.low v c.children_into.new.world g p m.parts.0).inner in
    let filled = c.children_into.ensures.left still a h (λ n i. newer n (omega arith)) l in
    c.put_last.ensures.left (λ plain. absurd (false≢true (sym plain ∙ fragment))) a h newer filled
