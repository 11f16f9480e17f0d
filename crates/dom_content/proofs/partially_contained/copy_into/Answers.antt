-- A copy is opened, and finished at once.
use Rattle.std.proofs.lemmas.Result.{on_ok_weaker}
use Rattle.dom_content.specs.DrawConditions.{AreOld}
use Rattle.dom_content.proofs.{StaysLemmas.stays-then, MayDrawLemmas.first-old, MayDrawLemmas.rest-old, MayDrawLemmas.goes-opened, MayDrawLemmas.opened-unfinished, PathSteps.room-open, PathSteps.room-closing, PathSteps.follows-copy}
use Rattle.dom_content.proofs.partially_contained.copy_into.Goals as goal

pub open_partial-requires-clause-room : goal.open_partial-requires-clause-room
open_partial-requires-clause-room c = room-open c.args.world.now c.args.moves c.args.into c.args.node c.args.children.items c.requires.room

pub close_partial-requires-clause-may : goal.close_partial-requires-clause-may
close_partial-requires-clause-may c =
    let v = c.args.world.now in
    let m = c.requires.may in
    let o = first-old m.low v.tree.forest c.args.node c.args.children.items m.nodes in
    let kids : AreOld m.low v.tree.forest c.in_ok-partial.partial.children.items = rw c.in_ok-partial.ensures.children (rest-old m.low v.tree.forest c.args.node c.args.children.items m.nodes) in
    let g = goes-opened v c.requires.whole m.low m.rising c.args.into m.holder c.args.node o c.requires.no_data c.open_partial.new.world c.in_ok-partial.ensures.opened c.in_ok-partial.ensures.stays in
    record {
      low = m.low;
      rising = g.rising;
      parts = (
        opened-unfinished v c.requires.whole m.low m.rising c.args.into m.holder c.args.node o c.requires.no_data c.open_partial.new.world c.in_ok-partial.partial
            c.in_ok-partial.ensures.opened c.in_ok-partial.ensures.stays c.in_ok-partial.ensures.copy c.in_ok-partial.ensures.inner kids,
        tt,
      );
    }

pub close_partial-requires-clause-room : goal.close_partial-requires-clause-room
close_partial-requires-clause-room c =
    room-closing c.args.world.now c.open_partial.new.world c.args.moves c.args.into c.args.node c.args.children.items c.in_ok-partial.partial c.in_ok-partial.ensures.copy c.in_ok-partial.ensures.inner c.in_ok-partial.ensures.children c.in_ok-partial.ensures.opened c.requires.room

pub returns-clause-copied : goal.returns-clause-copied
returns-clause-copied c =
    on_ok_weaker c.close_partial.result
    (follows-copy c.args.world.now c.open_partial.new.world c.args.moves c.args.into c.args.node c.args.children.items c.in_ok-partial.partial c.in_ok-partial.ensures.copy c.in_ok-partial.ensures.inner c.in_ok-partial.ensures.children c.in_ok-partial.ensures.opened
    c.close_partial.new.world)
    c.close_partial.ensures.closed

pub returns-clause-stays : goal.returns-clause-stays
returns-clause-stays c = on_ok_weaker c.close_partial.result (stays-then c.args.world.now c.open_partial.new.world c.close_partial.new.world c.in_ok-partial.ensures.stays) c.close_partial.ensures.stays

pub returns-in_err-partial-clause-left : goal.returns-in_err-partial-clause-left
returns-in_err-partial-clause-left c still a h newer l = c.open_partial.ensures.left a h newer l

pub returns-clause-left : goal.returns-clause-left
returns-clause-left c still a h newer l = c.close_partial.ensures.left still a h (c.in_ok-partial.ensures.begun a h newer l) (c.open_partial.ensures.left a h newer l)
