-- Each part has its room, and may go in.
use Rattle.std.proofs.Common.{◌++◌, ap, sym, subst}
use Rattle.std.proofs.lemmas.Result.{on_ok_weaker}
use Rattle.dom_content.specs.DrawConditions.{AreOld, IsPathTo}
use Rattle.dom_content.proofs.{StaysLemmas.stays-then, MayDrawLemmas.left-old, MayDrawLemmas.right-old, MayDrawLemmas.holder-goes, MayDrawLemmas.old-goes, MayDrawLemmas.goes-then, MayDrawLemmas.front-goes, MayDrawLemmas.goes-children, MayDrawLemmas.goes-tail, DrawnContents.room-tail, DrawnContents.room-children, DrawnContents.follows-parts}
use Rattle.dom_content.proofs.extraction.draw_parts.Goals as goal

pub tail_into-requires-clause-may : goal.tail_into-requires-clause-may
tail_into-requires-clause-may c =
    let m = c.requires.may in
    let f = c.args.world.now.tree.forest in
    let path = c.deref.result.now in
    let old : AreOld m.low f path = rw c.deref.ensures.value (left-old m.low f c.args.drawn.now.parts.now.first.items (c.args.drawn.now.parts.now.contained.items ++ c.args.drawn.now.parts.now.last.items) m.nodes) in
    let way : IsPathTo f c.start.inside.offset path = subst (λ o. IsPathTo f o path) (sym (ap (λ p. p.offset) c.start.view_is)) (rw c.deref.ensures.value c.requires.first_way) in
    record { low = m.low; rising = m.rising; holder = m.holder; nodes = old }

pub tail_into-requires-clause-way : goal.tail_into-requires-clause-way
tail_into-requires-clause-way c =
    let m = c.requires.may in
    let f = c.args.world.now.tree.forest in
    let path = c.deref.result.now in
    let old : AreOld m.low f path = rw c.deref.ensures.value (left-old m.low f c.args.drawn.now.parts.now.first.items (c.args.drawn.now.parts.now.contained.items ++ c.args.drawn.now.parts.now.last.items) m.nodes) in
    let way : IsPathTo f c.start.inside.offset path = subst (λ o. IsPathTo f o path) (sym (ap (λ p. p.offset) c.start.view_is)) (rw c.deref.ensures.value c.requires.first_way) in
    way

pub tail_into-requires-clause-room : goal.tail_into-requires-clause-room
tail_into-requires-clause-room c =
    room-tail c.args.drawn.now.moves c.args.into (record { start = c.args.drawn.now.start; end = c.args.drawn.now.end }) c.args.drawn.now.parts.now.first.items c.args.drawn.now.parts.now.contained.items c.args.drawn.now.parts.now.last.items
    c.args.world.now c.start.inside.offset c.deref.result.now (ap (λ p. p.offset) c.start.view_is) c.deref.ensures.value c.requires.room

pub children_into-requires-clause-may : goal.children_into-requires-clause-may
children_into-requires-clause-may c =
    let m = c.requires.may in
    let f = c.args.world.now.tree.forest in
    let path = c.deref.result.now in
    let old : AreOld m.low f path = rw c.deref.ensures.value (left-old m.low f c.args.drawn.now.parts.now.first.items (c.args.drawn.now.parts.now.contained.items ++ c.args.drawn.now.parts.now.last.items) m.nodes) in
    let way : IsPathTo f c.start.inside.offset path = subst (λ o. IsPathTo f o path) (sym (ap (λ p. p.offset) c.start.view_is)) (rw c.deref.ensures.value c.requires.first_way) in
    let mid = c.tail_into.new.world in
    let a = goes-tail c.args.world.now c.requires.whole m.low m.rising c.args.into m.holder c.args.drawn.now.moves c.start.inside.offset path old way mid c.in_ok-tail_into.ensures.drawn c.in_ok-tail_into.ensures.stays in
    let more = right-old m.low f c.args.drawn.now.parts.now.first.items (c.args.drawn.now.parts.now.contained.items ++ c.args.drawn.now.parts.now.last.items) m.nodes in
    let contained : AreOld m.low mid.tree.forest c.deref-2.result.now = rw c.deref-2.ensures.value (λ x i. old-goes m.low c.args.world.now mid a x (left-old m.low f c.args.drawn.now.parts.now.contained.items c.args.drawn.now.parts.now.last.items more x i)) in
    let holder = holder-goes m.low c.args.world.now mid a c.args.into m.holder in
    record { low = m.low; rising = a.rising; holder = holder; nodes = contained }

pub children_into-requires-clause-room : goal.children_into-requires-clause-room
children_into-requires-clause-room c =
    room-children c.args.drawn.now.moves c.args.into (record { start = c.args.drawn.now.start; end = c.args.drawn.now.end }) c.args.drawn.now.parts.now.first.items c.args.drawn.now.parts.now.contained.items c.args.drawn.now.parts.now.last.items
    c.args.world.now c.tail_into.new.world c.start.inside.offset c.deref.result.now c.deref-2.result.now (ap (λ p. p.offset) c.start.view_is) c.deref.ensures.value c.deref-2.ensures.value c.in_ok-tail_into.ensures.drawn c.requires.room

pub head_into-requires-clause-may : goal.head_into-requires-clause-may
head_into-requires-clause-may c =
    let m = c.requires.may in
    let f = c.args.world.now.tree.forest in
    let path = c.deref.result.now in
    let old : AreOld m.low f path = rw c.deref.ensures.value (left-old m.low f c.args.drawn.now.parts.now.first.items (c.args.drawn.now.parts.now.contained.items ++ c.args.drawn.now.parts.now.last.items) m.nodes) in
    let way : IsPathTo f c.start.inside.offset path = subst (λ o. IsPathTo f o path) (sym (ap (λ p. p.offset) c.start.view_is)) (rw c.deref.ensures.value c.requires.first_way) in
    let mid = c.tail_into.new.world in
    let a = goes-tail c.args.world.now c.requires.whole m.low m.rising c.args.into m.holder c.args.drawn.now.moves c.start.inside.offset path old way mid c.in_ok-tail_into.ensures.drawn c.in_ok-tail_into.ensures.stays in
    let more = right-old m.low f c.args.drawn.now.parts.now.first.items (c.args.drawn.now.parts.now.contained.items ++ c.args.drawn.now.parts.now.last.items) m.nodes in
    let contained : AreOld m.low mid.tree.forest c.deref-2.result.now = rw c.deref-2.ensures.value (λ x i. old-goes m.low c.args.world.now mid a x (left-old m.low f c.args.drawn.now.parts.now.contained.items c.args.drawn.now.parts.now.last.items more x i)) in
    let holder = holder-goes m.low c.args.world.now mid a c.args.into m.holder in
    let end = c.children_into.new.world in
    let b = goes-children mid c.in_ok-tail_into.ensures.whole m.low a.rising c.args.into holder c.args.drawn.now.moves c.deref-2.result.now contained end c.in_ok-children_into.ensures.drawn c.in_ok-children_into.ensures.stays in
    let g = goes-then m.low c.args.world.now mid end a b in
    let last = right-old m.low f c.args.drawn.now.parts.now.contained.items c.args.drawn.now.parts.now.last.items more in
    let nodes : AreOld m.low end.tree.forest c.deref-3.result.now = rw c.deref-3.ensures.value (λ x i. old-goes m.low c.args.world.now end g x (last x i)) in
    record { low = m.low; rising = g.rising; holder = holder-goes m.low mid end b c.args.into holder; nodes = nodes }

pub head_into-requires-clause-way : goal.head_into-requires-clause-way
head_into-requires-clause-way c =
    let m = c.requires.may in
    let f = c.args.world.now.tree.forest in
    let path = c.deref.result.now in
    let old : AreOld m.low f path = rw c.deref.ensures.value (left-old m.low f c.args.drawn.now.parts.now.first.items (c.args.drawn.now.parts.now.contained.items ++ c.args.drawn.now.parts.now.last.items) m.nodes) in
    let way : IsPathTo f c.start.inside.offset path = subst (λ o. IsPathTo f o path) (sym (ap (λ p. p.offset) c.start.view_is)) (rw c.deref.ensures.value c.requires.first_way) in
    let mid = c.tail_into.new.world in
    let a = goes-tail c.args.world.now c.requires.whole m.low m.rising c.args.into m.holder c.args.drawn.now.moves c.start.inside.offset path old way mid c.in_ok-tail_into.ensures.drawn c.in_ok-tail_into.ensures.stays in
    let more = right-old m.low f c.args.drawn.now.parts.now.first.items (c.args.drawn.now.parts.now.contained.items ++ c.args.drawn.now.parts.now.last.items) m.nodes in
    let contained : AreOld m.low mid.tree.forest c.deref-2.result.now = rw c.deref-2.ensures.value (λ x i. old-goes m.low c.args.world.now mid a x (left-old m.low f c.args.drawn.now.parts.now.contained.items c.args.drawn.now.parts.now.last.items more x i)) in
    let holder = holder-goes m.low c.args.world.now mid a c.args.into m.holder in
    let end = c.children_into.new.world in
    let b = goes-children mid c.in_ok-tail_into.ensures.whole m.low a.rising c.args.into holder c.args.drawn.now.moves c.deref-2.result.now contained end c.in_ok-children_into.ensures.drawn c.in_ok-children_into.ensures.stays in
    let g = goes-then m.low c.args.world.now mid end a b in
    let last = right-old m.low f c.args.drawn.now.parts.now.contained.items c.args.drawn.now.parts.now.last.items more in
    rw c.deref-3.ensures.value (front-goes m.low c.args.world.now end g c.args.drawn.now.parts.now.last.items last c.requires.last_way)

pub returns-clause-drawn : goal.returns-clause-drawn
returns-clause-drawn c =
    on_ok_weaker c.head_into.result
    (follows-parts c.args.drawn.now.moves c.args.into (record { start = c.args.drawn.now.start; end = c.args.drawn.now.end }) c.args.drawn.now.parts.now.first.items c.args.drawn.now.parts.now.contained.items c.args.drawn.now.parts.now.last.items
    c.args.world.now c.tail_into.new.world c.children_into.new.world c.head_into.new.world c.start.inside.offset c.end.inside.offset c.deref.result.now c.deref-2.result.now c.deref-3.result.now
    (ap (λ p. p.offset) c.start.view_is) c.deref.ensures.value c.deref-2.ensures.value (ap (λ p. p.offset) c.end.view_is) c.deref-3.ensures.value c.in_ok-tail_into.ensures.drawn c.in_ok-children_into.ensures.drawn)
    c.head_into.ensures.drawn

pub returns-clause-stays : goal.returns-clause-stays
returns-clause-stays c =
    let v = c.args.world.now in
    let mid = c.tail_into.new.world in
    let end = c.children_into.new.world in
    on_ok_weaker c.head_into.result
    (λ s. stays-then v mid c.head_into.new.world c.in_ok-tail_into.ensures.stays (stays-then mid end c.head_into.new.world c.in_ok-children_into.ensures.stays s)) c.head_into.ensures.stays

pub returns-in_err-tail_into-clause-left : goal.returns-in_err-tail_into-clause-left
returns-in_err-tail_into-clause-left c = c.tail_into.ensures.left

pub returns-in_err-children_into-clause-left : goal.returns-in_err-children_into-clause-left
returns-in_err-children_into-clause-left c still a h newer l = c.children_into.ensures.left still a h newer (c.tail_into.ensures.left still a h newer l)

pub returns-clause-left : goal.returns-clause-left
returns-clause-left c still a h newer l = c.head_into.ensures.left still a h newer (c.children_into.ensures.left still a h newer (c.tail_into.ensures.left still a h newer l))
