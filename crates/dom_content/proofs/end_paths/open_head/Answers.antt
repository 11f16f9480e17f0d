-- The copy is opened, and what comes before the next node goes in.
use Rattle.std.proofs.Common.{[], ◌∷◌, sym, ◌∙◌, subst}
use Rattle.dom_content.proofs.{AreNewerLemmas.rest-newer, StaysLemmas.stays-then, HeadIntoLemmas.room-entered, HeadIntoLemmas.room-ahead, HeadIntoLemmas.follows-entered, MayDrawLemmas.first-old, MayDrawLemmas.none-old, MayDrawLemmas.children-old, MayDrawLemmas.old-goes, MayDrawLemmas.inner-holder, MayDrawLemmas.goes-opened, MayDrawLemmas.opened-unfinished}
use Rattle.dom_model.specs.Definitions.{up_to, children_of}
use Rattle.dom_model.proofs.RangesAndContents.DrawnPaths.{hits-up_to}
use Rattle.dom_content.specs.DrawConditions.{AreOld}
use Rattle.dom_content.proofs.end_paths.open_head.Goals as goal

pub open_partial-requires-clause-may : goal.open_partial-requires-clause-may
open_partial-requires-clause-may c =
    let m = c.requires.may in
    record { low = m.low; rising = m.rising; holder = m.holder; nodes = subst (λ ns. AreOld m.low c.args.world.now.tree.forest (c.args.node ∷ ns)) (sym c.new.ensures.items) m.nodes }

pub open_partial-requires-clause-room : goal.open_partial-requires-clause-room
open_partial-requires-clause-room c = room-entered c.args.world.now c.args.moves c.args.into c.args.node c.args.next c.requires.room

pub children_into-requires-clause-may : goal.children_into-requires-clause-may
children_into-requires-clause-may c =
    let v = c.args.world.now in
    let m = c.requires.may in
    let mid = c.open_partial.new.world in
    let o = first-old m.low v.tree.forest c.args.node [] m.nodes in
    let kids = children-old v c.requires.whole m.low m.rising c.args.into m.holder c.args.node o c.requires.no_data (up_to c.args.next (children_of v.tree.forest c.args.node)) (λ x. hits-up_to x c.args.next (children_of v.tree.forest c.args.node)) in
    let g = goes-opened v c.requires.whole m.low m.rising c.args.into m.holder c.args.node o c.requires.no_data mid c.in_ok-partial.ensures.opened c.in_ok-partial.ensures.stays in
    let none : AreOld m.low v.tree.forest c.in_ok-partial.partial.children.items = rw (c.in_ok-partial.ensures.children, c.new.ensures.items) (none-old m.low v.tree.forest) in
    let u = opened-unfinished v c.requires.whole m.low m.rising c.args.into m.holder c.args.node o c.requires.no_data mid c.in_ok-partial.partial c.in_ok-partial.ensures.opened c.in_ok-partial.ensures.stays c.in_ok-partial.ensures.copy c.in_ok-partial.ensures.inner none in
    let listed : AreOld m.low v.tree.forest c.in_ok-ahead.ahead.items = rw c.in_ok-ahead.ensures kids in
    rw c.deref.ensures.value (record {
      low = m.low;
      rising = g.rising;
      holder = inner-holder m.low mid.tree.forest c.in_ok-partial.partial u;
      nodes = λ x i. old-goes m.low v mid g x (listed x i);
    })

pub children_into-requires-clause-room : goal.children_into-requires-clause-room
children_into-requires-clause-room c =
    rw c.deref.ensures.value
    (room-ahead c.args.world.now c.open_partial.new.world c.args.moves c.args.into c.args.node c.args.next c.in_ok-ahead.ahead.items c.in_ok-ahead.ensures c.in_ok-partial.partial.inner c.in_ok-partial.ensures.inner c.in_ok-partial.ensures.opened
    c.requires.room)

pub returns-clause-children : goal.returns-clause-children
returns-clause-children c = c.in_ok-partial.ensures.children ∙ c.new.ensures.items

pub returns-clause-entered : goal.returns-clause-entered
returns-clause-entered c =
    follows-entered c.args.world.now c.open_partial.new.world c.args.moves c.args.into c.args.node c.args.next c.in_ok-ahead.ahead.items c.in_ok-ahead.ensures c.in_ok-partial.partial.inner c.in_ok-partial.ensures.inner c.in_ok-partial.ensures.opened
    c.children_into.new.world (rw c.deref.ensures.value at c.in_ok-children_into.ensures.drawn)

pub returns-clause-stays : goal.returns-clause-stays
returns-clause-stays c = stays-then c.args.world.now c.open_partial.new.world c.children_into.new.world c.in_ok-partial.ensures.stays c.in_ok-children_into.ensures.stays

pub returns-in_err-ahead-clause-left : goal.returns-in_err-ahead-clause-left
returns-in_err-ahead-clause-left c still a h newer l = l

pub returns-in_err-partial-clause-left : goal.returns-in_err-partial-clause-left
returns-in_err-partial-clause-left c still a h newer l = c.open_partial.ensures.left a h newer l

pub returns-in_err-children_into-clause-left : goal.returns-in_err-children_into-clause-left
returns-in_err-children_into-clause-left c still a h newer l = c.children_into.ensures.left still a h (rest-newer a c.in_ok-partial.partial.copy (c.in_ok-partial.partial.inner ∷ []) (c.in_ok-partial.ensures.begun a h newer l)) (c.open_partial.ensures.left a h newer l)

pub returns-clause-left : goal.returns-clause-left
returns-clause-left c still a h newer l = c.children_into.ensures.left still a h (rest-newer a c.in_ok-partial.partial.copy (c.in_ok-partial.partial.inner ∷ []) (c.in_ok-partial.ensures.begun a h newer l)) (c.open_partial.ensures.left a h newer l)

pub returns-clause-begun : goal.returns-clause-begun
returns-clause-begun c = c.in_ok-partial.ensures.begun
