-- A fragment beside the trees, and what goes into it.
use Rattle.std.proofs.Common.{refl, ap}
use Rattle.dom_content.specs.DrawnParts.{in_one_data}
use Rattle.dom_content.proofs.{RangeTexts.ahead-of, AreNewerLemmas.own-newer, StaysLemmas.stays-then, DrawnContents.document-is, DrawnContents.one-same, DrawnContents.follows-drawn, DrawnContents.room-fragment, DrawnContents.room-filled, MayFillLemmas.may-fill}
use Rattle.dom_content.proofs.extraction.draw.Goals as goal

pub new_fragment-requires-clause-room : goal.new_fragment-requires-clause-room
new_fragment-requires-clause-room c =
    let v = c.args.world.now in
    room-fragment v c.requires.whole (record { start = c.args.drawn.now.start; end = c.args.drawn.now.end }) c.requires.range c.args.drawn.now.parts.now.first.items c.args.drawn.now.parts.now.contained.items c.args.drawn.now.parts.now.last.items c.requires.parts
    c.args.drawn.now.moves (in_one_data v.tree.forest (record { start = c.args.drawn.now.start; end = c.args.drawn.now.end })) v.tree.made c.document_in-document.result refl
    (document-is v.tree.forest c.start.inside.node c.args.drawn.now.start.node c.document_in-document.result (ap (λ p. p.node) c.start.view_is) c.document_in-document.ensures.document)
    refl c.requires.room

pub fill-requires-clause-start_held : goal.fill-requires-clause-start_held
fill-requires-clause-start_held c = c.in_ok-fragment.ensures.kept.held c.args.drawn.now.start.node c.requires.range.starts.there

pub fill-requires-clause-ahead : goal.fill-requires-clause-ahead
fill-requires-clause-ahead c = λ h. ahead-of c.args.world.now.tree.forest (record { start = c.args.drawn.now.start; end = c.args.drawn.now.end }) c.args.drawn.now.start c.args.drawn.now.end c.requires.range refl refl h

pub fill-requires-clause-may : goal.fill-requires-clause-may
fill-requires-clause-may c =
    let m = may-fill c.args.world.now c.requires.whole (record { start = c.args.drawn.now.start; end = c.args.drawn.now.end }) c.requires.range c.requires.allowed c.args.drawn.now.parts.now.first.items c.args.drawn.now.parts.now.contained.items c.args.drawn.now.parts.now.last.items c.requires.parts
    c.new_fragment.new.world c.document_in-document.result c.in_ok-fragment.fragment
    (document-is c.args.world.now.tree.forest c.start.inside.node c.args.drawn.now.start.node c.document_in-document.result (ap (λ p. p.node) c.start.view_is) c.document_in-document.ensures.document)
    c.in_ok-fragment.ensures.number c.in_ok-fragment.ensures.made c.in_ok-fragment.ensures.stays in
    m.may

pub fill-requires-clause-first_way : goal.fill-requires-clause-first_way
fill-requires-clause-first_way c =
    let m = may-fill c.args.world.now c.requires.whole (record { start = c.args.drawn.now.start; end = c.args.drawn.now.end }) c.requires.range c.requires.allowed c.args.drawn.now.parts.now.first.items c.args.drawn.now.parts.now.contained.items c.args.drawn.now.parts.now.last.items c.requires.parts
    c.new_fragment.new.world c.document_in-document.result c.in_ok-fragment.fragment
    (document-is c.args.world.now.tree.forest c.start.inside.node c.args.drawn.now.start.node c.document_in-document.result (ap (λ p. p.node) c.start.view_is) c.document_in-document.ensures.document)
    c.in_ok-fragment.ensures.number c.in_ok-fragment.ensures.made c.in_ok-fragment.ensures.stays in
    m.first_way

pub fill-requires-clause-last_way : goal.fill-requires-clause-last_way
fill-requires-clause-last_way c =
    let m = may-fill c.args.world.now c.requires.whole (record { start = c.args.drawn.now.start; end = c.args.drawn.now.end }) c.requires.range c.requires.allowed c.args.drawn.now.parts.now.first.items c.args.drawn.now.parts.now.contained.items c.args.drawn.now.parts.now.last.items c.requires.parts
    c.new_fragment.new.world c.document_in-document.result c.in_ok-fragment.fragment
    (document-is c.args.world.now.tree.forest c.start.inside.node c.args.drawn.now.start.node c.document_in-document.result (ap (λ p. p.node) c.start.view_is) c.document_in-document.ensures.document)
    c.in_ok-fragment.ensures.number c.in_ok-fragment.ensures.made c.in_ok-fragment.ensures.stays in
    m.last_way

pub fill-requires-clause-within : goal.fill-requires-clause-within
fill-requires-clause-within c =
    let m = may-fill c.args.world.now c.requires.whole (record { start = c.args.drawn.now.start; end = c.args.drawn.now.end }) c.requires.range c.requires.allowed c.args.drawn.now.parts.now.first.items c.args.drawn.now.parts.now.contained.items c.args.drawn.now.parts.now.last.items c.requires.parts
    c.new_fragment.new.world c.document_in-document.result c.in_ok-fragment.fragment
    (document-is c.args.world.now.tree.forest c.start.inside.node c.args.drawn.now.start.node c.document_in-document.result (ap (λ p. p.node) c.start.view_is) c.document_in-document.ensures.document)
    c.in_ok-fragment.ensures.number c.in_ok-fragment.ensures.made c.in_ok-fragment.ensures.stays in
    m.within

pub fill-requires-clause-room : goal.fill-requires-clause-room
fill-requires-clause-room c =
    let v = c.args.world.now in
    let x = c.new_fragment.new.world in
    room-filled v c.requires.whole (record { start = c.args.drawn.now.start; end = c.args.drawn.now.end }) c.requires.range c.args.drawn.now.parts.now.first.items c.args.drawn.now.parts.now.contained.items c.args.drawn.now.parts.now.last.items c.requires.parts
    c.args.drawn.now.moves (in_one_data x.tree.forest (record { start = c.args.drawn.now.start; end = c.args.drawn.now.end })) c.in_ok-fragment.fragment c.document_in-document.result c.in_ok-fragment.ensures.number
    (document-is v.tree.forest c.start.inside.node c.args.drawn.now.start.node c.document_in-document.result (ap (λ p. p.node) c.start.view_is) c.document_in-document.ensures.document)
    (one-same v c.requires.whole (record { start = c.args.drawn.now.start; end = c.args.drawn.now.end }) c.requires.range x c.document_in-document.result c.in_ok-fragment.ensures.made)
    x c.in_ok-fragment.ensures.made c.requires.room

pub returns-clause-drawn : goal.returns-clause-drawn
returns-clause-drawn c =
    let v = c.args.world.now in
    let x = c.new_fragment.new.world in
    follows-drawn v c.requires.whole (record { start = c.args.drawn.now.start; end = c.args.drawn.now.end }) c.requires.range c.args.drawn.now.parts.now.first.items c.args.drawn.now.parts.now.contained.items c.args.drawn.now.parts.now.last.items c.requires.parts
    c.args.drawn.now.moves (in_one_data x.tree.forest (record { start = c.args.drawn.now.start; end = c.args.drawn.now.end })) c.in_ok-fragment.fragment c.document_in-document.result c.in_ok-fragment.ensures.number
    (document-is v.tree.forest c.start.inside.node c.args.drawn.now.start.node c.document_in-document.result (ap (λ p. p.node) c.start.view_is) c.document_in-document.ensures.document)
    (one-same v c.requires.whole (record { start = c.args.drawn.now.start; end = c.args.drawn.now.end }) c.requires.range x c.document_in-document.result c.in_ok-fragment.ensures.made)
    x c.fill.new.world c.in_ok-fragment.ensures.made c.in_ok-fill.ensures.drawn

pub returns-clause-stays : goal.returns-clause-stays
returns-clause-stays c = stays-then c.args.world.now c.new_fragment.new.world c.fill.new.world c.in_ok-fragment.ensures.stays c.in_ok-fill.ensures.stays

pub returns-in_err-fragment-clause-left : goal.returns-in_err-fragment-clause-left
returns-in_err-fragment-clause-left c still = c.new_fragment.ensures.left

pub returns-in_err-fill-clause-left : goal.returns-in_err-fill-clause-left
returns-in_err-fill-clause-left c still = c.fill.ensures.left still c.args.world.now c.requires.whole (own-newer c.args.world.now c.in_ok-fragment.fragment c.in_ok-fragment.ensures.number) c.new_fragment.ensures.left

pub returns-clause-left : goal.returns-clause-left
returns-clause-left c still = c.fill.ensures.left still c.args.world.now c.requires.whole (own-newer c.args.world.now c.in_ok-fragment.fragment c.in_ok-fragment.ensures.number) c.new_fragment.ensures.left
