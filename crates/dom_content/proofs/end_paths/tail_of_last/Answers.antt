-- Units of a node with data, or children of another.
use Rattle.std.proofs.Common.{[], drop, sym, ◌∙◌}
use Rattle.std.proofs.lemmas.Result.{on_ok_weaker}
use Rattle.dom_model.specs.Definitions.{children_of}
use Rattle.dom_model.proofs.RangesAndContents.DrawnPaths.{hits-drop}
use Rattle.dom_content.specs.DrawConditions.{AreOld}
use Rattle.dom_content.proofs.{MayDrawLemmas.first-old, MayDrawLemmas.more-old, MayDrawLemmas.none-old, MayDrawLemmas.children-old, PathSteps.room-tail_units, PathSteps.follows-tail_units, PathSteps.room-tail_copy, PathSteps.follows-tail_copy}
use Rattle.dom_content.proofs.end_paths.tail_of_last.Goals as goal

pub units_into-requires-clause-kind : goal.units_into-requires-clause-kind
units_into-requires-clause-kind c = sym c.has_data.ensures ∙ c.if-has_data.true

pub units_into-requires-clause-room : goal.units_into-requires-clause-room
units_into-requires-clause-room c =
    room-tail_units c.args.world.now c.args.moves c.args.into c.args.offset c.args.node (sym c.has_data.ensures ∙ c.if-has_data.true) c.units_past-count.result c.units_past-count.ensures c.requires.room

pub returns-then-has_data-clause-drawn : goal.returns-then-has_data-clause-drawn
returns-then-has_data-clause-drawn c =
    on_ok_weaker c.units_into.result
    (follows-tail_units c.args.world.now c.args.moves c.args.into c.args.offset c.args.node (sym c.has_data.ensures ∙ c.if-has_data.true) c.units_past-count.result c.units_past-count.ensures
    c.units_into.new.world)
    c.units_into.ensures.drawn

pub copy_into-requires-clause-may : goal.copy_into-requires-clause-may
copy_into-requires-clause-may c =
    let v = c.args.world.now in
    let m = c.requires.may in
    let o = first-old m.low v.tree.forest c.args.node [] m.nodes in
    let no_data = sym c.has_data.ensures ∙ c.if-has_data.false in
    let kids = children-old v c.requires.whole m.low m.rising c.args.into m.holder c.args.node o no_data (drop c.args.offset (children_of v.tree.forest c.args.node)) (λ x. hits-drop x c.args.offset (children_of v.tree.forest c.args.node)) in
    let listed : AreOld m.low v.tree.forest c.in_ok-behind.behind.items = rw c.in_ok-behind.ensures kids in
    record { low = m.low; rising = m.rising; holder = m.holder; nodes = more-old m.low v.tree.forest c.args.node c.in_ok-behind.behind.items o listed }

pub copy_into-requires-clause-no_data : goal.copy_into-requires-clause-no_data
copy_into-requires-clause-no_data c = sym c.has_data.ensures ∙ c.if-has_data.false

pub units_into-requires-clause-may : goal.units_into-requires-clause-may
units_into-requires-clause-may c = record { low = c.requires.may.low; rising = c.requires.may.rising; holder = c.requires.may.holder; nodes = none-old c.requires.may.low c.args.world.now.tree.forest }

pub copy_into-requires-clause-room : goal.copy_into-requires-clause-room
copy_into-requires-clause-room c =
    room-tail_copy c.args.world.now c.args.moves c.args.into c.args.offset c.args.node (sym c.has_data.ensures ∙ c.if-has_data.false) c.in_ok-behind.behind.items c.in_ok-behind.ensures c.requires.room

pub returns-clause-drawn : goal.returns-clause-drawn
returns-clause-drawn c =
    on_ok_weaker c.copy_into.result
    (follows-tail_copy c.args.world.now c.args.moves c.args.into c.args.offset c.args.node (sym c.has_data.ensures ∙ c.if-has_data.false) c.in_ok-behind.behind.items c.in_ok-behind.ensures
    c.copy_into.new.world)
    c.copy_into.ensures.copied

pub units_into-requires-clause-within : goal.units_into-requires-clause-within
units_into-requires-clause-within c = c.requires.way (sym c.has_data.ensures ∙ c.if-has_data.true)

pub returns-then-has_data-clause-left : goal.returns-then-has_data-clause-left
returns-then-has_data-clause-left c = c.units_into.ensures.left

pub returns-in_err-behind-clause-left : goal.returns-in_err-behind-clause-left
returns-in_err-behind-clause-left c still a h newer l = l

pub returns-clause-left : goal.returns-clause-left
returns-clause-left c = c.copy_into.ensures.left
