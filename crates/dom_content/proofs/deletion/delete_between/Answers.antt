-- The steps of the definition, one after another.
use Rattle.std.proofs.Common.{ap, ◌∙◌, is_some, arith, Option}
use Rattle.std.proofs.lemmas.Grind.{common_steps}
use Rattle.dom_model.specs.Definitions.{Point, Range}
use Rattle.dom_content.proofs.{RangeTexts.range-held, PartsGathered.way-from_top, PartsGathered.place-by_parts, DeletedBetween.tops-there, DeletedBetween.end-there, DeletedBetween.place-left, DeletedBetween.live-still, DeletedBetween.follows-deleted_between}
use Rattle.dom_content.proofs.deletion.delete_between.Goals as goal

pub remove_each-requires-clause-held : goal.remove_each-requires-clause-held
remove_each-requires-clause-held c =
    let v = c.args.world.now in
    let range : Range = record { start = c.args.start; end = c.args.end } in
    let is = range-held v c.requires.whole c.args.range range c.requires.ends in
    tops-there v c.requires.whole c.args.range range is c.requires.apart c.cut_from.new.world c.in_ok-cut_from.ensures.cut c.deref-2.result.now (c.deref-2.ensures.value ∙ c.in_ok-tops.ensures)

pub cut_up_to-requires-clause-held : goal.cut_up_to-requires-clause-held
cut_up_to-requires-clause-held c =
    let v = c.args.world.now in
    let range : Range = record { start = c.args.start; end = c.args.end } in
    let is = range-held v c.requires.whole c.args.range range c.requires.ends in
    end-there v c.requires.whole c.args.range range is c.requires.apart c.cut_from.new.world c.in_ok-cut_from.ensures.cut c.deref-2.result.now (c.deref-2.ensures.value ∙ c.in_ok-tops.ensures) c.remove_each.new.world
    c.in_ok-remove_each.ensures.removed

pub stand_at-requires-clause-live : goal.stand_at-requires-clause-live
stand_at-requires-clause-live c =
    let v = c.args.world.now in
    let range : Range = record { start = c.args.start; end = c.args.end } in
    let is = range-held v c.requires.whole c.args.range range c.requires.ends in
    live-still v c.requires.whole c.args.range range is c.requires.apart c.cut_from.new.world c.in_ok-cut_from.ensures.cut c.deref-2.result.now (c.deref-2.ensures.value ∙ c.in_ok-tops.ensures) c.remove_each.new.world
    c.in_ok-remove_each.ensures.removed c.cut_up_to.new.world c.in_ok-cut_up_to.ensures.cut (ap (λ (o : Option Range). is_some o) c.requires.ends)

pub stand_at-requires-clause-within : goal.stand_at-requires-clause-within
stand_at-requires-clause-within c =
    let v = c.args.world.now in
    let range : Range = record { start = c.args.start; end = c.args.end } in
    let is = range-held v c.requires.whole c.args.range range c.requires.ends in
    place-left v c.requires.whole c.args.range range is c.requires.apart c.cut_from.new.world c.in_ok-cut_from.ensures.cut c.deref-2.result.now (c.deref-2.ensures.value ∙ c.in_ok-tops.ensures) c.remove_each.new.world
    c.in_ok-remove_each.ensures.removed c.cut_up_to.new.world c.in_ok-cut_up_to.ensures.cut c.new_place-place.result (place-by_parts v.tree c.requires.whole.forest range is c.deref.result.now (c.deref.ensures.value ∙ c.in_ok-parts.ensures.first) c.new_place-place.result c.new_place-place.ensures)

pub returns-clause-deleted : goal.returns-clause-deleted
returns-clause-deleted c =
    let v = c.args.world.now in
    let range : Range = record { start = c.args.start; end = c.args.end } in
    let is = range-held v c.requires.whole c.args.range range c.requires.ends in
    let place : Point = record { node = c.new_place-place.result.node; offset = c.new_place-place.result.offset } in
    follows-deleted_between v c.requires.whole c.args.range range is c.requires.apart c.cut_from.new.world c.in_ok-cut_from.ensures.cut c.deref-2.result.now (c.deref-2.ensures.value ∙ c.in_ok-tops.ensures) c.remove_each.new.world
    c.in_ok-remove_each.ensures.removed c.cut_up_to.new.world c.in_ok-cut_up_to.ensures.cut c.stand_at.new.world place (place-by_parts v.tree c.requires.whole.forest range is c.deref.result.now (c.deref.ensures.value ∙ c.in_ok-parts.ensures.first) c.new_place-place.result c.new_place-place.ensures) c.stand_at.ensures.stands

pub parts_of-requires : goal.parts_of-requires
parts_of-requires c = grind (arith, common_steps)

pub new_place-place-requires : goal.new_place-place-requires
new_place-place-requires c =
    let range : Range = record { start = c.args.start; end = c.args.end } in
    let is = range-held c.args.world.now c.requires.whole c.args.range range c.requires.ends in
    record { way = way-from_top c.args.world.now.tree c.requires.whole.forest range is c.deref.result.now (c.deref.ensures.value ∙ c.in_ok-parts.ensures.first) }

pub contained_tops-requires-clause-range : goal.contained_tops-requires-clause-range
contained_tops-requires-clause-range c = grind (arith, common_steps)

pub cut_from-requires-clause-held : goal.cut_from-requires-clause-held
cut_from-requires-clause-held c = grind (arith, common_steps)

pub cut_from-requires-clause-within : goal.cut_from-requires-clause-within
cut_from-requires-clause-within c = grind (arith, common_steps)
