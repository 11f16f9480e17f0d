-- The ends stay, or go to the new place.
use Rattle.std.proofs.Common.{true, ◌∙◌}
use Rattle.dom_model.specs.Definitions.{Range}
use Rattle.dom_edit.proofs.KeepsNodesLemmas.{labels-then}
use Rattle.dom_content.proofs.{DrawnContents.extracted-here, DrawnContents.extracted-moved, DrawnContents.place-drawn, DrawnContents.live-drawn, PartsGathered.way-from_top, PartsGathered.place-by_parts, extraction.extract_parts.Goals.then-not-stays, extraction.extract_parts.Goals.else-not-stays}
use Rattle.dom_content.proofs.extraction.extract_parts.Goals as goal

pub new_place-place-requires : goal.new_place-place-requires
new_place-place-requires c =
    let range : Range = record { start = c.args.ends.0; end = c.args.ends.1 } in
    record { way = way-from_top c.args.world.now.tree c.requires.whole.forest range c.requires.range c.deref.result.now (c.deref.ensures.value ∙ c.requires.parts.first) }

pub stand_at-requires-clause-live : goal.stand_at-requires-clause-live
stand_at-requires-clause-live c =
    let range : Range = record { start = c.args.ends.0; end = c.args.ends.1 } in
    live-drawn c.args.world.now c.requires.whole range c.requires.range c.requires.allowed true c.args.range c.draw.new.world c.in_ok-fragment.ensures.drawn c.requires.live

pub stand_at-requires-clause-within : goal.stand_at-requires-clause-within
stand_at-requires-clause-within c =
    let range : Range = record { start = c.args.ends.0; end = c.args.ends.1 } in
    place-drawn c.args.world.now c.requires.whole range c.requires.range c.requires.allowed c.follows_cut-stays.result c.follows_cut-stays.ensures c.if-not-stays.true
    c.draw.new.world c.in_ok-fragment.ensures.drawn c.new_place-place.result
    (place-by_parts c.args.world.now.tree c.requires.whole.forest range c.requires.range c.deref.result.now (c.deref.ensures.value ∙ c.requires.parts.first) c.new_place-place.result c.new_place-place.ensures)

pub returns-clause-extracted : goal.returns-clause-extracted
returns-clause-extracted c =
    let range : Range = record { start = c.args.ends.0; end = c.args.ends.1 } in
    elim c.if-not-stays.branch [
      | then-not-stays w ↦
          rw w.world-is (extracted-moved c.args.world.now c.args.range range c.follows_cut-stays.result c.follows_cut-stays.ensures c.draw.new.world w.stand_at.new.world c.new_place-place.result w.if-not-stays.true
          (place-by_parts c.args.world.now.tree c.requires.whole.forest range c.requires.range c.deref.result.now (c.deref.ensures.value ∙ c.requires.parts.first) c.new_place-place.result c.new_place-place.ensures)
          c.in_ok-fragment.ensures.drawn w.stand_at.ensures.stands)
      | else-not-stays w ↦
          rw w.world-is (extracted-here c.args.world.now c.args.range range c.follows_cut-stays.result c.follows_cut-stays.ensures c.draw.new.world w.if-not-stays.false c.in_ok-fragment.ensures.drawn)
    ]

pub returns-clause-whole : goal.returns-clause-whole
returns-clause-whole c =
    elim c.if-not-stays.branch [
      | then-not-stays w ↦ rw w.world-is w.stand_at.ensures.whole
      | else-not-stays w ↦ rw w.world-is c.in_ok-fragment.ensures.whole
    ]

pub returns-clause-kept : goal.returns-clause-kept
returns-clause-kept c =
    elim c.if-not-stays.branch [
      | then-not-stays w ↦
          rw w.world-is (labels-then c.args.world.now c.draw.new.world w.stand_at.new.world c.in_ok-fragment.ensures.kept w.stand_at.ensures.kept)
      | else-not-stays w ↦ rw w.world-is c.in_ok-fragment.ensures.kept
    ]
