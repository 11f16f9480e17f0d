use Rattle.std.proofs.lemmas.Result.{on_ok_weaker}
use Rattle.dom_model.specs.Definitions.{Range, extracted, extract}
use Rattle.dom_model.proofs.TokenText.EditsMade.EditsOfDrawnContents.{check-range}
use Rattle.dom_edit.specs.Whole.{unwatched}
use Rattle.dom_content.proofs.{ContentsExtracted.told-result, RangeTexts.range-held, DrawnContents.range-extracted, DrawnContents.room-extracted}
use Rattle.dom_content.proofs.extraction.extract_checked.Goals as goal
use Rattle.dom_edit.proofs.InsertLemmas.{follows-as}

pub parts_of-requires : goal.parts_of-requires
parts_of-requires c = record { range = range-held c.args.world.now c.requires.whole c.args.range (record { start = c.ends-start.result.0; end = c.ends-start.result.1 }) c.ends-start.ensures.ends }

pub extract_parts-requires-clause-range : goal.extract_parts-requires-clause-range
extract_parts-requires-clause-range c = range-held c.args.world.now c.requires.whole c.args.range (record { start = c.ends-start.result.0; end = c.ends-start.result.1 }) c.ends-start.ensures.ends

pub extract_parts-requires-clause-allowed : goal.extract_parts-requires-clause-allowed
extract_parts-requires-clause-allowed c = check-range (unwatched c.args.world.now) c.args.range (record { start = c.ends-start.result.0; end = c.ends-start.result.1 }) c.ends-start.ensures.ends c.requires.allowed

pub extract_parts-requires-clause-room : goal.extract_parts-requires-clause-room
extract_parts-requires-clause-room c = room-extracted c.args.world.now c.args.range (record { start = c.ends-start.result.0; end = c.ends-start.result.1 }) c.ends-start.ensures.ends c.requires.room

pub returns-clause-extracted : goal.returns-clause-extracted
returns-clause-extracted c =
    let v = c.args.world.now in
    let range : Range = record { start = c.ends-start.result.0; end = c.ends-start.result.1 } in
    told-result v c.extract_parts.new.world c.args.range c.requires.whole c.extract_parts.ensures.whole c.requires.allowed c.extract_parts.result c.extract_parts.ensures.number
    (on_ok_weaker c.extract_parts.result
    (follows-as v c.extract_parts.new.world (extracted c.args.range range) (extract c.args.range) (λ w k. range-extracted v c.args.range range c.ends-start.ensures.ends w k))
    c.extract_parts.ensures.extracted)
