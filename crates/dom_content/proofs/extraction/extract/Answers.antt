-- The range is in order, and what its parts say is said of the live range.
use Rattle.std.proofs.Common.{sym, ◌∙◌, subst}
use Rattle.std.proofs.lemmas.Result.{err_from_is_err_and}
use Rattle.dom_model.specs.Definitions.{Range, extracted, extract}
use Rattle.dom_edit.specs.Refusals.{IsRefused}
use Rattle.dom_content.proofs.{ContentsExtracted.told-fragment, ContentsMarked.asked-range, DrawnContents.range-extracted, DrawnContents.room-extracted, RangeTexts.range-held}
use Rattle.dom_content.proofs.extraction.extract.Goals as goal
use Rattle.dom_edit.proofs.InsertLemmas.{follows-as}

pub drawable_parts-requires-clause-range : goal.drawable_parts-requires-clause-range
drawable_parts-requires-clause-range c = range-held c.args.world.now c.requires.whole c.args.range (record { start = c.ends-start.result.0; end = c.ends-start.result.1 }) c.ends-start.ensures.ends

pub extract_parts-requires-clause-range : goal.extract_parts-requires-clause-range
extract_parts-requires-clause-range c = range-held c.args.world.now c.requires.whole c.args.range (record { start = c.ends-start.result.0; end = c.ends-start.result.1 }) c.ends-start.ensures.ends

pub extract_parts-requires-clause-room : goal.extract_parts-requires-clause-room
extract_parts-requires-clause-room c =
    let v = c.args.world.now in
    let range : Range = record { start = c.ends-start.result.0; end = c.ends-start.result.1 } in
    room-extracted v c.args.range range c.ends-start.ensures.ends (c.requires.room (asked-range v c.args.range range c.ends-start.ensures.ends ∙ c.in_ok-parts.ensures.allowed))

pub returns-in_err-parts-clause-refused : goal.returns-in_err-parts-clause-refused
returns-in_err-parts-clause-refused c =
    let v = c.args.world.now in
    let range : Range = record { start = c.ends-start.result.0; end = c.ends-start.result.1 } in
    let p = err_from_is_err_and c.from_residual.result c.from_residual.ensures.1 in
    rw (p.1, p.2) (subst (λ o. IsRefused c.in_err-parts.field-0.0 o v v) (sym (asked-range v c.args.range range c.ends-start.ensures.ends)) c.in_err-parts.ensures.refused)

pub returns-clause-allowed : goal.returns-clause-allowed
returns-clause-allowed c =
    let range : Range = record { start = c.ends-start.result.0; end = c.ends-start.result.1 } in
    asked-range c.args.world.now c.args.range range c.ends-start.ensures.ends ∙ c.in_ok-parts.ensures.allowed

pub returns-clause-extracted : goal.returns-clause-extracted
returns-clause-extracted c =
    let v = c.args.world.now in
    let range : Range = record { start = c.ends-start.result.0; end = c.ends-start.result.1 } in
    told-fragment v c.extract_parts.new.world c.args.range c.requires.whole c.in_ok-fragment.ensures.whole (returns-clause-allowed c) c.in_ok-fragment.fragment c.in_ok-fragment.ensures.number
    (follows-as v c.extract_parts.new.world (extracted c.args.range range) (extract c.args.range) (λ w k. range-extracted v c.args.range range c.ends-start.ensures.ends w k) c.in_ok-fragment.ensures.extracted)
