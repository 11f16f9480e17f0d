-- The range is in order, and what its parts say is said of the live range.
use Rattle.std.proofs.Common.{false, refl, sym, ◌∙◌, subst}
use Rattle.dom_clone.proofs.LeavesAllLemmas.{left-same}
use Rattle.std.proofs.lemmas.Result.{err_from_is_err_and}
use Rattle.dom_model.specs.Definitions.{Range, contents_drawn, clone_contents}
use Rattle.dom_edit.specs.Refusals.{IsRefused}
use Rattle.dom_content.specs.LeftTokens.{HoldsBetween, CopiesBetween}
use Rattle.dom_content.proofs.{ContentsLeft.held-cloned, ContentsLeft.copied-cloned, ContentsMarked.asked-range, ContentsMarked.markers-cloned, DrawnContents.range-cloned, DrawnContents.room-cloned, RangeTexts.range-held}
use Rattle.dom_content.proofs.extraction.clone_contents.Goals as goal
use Rattle.dom_edit.proofs.InsertLemmas.{follows-as}

pub drawable_parts-requires-clause-range : goal.drawable_parts-requires-clause-range
drawable_parts-requires-clause-range c = range-held c.args.world.now c.requires.whole c.args.range (record { start = c.ends-start.result.0; end = c.ends-start.result.1 }) c.ends-start.ensures.ends

pub draw-requires-clause-range : goal.draw-requires-clause-range
draw-requires-clause-range c = range-held c.args.world.now c.requires.whole c.args.range (record { start = c.ends-start.result.0; end = c.ends-start.result.1 }) c.ends-start.ensures.ends

pub draw-requires-clause-room : goal.draw-requires-clause-room
draw-requires-clause-room c =
    let v = c.args.world.now in
    let range : Range = record { start = c.ends-start.result.0; end = c.ends-start.result.1 } in
    room-cloned v c.args.range range c.ends-start.ensures.ends (c.requires.room (asked-range v c.args.range range c.ends-start.ensures.ends ∙ c.in_ok-parts.ensures.allowed))

pub returns-in_err-parts-clause-refused : goal.returns-in_err-parts-clause-refused
returns-in_err-parts-clause-refused c =
    let v = c.args.world.now in
    let range : Range = record { start = c.ends-start.result.0; end = c.ends-start.result.1 } in
    let p = err_from_is_err_and c.from_residual.result c.from_residual.ensures.1 in
    rw (p.1, p.2) (subst (λ o. IsRefused c.in_err-parts.field-0.0 o v v) (sym (asked-range v c.args.range range c.ends-start.ensures.ends)) c.in_err-parts.ensures.refused)

pub returns-clause-allowed : goal.returns-clause-allowed
returns-clause-allowed c =
    let range : Range = record { start = c.ends-start.result.0; end = c.ends-start.result.1 } in
    asked-range c.args.world.now c.args.range range c.ends-start.ensures.ends ∙ c.in_ok-parts.ensures.allowed

pub returns-clause-cloned : goal.returns-clause-cloned
returns-clause-cloned c =
    let v = c.args.world.now in
    let range : Range = record { start = c.ends-start.result.0; end = c.ends-start.result.1 } in
    follows-as v c.draw.new.world (contents_drawn false range) (clone_contents c.args.range) (λ w k. range-cloned v c.args.range range c.ends-start.ensures.ends w k) c.in_ok-fragment.ensures.drawn

pub returns-clause-markers : goal.returns-clause-markers
returns-clause-markers c =
    markers-cloned c.args.world.now c.draw.new.world c.args.range c.requires.whole c.in_ok-fragment.ensures.whole (returns-clause-allowed c) (returns-clause-cloned c)

pub returns-clause-held : goal.returns-clause-held
returns-clause-held c =
    subst (λ id. HoldsBetween c.args.world.now c.draw.new.world c.args.range id) (sym c.in_ok-fragment.ensures.number)
    (held-cloned c.args.world.now c.draw.new.world c.args.range c.requires.whole (returns-clause-allowed c) (returns-clause-cloned c))

pub returns-clause-copied : goal.returns-clause-copied
returns-clause-copied c =
    subst (λ id. CopiesBetween c.args.world.now c.draw.new.world c.args.range id) (sym c.in_ok-fragment.ensures.number)
    (copied-cloned c.args.world.now c.draw.new.world c.args.range c.requires.whole (returns-clause-allowed c) (returns-clause-cloned c))

pub returns-in_err-parts-clause-left : goal.returns-in_err-parts-clause-left
returns-in_err-parts-clause-left c = left-same c.args.world.now

pub returns-in_err-fragment-clause-left : goal.returns-in_err-fragment-clause-left
returns-in_err-fragment-clause-left c = c.draw.ensures.left refl

pub returns-clause-left : goal.returns-clause-left
returns-clause-left c = c.draw.ensures.left refl
