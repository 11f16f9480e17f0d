use Rattle.dom_model.specs.Definitions.{SetEndAfter}
use Rattle.dom_model.proofs.RangesAndContents.RangesSet.{boundary_after}
use Rattle.dom_session.proofs.RangeAnswers.{answer-set_end_after}
use Rattle.dom_session.proofs.range_setters.set_end_after.Goals as goal

pub set_end_beside-requires-clause-boundary : goal.set_end_beside-requires-clause-boundary
set_end_beside-requires-clause-boundary c = rw (c.point_after-point.ensures, c.cache_index.ensures) (boundary_after c.requires.shown.shows.whole.forest c.args.node)

pub returns : goal.returns
returns c = record {
  step = λ b. rw (← c.cache_index.ensures) (c.set_end_beside.ensures.step b (SetEndAfter c.args.range c.args.node)
      (λ w shown. answer-set_end_after c.cache_index.new.world b w shown c.args.range c.args.node c.point_after-point.result c.point_after-point.ensures));
}
