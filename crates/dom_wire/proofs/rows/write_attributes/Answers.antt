use Rattle.std.proofs.Common.{◌∙◌, arith}
use Rattle.dom_model.specs.Definitions.{attribute_json}
use Rattle.dom_wire.proofs.ReadStepLemmas.{list_closed, list_grown}
use Rattle.dom_wire.proofs.rows.write_attributes.Goals as goal

pub loop-index-preserved : goal.loop-index-preserved
loop-index-preserved c = record {
  before = c.write_attribute.ensures.before ∙ c.loop-index.invariant.before;
  tokens = list_grown attribute_json c.args.writer.now.tokens c.loop-index.writer.tokens _ c.args.body.now.attributes c.loop-index.index _ c.pair_at.ensures c.loop-index.invariant.tokens c.in_ok-write_attribute.ensures.tokens;
}

pub returns : goal.returns
returns c =
    list_closed _ c.args.writer.now c.loop-index.writer _ attribute_json c.args.body.now.attributes c.loop-index.index (omega arith) c.loop-index.invariant.before c.loop-index.invariant.tokens c.end_array.ensures
