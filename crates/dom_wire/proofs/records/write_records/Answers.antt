use Rattle.std.proofs.Common.{arith}
use Rattle.std.proofs.lemmas.Grind.{common_steps}
use Rattle.dom_model.specs.Definitions.{record_json}
use Rattle.dom_wire.proofs.ReadStepLemmas.{list_closed}
use Rattle.dom_wire.proofs.records.write_records.Goals as goal

pub returns : goal.returns
returns c =
    list_closed _ c.args.writer.now c.loop-record.writer _ record_json c.args.records.now c.loop-record.record-index c.loop-record-test.false c.loop-record.invariant.before c.loop-record.invariant.tokens c.end_array.ensures

pub loop-record-preserved : goal.loop-record-preserved
loop-record-preserved c = grind (arith, common_steps)
