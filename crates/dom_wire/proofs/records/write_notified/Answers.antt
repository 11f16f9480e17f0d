use Rattle.std.proofs.Common.{arith}
use Rattle.std.proofs.lemmas.Grind.{common_steps}
use Rattle.dom_model.specs.Definitions.{told_json}
use Rattle.dom_wire.proofs.ReadStepLemmas.{list_closed}
use Rattle.dom_wire.proofs.records.write_notified.Goals as goal

pub returns : goal.returns
returns c =
    list_closed _ c.args.writer.now c.loop-one.writer _ told_json c.args.told.now c.loop-one.one-index c.loop-one-test.false c.loop-one.invariant.before c.loop-one.invariant.tokens c.end_array.ensures

pub loop-one-preserved : goal.loop-one-preserved
loop-one-preserved c = grind (arith, common_steps)
