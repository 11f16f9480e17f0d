use Rattle.dom_model.specs.Definitions.{number_json}
use Rattle.dom_wire.proofs.ReadStepLemmas.{list_closed}
use Rattle.dom_wire.proofs.values.write_each_unit.Goals as goal

pub returns : goal.returns
returns c =
    list_closed _ c.args.writer.now c.loop-unit.writer _ number_json c.args.units.now c.loop-unit.unit-index c.loop-unit-test.false c.loop-unit.invariant.before c.loop-unit.invariant.tokens c.end_array.ensures
