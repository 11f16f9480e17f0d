use Rattle.dom_model.specs.Definitions.{number_json}
use Rattle.dom_wire.proofs.ReadStepLemmas.{list_closed}
use Rattle.dom_wire.proofs.values.write_numbers.Goals as goal

pub returns : goal.returns
returns c =
    list_closed _ c.args.writer.now c.loop-number.writer _ number_json c.args.numbers.now c.loop-number.number-index c.loop-number-test.false c.loop-number.invariant.before c.loop-number.invariant.tokens c.end_array.ensures
