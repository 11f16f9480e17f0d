use Rattle.dom_model.specs.Definitions.{row_json}
use Rattle.dom_wire.proofs.ReadStepLemmas.{list_closed}
use Rattle.dom_wire.proofs.rows.write_rows.Goals as goal

pub returns : goal.returns
returns c =
    list_closed _ c.args.writer.now c.loop-row.writer _ row_json c.args.rows.now c.loop-row.row-index c.loop-row-test.false c.loop-row.invariant.before c.loop-row.invariant.tokens c.end_array.ensures
