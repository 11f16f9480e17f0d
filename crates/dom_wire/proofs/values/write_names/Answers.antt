use Rattle.std.proofs.Common.{string_bytes}
use Rattle.serde_json.specs.Data.{string}
use Rattle.dom_wire.proofs.ReadStepLemmas.{list_closed, map-twice}
use Rattle.dom_wire.proofs.values.write_names.Goals as goal

pub returns : goal.returns
returns c =
    rw (map-twice string string_bytes c.args.names.now)
    (list_closed _ c.args.writer.now c.loop-name.writer _ (λ name. string (string_bytes name)) c.args.names.now c.loop-name.name-index c.loop-name-test.false c.loop-name.invariant.before c.loop-name.invariant.tokens c.end_array.ensures)
