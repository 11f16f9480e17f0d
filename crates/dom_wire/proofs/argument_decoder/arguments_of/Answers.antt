use Rattle.std.proofs.Common.{◌≢◌, length, map, refl}
use Rattle.std.proofs.lemmas.List.{length-map}
use Rattle.serde_json.specs.View.{view}
use Rattle.dom_wire.specs.Shapes.{shape_view}
use Rattle.dom_wire.proofs.ReadStepLemmas.{arguments_from-none}
use Rattle.dom_wire.proofs.argument_decoder.arguments_of.Goals as goal

pub returns-then-shapes-values : goal.returns-then-shapes-values
returns-then-shapes-values c =
    let other : length (map shape_view c.args.shapes.now) ≢ length (map view c.args.values.now) =
    rw (length-map c.args.shapes.now shape_view, length-map c.args.values.now view) c.if-shapes-values.true in
    (refl, arguments_from-none _ _ _ _ other)
