use Rattle.std.proofs.Common.{◌≡◌, drop, map}
use Rattle.serde_json.specs.View.{view}
use Rattle.dom_model.specs.Definitions.{no_arguments, arguments_from}
use Rattle.dom_wire.specs.Shapes.{shape_view, arguments_view}
use Rattle.dom_wire.proofs.argument_decoder.arguments_of.Given as goal

abbrev pub invariant-loop-place : goal.invariant-loop-place
invariant-loop-place l =
    arguments_from 0 (map shape_view l.shapes) (map view l.values) no_arguments
    ≡ arguments_from l.place (map shape_view (drop l.place l.shapes)) (map view (drop l.place l.values)) (arguments_view l.arguments)
