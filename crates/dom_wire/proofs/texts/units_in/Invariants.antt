use Rattle.std.proofs.Common.{◌≡◌, drop, ◌++◌, option_map}
use Rattle.serde_json.specs.View.{items_view}
use Rattle.dom_model.specs.Definitions.{unit_in, each_item}
use Rattle.dom_wire.proofs.texts.units_in.Given as goal

abbrev pub invariant-loop-item : goal.invariant-loop-item
invariant-loop-item l =
    each_item unit_in (items_view l.items) ≡ option_map (λ others. l.units.items ++ others) (each_item unit_in (items_view (drop l.item-index l.items)))
