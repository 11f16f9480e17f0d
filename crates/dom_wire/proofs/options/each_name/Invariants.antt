use Rattle.std.proofs.Common.{◌≡◌, drop, map, ◌++◌, string_bytes, option_map}
use Rattle.serde_json.specs.{Find.as_str, View.items_view}
use Rattle.dom_model.specs.Definitions.{each_item}
use Rattle.dom_wire.proofs.options.each_name.Given as goal

abbrev pub invariant-loop-item : goal.invariant-loop-item
invariant-loop-item l =
    each_item as_str (items_view l.items) ≡ option_map (λ others. map string_bytes l.names.items ++ others) (each_item as_str (items_view (drop l.item-index l.items)))
