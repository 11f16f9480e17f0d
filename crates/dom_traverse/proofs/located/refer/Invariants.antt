-- No item that was passed stands there.
use Rattle.std.proofs.Common.{◌≡◌, drop}
use Rattle.std.specs.List.{list_any, flat_map}
use Rattle.dom_model.specs.Definitions.{among, inclusive_descendants}
use Rattle.dom_traverse.specs.NamedNodes.{named_by}
use Rattle.dom_traverse.proofs.located.refer.Given as goal

abbrev pub invariant-loop-item : goal.invariant-loop-item
invariant-loop-item g l =
    list_any (λ m. among m (inclusive_descendants l.tree.forest l.top)) (flat_map (named_by g.T.Positioned.root_of g.T.Positioned.node_of) l.items)
    ≡ list_any (λ m. among m (inclusive_descendants l.tree.forest l.top)) (flat_map (named_by g.T.Positioned.root_of g.T.Positioned.node_of) (drop l.item-index l.items))
