-- The nodes that the parts of a world of the code name, a node that something names, and ranges that forget one. Ours, as discarding is.
use Rattle.std.specs.Prelude.{ℕ, Bool, ◌||◌, List, ◌++◌, flat_map}
use Rattle.std.specs.List.{list_any}
use Rattle.dom_model.specs.PlainLists.Lists.{among}
use Rattle.dom_model.specs.Forests.Forest.{Forest, inclusive_descendants}
use Rattle.dom_model.specs.Worlds.World.{Content}
use Rattle.dom_model.specs.MutationAlgorithms.Discarding.{nodes_of_range, nodes_of_iterator, nodes_of_walker, nodes_unless_released, is_held_outside}
use Rattle.dom_ranges.specs.Tables.{uncovered, RangeTable}
use Rattle.dom_observe.specs.ObservedNodes.{referred_nodes}
use Rattle.dom_edit.specs.declared.world.World.{World}

-- every node that another part than the tree names
abbrev pub used_nodes : World → List ℕ
used_nodes v =
    flat_map (nodes_unless_released nodes_of_range) v.ranges.ranges
    ++ (flat_map (nodes_unless_released nodes_of_range) v.statics
    ++ (flat_map (nodes_unless_released nodes_of_iterator) v.iterators
    ++ (flat_map (nodes_unless_released nodes_of_walker) v.walkers
    ++ referred_nodes v.observers)))

-- a node outside has the node as a child, or one of its inclusive descendants as its node document, or a part names one of these
abbrev pub is_used : World → ℕ → Bool
is_used v n = is_held_outside v.tree.forest n || list_any (λ m. among m (inclusive_descendants v.tree.forest n)) (used_nodes v)

-- live ranges that have forgotten a node and its descendants: these are covered no more, and all else is as it was
abbrev pub forgotten : Forest Content → ℕ → RangeTable → RangeTable
forgotten f n table = record table { covered = uncovered (inclusive_descendants f n) table.covered }
