-- The options of an observer that watches what stands below a node.
use Rattle.std.specs.Prelude.{true, false, None}
use Rattle.dom_model.specs.Worlds.World.{Options}

-- children that come and go, of a node and of all nodes below it
abbrev pub children_below : Options
children_below = record {
  child_list = true;
  attributes = false;
  character_data = false;
  subtree = true;
  attribute_old_value = false;
  character_data_old_value = false;
  attribute_filter = None;
}
