-- A tree as rows: one node's row.
use Rattle.std.specs.Prelude.{ℕ}
use Rattle.dom_model.specs.Forests.Forest.{Node}
use Rattle.dom_model.specs.Worlds.World.{Content}
use Rattle.dom_model.specs.Commands.Reply.{TreeRow}

-- the row of a node of that number
abbrev pub row_of_node : ℕ → ℕ → Node Content → TreeRow
row_of_node number depth x = record { depth = depth; number = number; label = x.label; body = x.body }
