-- A copy that grows: a node made under another. DOM Standard, "Interface Node" (clone).
use Rattle.std.specs.Prelude.{ℕ, ◌+◌, None}
use Rattle.dom_model.specs.Forests.Forest.{Node, put}
use Rattle.dom_model.specs.Worlds.World.{Content, World}
use Rattle.dom_model.specs.Worlds.Making.{made_node}

-- a copy of a node in a document, as the last child of a parent
abbrev pub made_under : ℕ → ℕ → Node Content → World → World
made_under parent document x w = record w {
  forest = put parent w.made None (made_node document x.label x.body w).forest;
  made = w.made + 1;
}
