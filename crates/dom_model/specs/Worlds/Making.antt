-- A new node. DOM Standard, "Interface Node", "Interface Document".
use Rattle.std.specs.Prelude.{ℕ, ◌+◌, List, []}
use Rattle.dom_model.specs.declared.Kind.{Kind}
use Rattle.dom_model.specs.Forests.Kinds.{Label}
use Rattle.dom_model.specs.Forests.Forest.{empty, node, beside}
use Rattle.dom_model.specs.Worlds.World.{Content, World}

abbrev pub named : Kind → List ℕ → Label
named kind name = record { kind = kind; name = name; public_id = []; system_id = [] }

abbrev pub with_text : List ℕ → Content
with_text text = record { text = text; attributes = [] }

-- a new node, a root of its own, with the next number
abbrev pub made_node : ℕ → Label → Content → World → World
made_node document label body w = record w {
  forest = beside w.forest (node (record { number = w.made; document = document; label = label; body = body }) empty empty);
  made = w.made + 1;
}
