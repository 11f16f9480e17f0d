-- Every node document is a Document of the forest. DOM Standard, "Interface Node" (node document).
use Rattle.std.specs.Prelude.{◌≡◌, true}
use Rattle.dom_model.specs.declared.Kind.TheVariants.{Document}
use Rattle.dom_model.specs.Forests.Forest.{Node, Forest}
use Rattle.dom_model.specs.Forests.EachNode.{EachNode}
use Rattle.dom_model.specs.Forests.Documents.{HasOneDocument}
use Rattle.dom_model.specs.Worlds.World.{Content}
use Rattle.dom_model.specs.Forests.Nodes.{is_of_kind}

-- the node document is a Document of the forest
abbrev pub IsOwned : Forest Content → Node Content → Type 0
IsOwned f x = is_of_kind Document f x.document ≡ true

-- every node's is
abbrev pub HasOwners : Forest Content → Type 0
HasOwners f = EachNode (IsOwned f) f

-- and in each tree all nodes have one
pub record IsOwnedWell (f : Forest Content) : Type 0 where
  pub documents : HasOneDocument f
  pub owners : HasOwners f
