-- The node documents of a tree. DOM Standard, "Interface Node" (node document) and "Interface Document" (adopt).
use Rattle.std.specs.Prelude.{◌≡◌, ℕ}
use Rattle.dom_model.specs.Forests.Forest.{Forest, empty, node}
use Rattle.dom_model.specs.Forests.EachNode.{EachNode}

module _ {X : Type 0} where
  -- all nodes are in the document
  abbrev pub IsInDocument : ℕ → Forest X → Type 0
  IsInDocument d f = EachNode (λ x. x.document ≡ d) f

  -- in each tree all nodes have one node document
  abbrev pub HasOneDocument : Forest X → Type 0
  HasOneDocument empty = Unit {0}
  HasOneDocument (node x kids rest) = IsInDocument x.document kids × HasOneDocument rest

  -- the nodes of a number are in the document
  abbrev pub HasDocument : ℕ → ℕ → Forest X → Type 0
  HasDocument n d f = EachNode (λ x. x.number ≡ n → x.document ≡ d) f
