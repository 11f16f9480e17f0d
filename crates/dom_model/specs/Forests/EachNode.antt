-- What holds of each node of a forest, wherever it stands. DOM Standard, "Trees".
use Rattle.dom_model.specs.Forests.Forest.{Node, Forest, empty, node}

module _ {X : Type 0} where
  abbrev pub EachNode : (Node X → Type 0) → Forest X → Type 0
  EachNode P empty = Unit {0}
  EachNode P (node x kids rest) = P x × EachNode P kids × EachNode P rest
