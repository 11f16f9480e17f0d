-- The nodes beside the paths to the ends of a live range, in tree order: what lies in the range of the partially contained nodes. DOM Standard,
-- "Interface Range".
use Rattle.std.specs.Prelude.{ℕ, if◌then◌else◌, List, [], ◌∷◌, ◌++◌, take, drop}
use Rattle.dom_model.specs.Forests.Kinds.{is_character_data}
use Rattle.dom_model.specs.Forests.Forest.{children_of}
use Rattle.dom_model.specs.Worlds.World.{World}
use Rattle.dom_model.specs.PlainLists.Lists.{past, up_to}
use Rattle.dom_model.specs.Forests.Nodes.{kind_passes}

-- from an offset of the path's last node to the end of its first
abbrev pub tail_nodes : World → ℕ → List ℕ → List ℕ
tail_nodes w offset [] = []
tail_nodes w offset (n ∷ []) = if kind_passes is_character_data w.forest n then [] else drop offset (children_of w.forest n)
tail_nodes w offset (n ∷ m ∷ path) = tail_nodes w offset (m ∷ path) ++ past m (children_of w.forest n)

-- from the start of the path's first node to an offset of its last
abbrev pub head_nodes : World → ℕ → List ℕ → List ℕ
head_nodes w offset [] = []
head_nodes w offset (n ∷ []) = if kind_passes is_character_data w.forest n then [] else take offset (children_of w.forest n)
head_nodes w offset (n ∷ m ∷ path) = up_to m (children_of w.forest n) ++ head_nodes w offset (m ∷ path)
