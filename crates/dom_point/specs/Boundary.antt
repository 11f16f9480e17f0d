-- Boundary points of one root. DOM Standard, "Boundary points".
use Rattle.std.specs.Prelude.{◌≡◌, ℕ, ◌≤◌, [], Some}
use Rattle.dom_model.specs.Forests.Forest.{Forest, HasNode, Grove, root_of, IsForest}
use Rattle.dom_model.specs.Worlds.World.{Content, Point}
use Rattle.dom_model.specs.BoundaryPoints.Points.{order_of}
use Rattle.dom_model.specs.Worlds.Lengths.{node_length, unit_count}
use Rattle.dom_model.specs.TokenText.Gaps.{root_text, gap_count, gap_order}

-- the node is there, under the root, and the offset is within its length
pub record IsBoundaryUnder (f : Forest Content) (root : ℕ) (p : Point) : Type 0 where
  pub held : HasNode f p.node
  pub under : root_of f p.node ≡ Some root
  pub within : p.offset ≤ node_length unit_count f p.node

-- each boundary point has one gap in the token text of its root
abbrev pub HasOneGapEach : Type 0
HasOneGapEach =
    (g : Grove Content) → IsForest g → (root : ℕ) (p : Point) → IsBoundaryUnder g.forest root p → gap_count p [] (root_text g.forest root) ≡ 1

-- two boundary points of one root stand as their gaps do in its token text
abbrev pub StandAsTheirGaps : Type 0
StandAsTheirGaps =
    (g : Grove Content) → IsForest g → (root : ℕ) (p q : Point) → IsBoundaryUnder g.forest root p → IsBoundaryUnder g.forest root q →
    gap_order p q (root_text g.forest root) ≡ Some (order_of g.forest p q)
