-- What comes in under a parent: nodes one after another, and the live range ends that make room for them.
-- DOM Standard, "Mutation algorithms" (insert), "Live ranges".
use Rattle.std.specs.Prelude.{◌≡◌, ◌⊎◌, ◌==◌, if◌then◌else◌, true, false, ℕ, ◌<◌, List, [], ◌∷◌, length, Option, Some, None}
use Rattle.dom_model.specs.PlainLists.Lists.{hits, is_number}
use Rattle.dom_model.specs.Forests.Forest.{Forest, entry_in, occurs, children_of, next_of, ancestors, index_of, put, adopted}
use Rattle.dom_model.specs.Worlds.World.{Content, Range}
use Rattle.dom_model.specs.BoundaryPoints.Points.{after_gap, map_ranges}
use Rattle.dom_model.specs.declared.Kind.TheVariants.{DocumentFragment}
use Rattle.dom_model.specs.Forests.Nodes.{is_of_kind}
use Rattle.dom_model.specs.MutationAlgorithms.Editing.{document_in}
use Rattle.dom_model.specs.MutationAlgorithms.Insertable.{ArePlaceable, IsChildOf}
use Rattle.dom_ranges.specs.Tables.{live_nodes}
use Rattle.dom_tree.specs.PutConditions.{IsLeafFor, HasManyChildren}
use Rattle.dom_edit.specs.declared.world.World.{World}
use Rattle.dom_edit.specs.declared.insertion.Incoming.{Incoming}
use Rattle.dom_edit.specs.declared.insertion.Incoming.TheVariants.{Alone, Children}

-- one root put under a parent, in the parent's node document
abbrev pub placed_in : ℕ → Option ℕ → ℕ → Forest Content → Forest Content
placed_in parent child n f = adopted n (document_in (entry_in f parent)) (put parent n child f)

-- several, one after another
abbrev pub all_placed : ℕ → Option ℕ → List ℕ → Forest Content → Forest Content
all_placed parent child [] f = f
all_placed parent child (n ∷ ns) f = all_placed parent child ns (placed_in parent child n f)

-- live ranges that have made room before a child
abbrev pub with_room : Forest Content → ℕ → Option ℕ → ℕ → List (Option Range) → List (Option Range)
with_room f parent None count rs = rs
with_room f parent (Some c) count rs = map_ranges (after_gap parent (index_of f c) count) rs

-- roots that may be put under a parent, before a child of it or last
pub record IsOpen (f : Forest Content) (parent : ℕ) (child : Option ℕ) (nodes : List ℕ) : Type 0 where
  pub parent_there : 0 < occurs parent f
  pub before_child : IsChildOf f parent child
  pub placeable : ArePlaceable f parent nodes

-- each node of a list is there
abbrev pub AreThere : Forest Content → List ℕ → Type 0
AreThere f ns = (m : ℕ) → 0 < hits m ns → 0 < occurs m f

-- what a node comes in before: the child, or the node's next sibling where the child is the node itself
abbrev pub reference_in : Forest Content → ℕ → Option ℕ → Option ℕ
reference_in f n child = if is_number child n then next_of f n else child

-- no end of a live range stands inside a node: none has it among its inclusive ancestors
abbrev pub IsUnreferred : World → ℕ → Type 0
IsUnreferred v n = (m : ℕ) → 0 < hits m (live_nodes v.ranges) → hits n (ancestors m v.tree.forest) ≡ 0

-- what comes in with a node is told: it is no fragment and comes in alone, or it is one, and these are its children
abbrev pub ComesIn : Forest Content → ℕ → Incoming → Type 0
ComesIn f n Alone = is_of_kind DocumentFragment f n ≡ false
ComesIn f n (Children nodes) = (is_of_kind DocumentFragment f n ≡ true) × (nodes.items ≡ children_of f n)

-- the nodes that come in with it
abbrev pub brought : ℕ → Incoming → List ℕ
brought n Alone = n ∷ []
brought n (Children nodes) = nodes.items

-- the same of a node that may be given
abbrev pub brought_if_any : Option ℕ → Incoming → List ℕ
brought_if_any None i = []
brought_if_any (Some n) i = brought n i

-- a node does not come in at once as the last child: something is observed, or it is no leaf for the parent, or the parent has many children
abbrev pub HasMoreToAsk : World → ℕ → ℕ → Type 0
HasMoreToAsk v parent n =
    ((length v.observers.nodes == 0) ≡ false) ⊎ ((¬ IsLeafFor v.tree.forest parent n) ⊎ HasManyChildren v.tree.forest parent)
