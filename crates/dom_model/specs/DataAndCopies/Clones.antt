-- Copies, equality, and how nodes stand to each other. DOM Standard, "Interface Node" (clone, equals, compareDocumentPosition, contains),
-- "Interface Document" (importNode).
use Rattle.std.specs.Prelude.{ℕ, ◌+◌, ◌==◌, nat_lt, Bool, true, false, not, ◌&&◌, if◌then◌else◌, bytes_eq, unwrap_or}
use Rattle.dom_model.specs.declared.Kind.{Kind}
use Rattle.dom_model.specs.declared.Kind.TheVariants.{Element, Text, ProcessingInstruction, Comment, Document, DocumentType, DocumentFragment}
use Rattle.dom_model.specs.PlainLists.Lists.{among, up_to}
use Rattle.dom_model.specs.Forests.Kinds.{is_kind}
use Rattle.dom_model.specs.Forests.Attributes.{same_attributes}
use Rattle.dom_model.specs.Forests.Forest.{Node, Forest, empty, node, size, numbers, beside, tree_at, ancestors, root_of}
use Rattle.dom_model.specs.Worlds.World.{Content, World}
use Rattle.dom_model.specs.Forests.Nodes.{is_of_kind, same_root}
use Rattle.dom_model.specs.MutationAlgorithms.Editing.{node_document}

module _ {X : Type 0} where
  -- the trees with new numbers from `next` on, in tree order, and with another node document
  abbrev pub renumbered : ℕ → ℕ → Forest X → Forest X
  renumbered document next empty = empty
  renumbered document next (node x kids rest) =
      node (record x { number = next; document = document })
      (renumbered document (next + 1) kids)
      (renumbered document (next + 1 + size kids) rest)

  -- the first node without its children
  abbrev pub alone_of : Forest X → Forest X
  alone_of empty = empty
  alone_of (node x kids rest) = node x empty empty

  -- what a copy is made of: the node with its descendants, or without
  abbrev pub original : Bool → ℕ → Forest X → Forest X
  original true n f = tree_at n f
  original false n f = alone_of (tree_at n f)

  -- contains: an inclusive descendant
  abbrev pub contains : Forest X → ℕ → ℕ → Bool
  contains f n other = among n (ancestors other f)

  abbrev pub root_number : Forest X → ℕ → ℕ
  root_number f n = unwrap_or (root_of f n) n

  abbrev pub comes_before : Forest X → ℕ → ℕ → Bool
  comes_before f n m = among n (up_to m (numbers f))

  -- the bits that tell where `other` stands, seen from `this`. Ours: of two trees, that of the smaller root comes first
  abbrev pub position : Forest X → ℕ → ℕ → ℕ
  position f this other =
      if this == other then 0
      else if not (same_root f this other) then (if nat_lt (root_number f other) (root_number f this) then 35 else 37)
      else if contains f other this then 10
      else if contains f this other then 20
      else if comes_before f other this then 2 else 4

-- the copies become a root of their own, with the next numbers
abbrev pub with_copies : ℕ → Forest Content → World → World
with_copies document copied w = record w {
  forest = beside w.forest (renumbered document w.made copied);
  made = w.made + size copied;
}

-- a clone's node document: the node's own; a Document's copy is the node document of its copies
abbrev pub document_of_clone : World → ℕ → ℕ
document_of_clone w n = if is_of_kind Document w.forest n then w.made else node_document w n

-- clone a node, with its descendants or without; the copy has the next number
abbrev pub clone_node : Bool → ℕ → World → World
clone_node deep n w = with_copies (document_of_clone w n) (original deep n w.forest) w

-- import: a clone whose node document is the one given
abbrev pub import_node : ℕ → Bool → ℕ → World → World
import_node document deep n w = with_copies document (original deep n w.forest) w

-- what two nodes of one kind have to agree in
abbrev pub agree : Kind → Node Content → Node Content → Bool
agree Element x y = bytes_eq x.label.name y.label.name && same_attributes x.body.attributes y.body.attributes
agree Text x y = bytes_eq x.body.text y.body.text
agree ProcessingInstruction x y = bytes_eq x.label.name y.label.name && bytes_eq x.body.text y.body.text
agree Comment x y = bytes_eq x.body.text y.body.text
agree Document x y = true
agree DocumentType x y =
    bytes_eq x.label.name y.label.name && (bytes_eq x.label.public_id y.label.public_id && bytes_eq x.label.system_id y.label.system_id)
agree DocumentFragment x y = true

-- as many trees, equal in pairs
abbrev pub are_equal : Forest Content → Forest Content → Bool
are_equal empty empty = true
are_equal empty (node y others more) = false
are_equal (node x kids rest) empty = false
are_equal (node x kids rest) (node y others more) =
    (is_kind x.label.kind y.label.kind && agree x.label.kind x y) && (are_equal kids others && are_equal rest more)

-- equals
abbrev pub is_equal : Forest Content → ℕ → ℕ → Bool
is_equal f n m = are_equal (tree_at n f) (tree_at m f)
