-- The kinds of node, what a node is labelled with, and its name.
-- DOM Standard, "Interface Node", "Interface CharacterData".
use Rattle.std.specs.Prelude.{ℕ, List, Bool, true, false, codes, ◌==◌, Option, Some, None}
use Rattle.dom_model.specs.declared.Kind.{Kind}
use Rattle.dom_model.specs.declared.Kind.TheVariants.{Element, Text, ProcessingInstruction, Comment, Document, DocumentType, DocumentFragment}

-- what stands on a node besides its data, attributes and children: a name or target, and the two ids of a doctype, as UTF-8
pub record Label : Type 0 where
  pub kind : Kind
  pub name : List ℕ
  pub public_id : List ℕ
  pub system_id : List ℕ

-- nodeType
abbrev pub number_of_kind : Kind → ℕ
number_of_kind Element = 1
number_of_kind Text = 3
number_of_kind ProcessingInstruction = 7
number_of_kind Comment = 8
number_of_kind Document = 9
number_of_kind DocumentType = 10
number_of_kind DocumentFragment = 11

abbrev pub is_kind : Kind → Kind → Bool
is_kind k l = number_of_kind k == number_of_kind l

-- Text, ProcessingInstruction or Comment
abbrev pub is_character_data : Kind → Bool
is_character_data Element = false
is_character_data Text = true
is_character_data ProcessingInstruction = true
is_character_data Comment = true
is_character_data Document = false
is_character_data DocumentType = false
is_character_data DocumentFragment = false

-- Document, DocumentFragment or Element: the kinds that may have children
abbrev pub may_be_parent : Kind → Bool
may_be_parent Element = true
may_be_parent Text = false
may_be_parent ProcessingInstruction = false
may_be_parent Comment = false
may_be_parent Document = true
may_be_parent DocumentType = false
may_be_parent DocumentFragment = true

-- what may stand under what: only a Document, DocumentFragment or Element has children, a Document or DocumentFragment is a root,
-- and a DocumentType stands under a Document alone
abbrev pub may_stand_in : Kind → Kind → Bool
may_stand_in parent Element = may_be_parent parent
may_stand_in parent Text = may_be_parent parent
may_stand_in parent ProcessingInstruction = may_be_parent parent
may_stand_in parent Comment = may_be_parent parent
may_stand_in parent Document = false
may_stand_in parent DocumentType = is_kind parent Document
may_stand_in parent DocumentFragment = false

abbrev pub may_stand_under : Option Kind → Kind → Bool
may_stand_under None kind = true
may_stand_under (Some parent) kind = may_stand_in parent kind

-- nodeName
abbrev pub node_name_of : Kind → List ℕ → List ℕ
node_name_of Element name = name
node_name_of Text name = codes "#text"
node_name_of ProcessingInstruction name = name
node_name_of Comment name = codes "#comment"
node_name_of Document name = codes "#document"
node_name_of DocumentType name = name
node_name_of DocumentFragment name = codes "#document-fragment"

abbrev pub node_name : Label → List ℕ
node_name l = node_name_of l.kind l.name
