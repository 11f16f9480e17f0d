-- What is read of the rows of a tree, and of the names that a node has.
use Rattle.std.specs.Prelude.{ℕ, nat_eq, if◌then◌else◌, List, length, slice_get, Option, Some, None, option_map, option_and_then}
use Rattle.dom_model.specs.declared.Kind.{Kind}
use Rattle.dom_model.specs.declared.Kind.TheVariants.{Element, Text, ProcessingInstruction, Comment, Document, DocumentType, DocumentFragment}
use Rattle.dom_model.specs.Forests.Attributes.{Attribute}
use Rattle.dom_model.specs.Forests.Kinds.{Label, number_of_kind, is_character_data}
use Rattle.dom_model.specs.Commands.Reply.{Answer, NodeAt, Rows, TreeRow}
use Rattle.dom_c.specs.declared.rows.Row.{Row}

-- the name of an element or a doctype, or the target of a processing instruction
abbrev pub own_name : Kind → List ℕ → Option (List ℕ)
own_name Element name = Some name
own_name Text name = None
own_name ProcessingInstruction name = Some name
own_name Comment name = None
own_name Document name = None
own_name DocumentType name = Some name
own_name DocumentFragment name = None

-- an id of a doctype
abbrev pub doctype_id : Kind → List ℕ → Option (List ℕ)
doctype_id Element id = None
doctype_id Text id = None
doctype_id ProcessingInstruction id = None
doctype_id Comment id = None
doctype_id Document id = None
doctype_id DocumentType id = Some id
doctype_id DocumentFragment id = None

-- 0 for the name, 1 for the public id, 2 for the system id
abbrev pub name_part : ℕ → Label → Option (List ℕ)
name_part part l =
    if nat_eq part 0 then own_name l.kind l.name
    else if nat_eq part 1 then doctype_id l.kind l.public_id
    else if nat_eq part 2 then doctype_id l.kind l.system_id
    else None

-- a part of the name of a node that was asked for
abbrev pub node_name_part : ℕ → Answer → Option (List ℕ)
node_name_part part (NodeAt d) = name_part part d.label
node_name_part part _ = None

abbrev pub row_in : ℕ → Answer → Option TreeRow
row_in i (Rows rs) = slice_get rs i
row_in i _ = None

abbrev pub row_out : TreeRow → Row
row_out r = record { depth = r.depth; node = r.number; type_ = number_of_kind r.label.kind; attributes = length r.body.attributes }

abbrev pub row_at : ℕ → Answer → Option Row
row_at i a = option_map row_out (row_in i a)

abbrev pub row_name_at : ℕ → ℕ → Answer → Option (List ℕ)
row_name_at i part a = option_and_then (λ (r : TreeRow). name_part part r.label) (row_in i a)

-- the data, where the kind has data
abbrev pub row_text_of : TreeRow → Option (List ℕ)
row_text_of r = if is_character_data r.label.kind then Some r.body.text else None

abbrev pub row_text_at : ℕ → Answer → Option (List ℕ)
row_text_at i a = option_and_then row_text_of (row_in i a)

abbrev pub attribute_of_row : ℕ → TreeRow → Option Attribute
attribute_of_row at r = slice_get r.body.attributes at

abbrev pub attribute_name_in : ℕ → TreeRow → Option (List ℕ)
attribute_name_in at r = option_map (λ (a : Attribute). a.name) (attribute_of_row at r)

abbrev pub attribute_value_in : ℕ → TreeRow → Option (List ℕ)
attribute_value_in at r = option_map (λ (a : Attribute). a.value) (attribute_of_row at r)

abbrev pub row_attribute_name_at : ℕ → ℕ → Answer → Option (List ℕ)
row_attribute_name_at i at a = option_and_then (attribute_name_in at) (row_in i a)

abbrev pub row_attribute_value_at : ℕ → ℕ → Answer → Option (List ℕ)
row_attribute_value_at i at a = option_and_then (attribute_value_in at) (row_in i a)
