-- Replies as JSON, and as the bytes of a line.
use Rattle.std.specs.Prelude.{ℕ, negsuc, List, [], ◌∷◌, ◌++◌, map, Option, Some, None, codes}
use Rattle.std.specs.declared.cmp.Ordering.{Ordering}
use Rattle.std.specs.declared.cmp.Ordering.TheVariants.{Less, Equal, Greater}
use Rattle.serde_json.specs.Data.{Data, null, boolean, number, string, array, object, unsigned, negative, Items, no_items, item, Members, no_members, member}
use Rattle.serde_json.specs.Written.{compact_text}
use Rattle.dom_model.specs.declared.Kind.{Kind}
use Rattle.dom_model.specs.declared.Kind.TheVariants.{Element, Text, ProcessingInstruction, Comment, Document, DocumentType, DocumentFragment}
use Rattle.dom_model.specs.declared.RecordType.{RecordType}
use Rattle.dom_model.specs.declared.RecordType.TheVariants.{ChildList, Attributes, CharacterData}
use Rattle.dom_model.specs.Forests.Kinds.{Label, number_of_kind, node_name}
use Rattle.dom_model.specs.Commands.Refusal.{name_of_error, name_of_own}
use Rattle.dom_model.specs.Forests.Texts.{text_of_units}
use Rattle.dom_model.specs.Forests.Attributes.{Attribute}
use Rattle.dom_model.specs.Worlds.World.{Content, Range}
use Rattle.dom_model.specs.Commands.Reply.{Description, TreeRow, Answer, Nothing, Number, MaybeNumber, Numbers, Flag, Order, Units, MaybeUnits, Names, NodeAt, Rows, Ends, StaticEnds, IteratorAt, WalkerAt, Records, Notified, Reply, Done, Dom, Own}
use Rattle.dom_model.specs.MutationObservers.Record.{Record, Notification}

abbrev pub number_json : ℕ → Data
number_json n = number (unsigned n)

abbrev pub items_of : List Data → Items
items_of [] = no_items
items_of (d ∷ ds) = item d (items_of ds)

abbrev pub list_json : List Data → Data
list_json ds = array (items_of ds)

-- the value, or null
abbrev pub or_null : {A : Type 0} → (A → Data) → Option A → Data
or_null print None = null
or_null print (Some a) = print a

abbrev pub numbers_json : List ℕ → Data
numbers_json ns = list_json (map number_json ns)

abbrev pub text_json : Option (List ℕ) → List ℕ → Data
text_json None units = numbers_json units
text_json (Some text) units = string text

-- a text: a string where it is well-formed, else the list of its units
abbrev pub units_json : List ℕ → Data
units_json units = text_json (text_of_units units) units

abbrev pub names_json : List (List ℕ) → Data
names_json names = list_json (map string names)

abbrev pub order_json : Ordering → Data
order_json Less = number (negative (negsuc 0))
order_json Equal = number (unsigned 0)
order_json Greater = number (unsigned 1)

abbrev pub attribute_json : Attribute → Data
attribute_json a = list_json (string a.name ∷ units_json a.value ∷ [])

-- what follows the name in a row of a tree: the data, the attributes, or both ids
abbrev pub detail_json : Kind → Label → Content → List Data
detail_json Element label body = list_json (map attribute_json body.attributes) ∷ []
detail_json Text label body = units_json body.text ∷ []
detail_json ProcessingInstruction label body = units_json body.text ∷ []
detail_json Comment label body = units_json body.text ∷ []
detail_json Document label body = []
detail_json DocumentType label body = string label.public_id ∷ string label.system_id ∷ []
detail_json DocumentFragment label body = []

abbrev pub row_json : TreeRow → Data
row_json r =
    list_json (number_json r.depth ∷ number_json r.number ∷ number_json (number_of_kind r.label.kind) ∷ string (node_name r.label)
    ∷ detail_json r.label.kind r.label r.body)

abbrev pub type_member : Label → Members
type_member label = member (codes "type") (number_json (number_of_kind label.kind)) no_members

abbrev pub ids_members : Kind → Label → Members
ids_members Element label = type_member label
ids_members Text label = type_member label
ids_members ProcessingInstruction label = type_member label
ids_members Comment label = type_member label
ids_members Document label = type_member label
ids_members DocumentType label =
    member (codes "public") (string label.public_id) (member (codes "system") (string label.system_id) (type_member label))
ids_members DocumentFragment label = type_member label

-- keys in ASCII order
abbrev pub description_json : Description → Data
description_json d =
    object (member (codes "document") (number_json d.document)
    (member (codes "name") (string (node_name d.label))
    (member (codes "next") (or_null number_json d.next)
    (member (codes "parent") (or_null number_json d.parent)
    (member (codes "previous") (or_null number_json d.previous)
    (ids_members d.label.kind d.label))))))

abbrev pub type_json : RecordType → Data
type_json ChildList = string (codes "childList")
type_json Attributes = string (codes "attributes")
type_json CharacterData = string (codes "characterData")

abbrev pub record_json : Record → Data
record_json r =
    list_json (type_json r.type ∷ number_json r.target ∷ numbers_json r.added ∷ numbers_json r.removed
    ∷ or_null number_json r.previous ∷ or_null number_json r.next ∷ or_null string r.name ∷ or_null units_json r.old_value ∷ [])

abbrev pub records_json : List Record → Data
records_json rs = list_json (map record_json rs)

abbrev pub told_json : Notification → Data
told_json t = list_json (number_json t.observer ∷ records_json t.records ∷ [])

abbrev pub ends_json : Range → List Data
ends_json r =
    number_json r.start.node ∷ number_json r.start.offset ∷ number_json r.end.node ∷ number_json r.end.offset ∷ []

abbrev pub answer_json : Answer → Data
answer_json Nothing = null
answer_json (Number n) = number_json n
answer_json (MaybeNumber n) = or_null number_json n
answer_json (Numbers ns) = numbers_json ns
answer_json (Flag b) = boolean b
answer_json (Order o) = order_json o
answer_json (Units u) = units_json u
answer_json (MaybeUnits u) = or_null units_json u
answer_json (Names names) = names_json names
answer_json (NodeAt d) = description_json d
answer_json (Rows rs) = list_json (map row_json rs)
answer_json (Ends r) = list_json (ends_json r)
answer_json (StaticEnds r valid) = list_json (ends_json r ++ boolean valid ∷ [])
answer_json (IteratorAt root reference before) =
    list_json (number_json root ∷ number_json reference ∷ boolean before ∷ [])
answer_json (WalkerAt root current) = list_json (number_json root ∷ number_json current ∷ [])
answer_json (Records rs) = records_json rs
answer_json (Notified ts) = list_json (map told_json ts)

abbrev pub only_member : List ℕ → Data → Data
only_member key value = object (member key value no_members)

abbrev pub reply_json : Reply → Data
reply_json (Done a) = only_member (codes "ok") (answer_json a)
reply_json (Dom e) = only_member (codes "error") (string (name_of_error e))
reply_json (Own e) = only_member (codes "error") (string (name_of_own e))

-- a reply's line, with its newline
abbrev pub reply_line : Reply → List ℕ
reply_line r = compact_text (reply_json r) ++ 10 ∷ []

-- what is written in place of a reply for want of memory
abbrev pub out_of_memory_line : List ℕ
out_of_memory_line = compact_text (only_member (codes "error") (string (codes "out-of-memory"))) ++ 10 ∷ []
