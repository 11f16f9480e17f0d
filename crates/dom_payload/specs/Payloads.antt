-- What is held of data and attributes.
use Rattle.std.specs.Prelude.{ℕ, List, []}
use Rattle.dom_model.specs.Forests.Attributes.{Attribute}
use Rattle.dom_payload.specs.declared.content.Payload.{Payload}
use Rattle.dom_payload.specs.declared.content.Payload.TheVariants.{Nothing, Data, Tail, Attributes, Both}

-- the data
abbrev pub payload_text : Payload → List ℕ
payload_text Nothing = []
payload_text (Data text) = text
payload_text (Tail tail) = tail.value
payload_text (Attributes attrs) = []
payload_text (Both parts) = parts.value.text

-- the attributes, in order
abbrev pub attributes_in : Payload → List Attribute
attributes_in Nothing = []
attributes_in (Data text) = []
attributes_in (Tail tail) = []
attributes_in (Attributes attrs) = attrs
attributes_in (Both parts) = parts.value.attrs
