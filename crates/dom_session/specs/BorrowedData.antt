-- What a node holds, as it is lent: its label, its data, and its attributes by their place. DOM Standard, "Interface CharacterData", "Interface Element".
use Rattle.std.specs.Prelude.{ℕ, List, slice_get, if◌then◌else◌, Option, Some, None, option_map, Result, Ok, Err}
use Rattle.dom_model.specs.declared.OwnError.{OwnError}
use Rattle.dom_model.specs.Forests.Kinds.{Label, is_character_data}
use Rattle.dom_model.specs.Forests.Attributes.{Attribute}
use Rattle.dom_model.specs.Forests.Arena.{Entry}
use Rattle.dom_model.specs.Forests.Forest.{Node, Forest}
use Rattle.dom_model.specs.Worlds.World.{Content}
use Rattle.dom_session.specs.Neighbours.{read_of}

-- what is lent, or a part of it, where there is any
abbrev pub lent_as : {A B : Type 0} → (A → B) → Result (Option A) OwnError → Result (Option B) OwnError
lent_as part (Ok lent) = Ok (option_map part lent)
lent_as part (Err e) = Err e

-- what is lent of a node that is there
abbrev pub lent_whole : {A B : Type 0} → (A → B) → Result A OwnError → Result B OwnError
lent_whole part (Ok lent) = Ok (part lent)
lent_whole part (Err e) = Err e

-- the label of a node: its kind and its names
abbrev pub label_of_node : Forest Content → ℕ → Result Label OwnError
label_of_node f n = read_of f n (λ e. e.value.label)

-- the data of a node, where its kind has data
abbrev pub data_at : Entry (Node Content) → Option (List ℕ)
data_at e = if is_character_data e.value.label.kind then Some e.value.body.text else None

abbrev pub data_in : Forest Content → ℕ → Result (Option (List ℕ)) OwnError
data_in f n = read_of f n data_at

-- the attribute of a node at a place, or none past the last
abbrev pub attribute_of_node : ℕ → Forest Content → ℕ → Result (Option Attribute) OwnError
attribute_of_node index f n = read_of f n (λ e. slice_get e.value.body.attributes index)
