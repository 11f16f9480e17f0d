-- The length of a node. DOM Standard, "Trees", "Interface Node".
use Rattle.std.specs.Prelude.{ℕ, length, Option, Some, None, if◌then◌else◌}
use Rattle.dom_model.specs.declared.Kind.TheVariants.{DocumentType}
use Rattle.dom_model.specs.Forests.Kinds.{is_kind, is_character_data}
use Rattle.dom_model.specs.Forests.Arena.{Entry}
use Rattle.dom_model.specs.Forests.Forest.{Node, Forest, entry_in}
use Rattle.dom_model.specs.Worlds.World.{Content, World}

-- 0 for a doctype, the length of the data for character data, else the number of children
abbrev pub length_of : {X : Type 0} → (X → ℕ) → Entry (Node X) → ℕ
length_of measure e =
    if is_kind e.value.label.kind DocumentType then 0 else if is_character_data e.value.label.kind then measure e.value.body else length e.children

abbrev pub length_in : {X : Type 0} → (X → ℕ) → Option (Entry (Node X)) → ℕ
length_in measure None = 0
length_in measure (Some e) = length_of measure e

-- the length of a node of the forest
abbrev pub node_length : {X : Type 0} → (X → ℕ) → Forest X → ℕ → ℕ
node_length measure f n = length_in measure (entry_in f n)

-- data is counted in UTF-16 units
abbrev pub unit_count : Content → ℕ
unit_count c = length c.text

abbrev pub length_at : World → ℕ → ℕ
length_at w n = node_length unit_count w.forest n
