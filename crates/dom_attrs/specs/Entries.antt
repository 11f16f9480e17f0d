-- What the entries of a map from names to values are, seen as attributes.
use Rattle.std.specs.Prelude.{ℕ, List, [], map, String, string_bytes, Option, None, Some, Box}
use Rattle.std.specs.HashMap.{HashMap}
use Rattle.std.specs.Borrow.{Bor}
use Rattle.dom_model.specs.Forests.Attributes.{Attribute}

-- an entry
abbrev pub attribute_of : {Z : Type 0} → String Z × List ℕ → Attribute
attribute_of e = record { name = string_bytes e.0; value = e.1 }

-- the entries, in order
abbrev pub entry_attributes : {Z : Type 0} → List (String Z × List ℕ) → List Attribute
entry_attributes entries = map attribute_of entries

-- a name and a value that are lent
abbrev pub attribute_at : Bor (List ℕ) × Bor (List ℕ) → Attribute
attribute_at lent = record { name = lent.0.now; value = lent.1.now }

-- the entries of a map that may not be there
abbrev pub entries_in : {Z S B : Type 0} → Option (Box (HashMap (String Z) (List ℕ) S) B) → List (String Z × List ℕ)
entries_in None = []
entries_in (Some map) = map.value.entries
