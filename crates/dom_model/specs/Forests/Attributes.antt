-- An element's attributes, in order. DOM Standard, "Interface Element", "Interface Attr".
-- Ours: an attribute is a name, as UTF-8, and a value, as UTF-16 units.
use Rattle.std.specs.Prelude.{ℕ, Bool, ◌&&◌, List, [], ◌∷◌, Option, Some, None, bytes_eq, map, if◌then◌else◌}
use Rattle.std.specs.List.{list_any, list_all}

pub record Attribute : Type 0 where
  pub name : List ℕ
  pub value : List ℕ

-- the value of the attribute of that name
abbrev pub attribute_value : List ℕ → List Attribute → Option (List ℕ)
attribute_value name [] = None
attribute_value name (a ∷ rest) = if bytes_eq name a.name then Some a.value else attribute_value name rest

-- the attributes with a value set: in place, or last where the name is new
abbrev pub with_attribute : List ℕ → List ℕ → List Attribute → List Attribute
with_attribute name value [] = record { name = name; value = value } ∷ []
with_attribute name value (a ∷ rest) =
    if bytes_eq name a.name then record a { value = value } ∷ rest else a ∷ with_attribute name value rest

-- the attributes without the one of that name; those after it move up
abbrev pub without_attribute : List ℕ → List Attribute → List Attribute
without_attribute name [] = []
without_attribute name (a ∷ rest) = if bytes_eq name a.name then rest else a ∷ without_attribute name rest

-- the names, in order
abbrev pub attribute_names : List Attribute → List (List ℕ)
attribute_names attributes = map (λ (a : Attribute). a.name) attributes

-- same name and same value
abbrev pub is_attribute : Attribute → Attribute → Bool
is_attribute a b = bytes_eq a.name b.name && bytes_eq a.value b.value

-- each of the first attributes is one of the second
abbrev pub are_among : List Attribute → List Attribute → Bool
are_among few many = list_all (λ (a : Attribute). list_any (is_attribute a) many) few

-- the same as sets, in whatever order
abbrev pub same_attributes : List Attribute → List Attribute → Bool
same_attributes first second = are_among first second && are_among second first
