-- What is read of an attribute after it was set.
use Rattle.std.proofs.Common.{◌≡◌, ℕ, Bool, true, false, List, [], ◌∷◌, Some, refl, bytes_eq}
use Rattle.std.proofs.lemmas.Slice.Eq.{bytes_eq-Decides}
use Rattle.dom_model.specs.Definitions.{Attribute, attribute_value, with_attribute}

bytes_eq-same : (name : List ℕ) → bytes_eq name name ≡ true
bytes_eq-same name = (bytes_eq-Decides name name).1 refl

pub attribute_value-with_attribute : (name value : List ℕ) (attributes : List Attribute) → attribute_value name (with_attribute name value attributes) ≡ Some value
attribute_value-with_attribute name value [] = rw (bytes_eq-same name) refl
attribute_value-with_attribute name value (a ∷ rest) = by (bytes_eq name a.name) refl (attribute_value-with_attribute name value rest)
  where
    by : (b : Bool) → bytes_eq name a.name ≡ b → attribute_value name (with_attribute name value rest) ≡ Some value → attribute_value name (with_attribute name value (a ∷ rest)) ≡ Some value
    by true e told = rw (e, e) refl
    by false e told = rw (e, e) told
