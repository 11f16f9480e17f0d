-- Texts that may not be there, as the bytes that the definitions speak of.
use Rattle.std.specs.Prelude.{◌≡◌, ⊤, ℕ, bytes_eq, List, map, Option, None, Some, String, Vec, string_bytes}
use Rattle.std.specs.Borrow.{Bor}
use Rattle.std.specs.List.{list_any}
use Rattle.indexmap.specs.IndexSet.{IndexSet, contains_text}

-- the names of a filter
abbrev pub names_of : {Z A : Type 0} → Option (Vec (String Z) A) → Option (List (List ℕ))
names_of None = None
names_of (Some names) = Some (map string_bytes names.items)

-- a text that is lent
abbrev pub given_name : Option (Bor (List ℕ)) → Option (List ℕ)
given_name None = None
given_name (Some text) = Some text.now

-- a text that is owned
abbrev pub name_of : {Z : Type 0} → Option (String Z) → Option (List ℕ)
name_of None = None
name_of (Some text) = Some (string_bytes text)

module _ {Z S : Type 0} where
  -- the set has these names, and no others
  abbrev pub HasNames : IndexSet (String Z) S → List (List ℕ) → Type 0
  HasNames set names = (name : List ℕ) → contains_text set name ≡ list_any (bytes_eq name) names

  -- where there is a set, it has the names of the filter
  abbrev pub Sifts : Option (List (List ℕ)) → Option (IndexSet (String Z) S) → Type 0
  Sifts filter None = ⊤
  Sifts None (Some set) = ⊥
  Sifts (Some names) (Some set) = HasNames set names
