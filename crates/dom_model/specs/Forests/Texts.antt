-- Data and attribute values: lists of UTF-16 units. DOM Standard, "Interface CharacterData"; Infra, "Strings".
-- Ours: texts come in and go out as UTF-8 where they are well-formed.
use Rattle.std.specs.Prelude.{ℕ, ◌+◌, Bool, not, List, ◌++◌, take, drop, Option, Some, None, chars, encode_utf8_all, flat_map, if◌then◌else◌}
use Rattle.std.specs.Char.Escape.{encode_utf16}
use Rattle.std.specs.Char.Utf16.{utf16_lossy_chars, has_unpaired_surrogate}

-- the units of a text, given as UTF-8
abbrev pub units_of : List ℕ → List ℕ
units_of bytes = flat_map encode_utf16 (chars bytes)

-- each surrogate has its partner
abbrev pub is_well_formed_units : List ℕ → Bool
is_well_formed_units units = not (has_unpaired_surrogate units)

-- the UTF-8 of the characters that the units spell, where they are well-formed (nothing is lost there)
abbrev pub text_of_units : List ℕ → Option (List ℕ)
text_of_units units = if is_well_formed_units units then Some (encode_utf8_all (utf16_lossy_chars units)) else None

-- `count` units from `at` on
abbrev pub substring : ℕ → ℕ → List ℕ → List ℕ
substring at count units = take count (drop at units)

-- `added` in place of the `count` units from `at` on
abbrev pub spliced : ℕ → ℕ → List ℕ → List ℕ → List ℕ
spliced at count added units = take at units ++ added ++ drop (at + count) units
