-- Which names are valid. DOM Standard, "Name validation".
-- Ours: a name is text, looked at as its UTF-8 bytes, so "from U+0080" is "a byte from 128".
use Rattle.std.specs.Prelude.{ℕ, Bool, false, not, ◌&&◌, ◌||◌, ◌==◌, nat_le, List, [], ◌∷◌, if◌then◌else◌}
use Rattle.std.specs.List.{list_all}

abbrev pub is_ascii_letter : ℕ → Bool
is_ascii_letter b = (nat_le 65 b && nat_le b 90) || (nat_le 97 b && nat_le b 122)

abbrev pub is_ascii_digit : ℕ → Bool
is_ascii_digit b = nat_le 48 b && nat_le b 57

-- tab, line feed, form feed, carriage return, space
abbrev pub is_ascii_white_space : ℕ → Bool
is_ascii_white_space b = (b == 9) || (b == 10) || (b == 12) || (b == 13) || (b == 32)

-- `:`, `_`, or from U+0080: what an element name may start with besides an ASCII letter
abbrev pub is_other_name_start : ℕ → Bool
is_other_name_start b = (b == 58) || (b == 95) || nat_le 128 b

-- what may follow an ASCII letter: no ASCII white space, NUL, `/` or `>`
abbrev pub may_follow_letter : ℕ → Bool
may_follow_letter b = not (is_ascii_white_space b || (b == 0) || (b == 47) || (b == 62))

-- what may follow another start: ASCII letters, digits, `-`, `.`, `:`, `_`, or from U+0080
abbrev pub may_follow_other : ℕ → Bool
may_follow_other b = is_ascii_letter b || is_ascii_digit b || (b == 45) || (b == 46) || is_other_name_start b

-- a valid element local name, and a target of a processing instruction
abbrev pub is_element_name : List ℕ → Bool
is_element_name [] = false
is_element_name (b ∷ bs) = if is_ascii_letter b then list_all may_follow_letter bs else is_other_name_start b && list_all may_follow_other bs

-- no ASCII white space, NUL, `/`, `=` or `>`
abbrev pub may_stand_in_attribute_name : ℕ → Bool
may_stand_in_attribute_name b = not (is_ascii_white_space b || (b == 0) || (b == 47) || (b == 61) || (b == 62))

-- a valid attribute local name
abbrev pub is_attribute_name : List ℕ → Bool
is_attribute_name [] = false
is_attribute_name (b ∷ bs) = list_all may_stand_in_attribute_name (b ∷ bs)

-- no ASCII white space, NUL or `>`
abbrev pub may_stand_in_doctype_name : ℕ → Bool
may_stand_in_doctype_name b = not (is_ascii_white_space b || (b == 0) || (b == 62))

-- a valid doctype name
abbrev pub is_doctype_name : List ℕ → Bool
is_doctype_name bs = list_all may_stand_in_doctype_name bs
