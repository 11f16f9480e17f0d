-- Each end of a live range stands in its marker's gap before and after an edit, as the token texts show: a Text comes in ahead of its
-- siblings, data is replaced, a Text is split. In the texts `start` and `end` are the two markers of a range of that number.
use Rattle.std.proofs.Common.{◌≡◌, refl, ℕ, true, false, List, [], ◌∷◌, Option, Some}
use Rattle.dom_model.specs.Definitions.{Range, World, first_world, Command, CreateElement, CreateText, AppendChild, CreateRange, SetStart, SetEnd, InsertBefore, ReplaceData, SplitText, Token, Open, Close, OneUnit, Mark, Removal, Insertion, Splice, Parting, point, texts_of, all_on_texts, marked_ranges, Bounds, edits_of, world_past}

abbrev bounds : Bounds
bounds = record { numbers = 4294967295; line = 1048576 }

abbrev start : ℕ → Token
start r = Mark r true

abbrev end : ℕ → Token
end r = Mark r false

abbrev unit : ℕ → Token
unit n = OneUnit n

abbrev from_to : ℕ → ℕ → ℕ → ℕ → Option Range
from_to n offset m other = Some (record { start = point n offset; end = point m other })

-- The Document stands alone in a text of its own.
abbrev document : List Token
document = Open 0 ∷ Close ∷ []

-- A Text of the same parent comes in before the first: <p>a b n</p> with the start before "b" and the end after "n".

abbrev siblings : World
siblings = world_past bounds first_world
    (CreateElement 0 (112 ∷ []) ∷ CreateText 0 (97 ∷ []) ∷ CreateText 0 (98 ∷ []) ∷ CreateText 0 (110 ∷ [])
    ∷ AppendChild 1 2 ∷ AppendChild 1 3 ∷ AppendChild 1 4 ∷ CreateRange 0 ∷ SetStart 0 3 0 ∷ SetEnd 0 4 1 ∷ [])

abbrev insertion : Command
insertion = InsertBefore 1 4 (Some 2)

abbrev before_insertion : List (List Token)
before_insertion = document
    ∷ (Open 1 ∷ Open 2 ∷ unit 97 ∷ Close ∷ Open 3 ∷ start 0 ∷ unit 98 ∷ Close ∷ Open 4 ∷ unit 110 ∷ end 0 ∷ Close ∷ Close ∷ [])
    ∷ []

abbrev after_insertion : List (List Token)
after_insertion = document
    ∷ (Open 1 ∷ Open 4 ∷ unit 110 ∷ Close ∷ Open 2 ∷ unit 97 ∷ Close ∷ Open 3 ∷ start 0 ∷ unit 98 ∷ Close ∷ end 0 ∷ Close ∷ [])
    ∷ []

pub text_before_insertion : texts_of siblings ≡ before_insertion
text_before_insertion = refl

pub edits_of_insertion : edits_of bounds siblings insertion ≡ Removal 4 ∷ Insertion 4 (point 1 0) ∷ []
edits_of_insertion = refl

pub text_after_insertion : all_on_texts (edits_of bounds siblings insertion) before_insertion ≡ after_insertion
text_after_insertion = refl

pub ends_before_insertion : siblings.ranges ≡ from_to 3 0 4 1 ∷ []
ends_before_insertion = refl

pub marks_before_insertion : marked_ranges 0 siblings.ranges before_insertion ≡ from_to 3 0 4 1 ∷ []
marks_before_insertion = refl

pub ends_after_insertion : (world_past bounds siblings (insertion ∷ [])).ranges ≡ from_to 3 0 1 3 ∷ []
ends_after_insertion = refl

pub marks_after_insertion : marked_ranges 0 siblings.ranges after_insertion ≡ from_to 3 0 1 3 ∷ []
marks_after_insertion = refl

-- Data is replaced: "abcdefg" with one range around "c" and one around "f"; "cde" gives way to "XY", then "fg" to nothing.

abbrev letters : World
letters = world_past bounds first_world
    (CreateText 0 (97 ∷ 98 ∷ 99 ∷ 100 ∷ 101 ∷ 102 ∷ 103 ∷ []) ∷ CreateRange 0 ∷ CreateRange 0
    ∷ SetStart 0 1 2 ∷ SetEnd 0 1 3 ∷ SetStart 1 1 5 ∷ SetEnd 1 1 6 ∷ [])

abbrev replacing : Command
replacing = ReplaceData 1 2 3 (88 ∷ 89 ∷ [])

abbrev cutting : Command
cutting = ReplaceData 1 4 4294967295 []

abbrev replaced : World
replaced = world_past bounds letters (replacing ∷ [])

abbrev before_replacing : List (List Token)
before_replacing = document
    ∷ (Open 1 ∷ unit 97 ∷ unit 98 ∷ start 0 ∷ unit 99 ∷ end 0 ∷ unit 100 ∷ unit 101 ∷ start 1 ∷ unit 102 ∷ end 1 ∷ unit 103 ∷ Close ∷ [])
    ∷ []

abbrev after_replacing : List (List Token)
after_replacing = document
    ∷ (Open 1 ∷ unit 97 ∷ unit 98 ∷ start 0 ∷ end 0 ∷ start 1 ∷ unit 88 ∷ unit 89 ∷ unit 102 ∷ end 1 ∷ unit 103 ∷ Close ∷ [])
    ∷ []

abbrev after_cutting : List (List Token)
after_cutting = document
    ∷ (Open 1 ∷ unit 97 ∷ unit 98 ∷ start 0 ∷ end 0 ∷ start 1 ∷ unit 88 ∷ unit 89 ∷ end 1 ∷ Close ∷ [])
    ∷ []

pub text_before_replacing : texts_of letters ≡ before_replacing
text_before_replacing = refl

pub edits_of_replacing : edits_of bounds letters replacing ≡ Splice 1 2 3 (88 ∷ 89 ∷ []) ∷ []
edits_of_replacing = refl

pub text_after_replacing : all_on_texts (edits_of bounds letters replacing) before_replacing ≡ after_replacing
text_after_replacing = refl

pub ends_before_replacing : letters.ranges ≡ from_to 1 2 1 3 ∷ from_to 1 5 1 6 ∷ []
ends_before_replacing = refl

pub marks_before_replacing : marked_ranges 0 letters.ranges before_replacing ≡ from_to 1 2 1 3 ∷ from_to 1 5 1 6 ∷ []
marks_before_replacing = refl

pub ends_after_replacing : replaced.ranges ≡ from_to 1 2 1 2 ∷ from_to 1 2 1 5 ∷ []
ends_after_replacing = refl

pub marks_after_replacing : marked_ranges 0 replaced.ranges after_replacing ≡ from_to 1 2 1 2 ∷ from_to 1 2 1 5 ∷ []
marks_after_replacing = refl

pub edits_of_cutting : edits_of bounds replaced cutting ≡ Splice 1 4 2 [] ∷ []
edits_of_cutting = refl

pub text_after_cutting : all_on_texts (edits_of bounds replaced cutting) after_replacing ≡ after_cutting
text_after_cutting = refl

pub ends_after_cutting : (world_past bounds replaced (cutting ∷ [])).ranges ≡ from_to 1 2 1 2 ∷ from_to 1 2 1 4 ∷ []
ends_after_cutting = refl

pub marks_after_cutting : marked_ranges 0 replaced.ranges after_cutting ≡ from_to 1 2 1 2 ∷ from_to 1 2 1 4 ∷ []
marks_after_cutting = refl

-- A Text with a parent is split: <p>abcd e</p> with one range around "c" and one around the second Text.

abbrev whole : World
whole = world_past bounds first_world
    (CreateElement 0 (112 ∷ []) ∷ CreateText 0 (97 ∷ 98 ∷ 99 ∷ 100 ∷ []) ∷ CreateText 0 (101 ∷ []) ∷ AppendChild 1 2 ∷ AppendChild 1 3
    ∷ CreateRange 0 ∷ CreateRange 0 ∷ SetStart 0 2 2 ∷ SetEnd 0 2 3 ∷ SetStart 1 1 1 ∷ SetEnd 1 1 2 ∷ [])

abbrev splitting : Command
splitting = SplitText 2 2

abbrev before_splitting : List (List Token)
before_splitting = document
    ∷ (Open 1 ∷ Open 2 ∷ unit 97 ∷ unit 98 ∷ start 0 ∷ unit 99 ∷ end 0 ∷ unit 100 ∷ Close ∷ start 1 ∷ Open 3 ∷ unit 101 ∷ Close ∷ end 1 ∷ Close ∷ [])
    ∷ []

abbrev after_splitting : List (List Token)
after_splitting = document
    ∷ (Open 1 ∷ Open 2 ∷ unit 97 ∷ unit 98 ∷ start 0 ∷ Close ∷ Open 4 ∷ unit 99 ∷ end 0 ∷ unit 100 ∷ Close ∷ start 1 ∷ Open 3 ∷ unit 101 ∷ Close ∷ end 1 ∷ Close ∷ [])
    ∷ []

pub text_before_splitting : texts_of whole ≡ before_splitting
text_before_splitting = refl

pub edits_of_splitting : edits_of bounds whole splitting ≡ Parting (point 2 2) 4 ∷ []
edits_of_splitting = refl

pub text_after_splitting : all_on_texts (edits_of bounds whole splitting) before_splitting ≡ after_splitting
text_after_splitting = refl

pub ends_before_splitting : whole.ranges ≡ from_to 2 2 2 3 ∷ from_to 1 1 1 2 ∷ []
ends_before_splitting = refl

pub marks_before_splitting : marked_ranges 0 whole.ranges before_splitting ≡ from_to 2 2 2 3 ∷ from_to 1 1 1 2 ∷ []
marks_before_splitting = refl

pub ends_after_splitting : (world_past bounds whole (splitting ∷ [])).ranges ≡ from_to 2 2 4 1 ∷ from_to 1 2 1 3 ∷ []
ends_after_splitting = refl

pub marks_after_splitting : marked_ranges 0 whole.ranges after_splitting ≡ from_to 2 2 4 1 ∷ from_to 1 2 1 3 ∷ []
marks_after_splitting = refl
