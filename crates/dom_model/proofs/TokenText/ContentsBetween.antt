-- A test for dialogues, where a list without members says that nothing was missed: the text of a range, what deleting and extracting leave,
-- and the fragments, are what lies between the range's markers.
use Rattle.std.specs.{Prelude.ℕ, Prelude.Bool, Prelude.true, Prelude.false, Prelude.◌&&◌, Prelude.List, Prelude.[], Prelude.◌∷◌, Prelude.flat_map, Prelude.bytes_eq, List.list_any}
use Rattle.dom_model.specs.Definitions.{World, first_world, Command, RangeText, DeleteContents, ExtractContents, CloneContents, Reply, Done, Answer, Units, Row, Token, is_mark_of, unmarked, texts_of, tokens_among, before_mark, after_mark, between, left_before, left_after, text_of_range, same_shape, fragment_shape, Bounds, answer}
use Rattle.dom_model.proofs.TokenText.Agreement.{all_same, same_token, missed, commands_read}

abbrev pub if_marked : Bool → List Token → List Token
if_marked true text = text
if_marked false text = []

-- the text that holds a range
abbrev pub text_with : ℕ → List (List Token) → List Token
text_with r texts = flat_map (λ text. if_marked (list_any (is_mark_of r true) text) text) texts

abbrev pub same_text : List Token → List Token → Bool
same_text a b = all_same same_token a b

abbrev pub is_left : ℕ → List Token → List Token → Bool
is_left r text next = same_text (unmarked (before_mark r true next)) (left_before r text) && same_text (unmarked (after_mark r false next)) (left_after r text)

abbrev pub is_fragment_of : World → ℕ → ℕ → List Token → Bool
is_fragment_of next fragment r text = same_shape (unmarked (tokens_among fragment (texts_of next))) (fragment_shape (between r text))

abbrev pub is_told : Answer → List ℕ → Bool
is_told (Units units) wanted = bytes_eq units wanted
is_told _ wanted = false

abbrev pub holds_of : Command → World → Reply → World → Bool
holds_of (RangeText r) w (Done a) next = is_told a (text_of_range w r (text_with r (texts_of w)))
holds_of (DeleteContents r) w (Done a) next = is_left r (text_with r (texts_of w)) (text_with r (texts_of next))
holds_of (ExtractContents r) w (Done a) next =
    is_left r (text_with r (texts_of w)) (text_with r (texts_of next)) && is_fragment_of next w.made r (text_with r (texts_of w))
holds_of (CloneContents r) w (Done a) next = is_fragment_of next w.made r (text_with r (texts_of w))
holds_of _ w reply next = true

abbrev pub contents_hold : Bounds → World → List Command → List Bool
contents_hold b w [] = []
contents_hold b w (c ∷ cs) = let s = answer b w c in holds_of c w s.reply s.world ∷ contents_hold b s.world cs

abbrev pub contents_missed : List Row → Bounds → List ℕ → List Bool
contents_missed table b bytes = missed (contents_hold b first_world (commands_read table b bytes))
