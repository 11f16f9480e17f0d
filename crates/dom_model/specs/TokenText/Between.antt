-- What lies between the two markers of a live range in a token text, and what the commands on contents leave of it and make of it. Ours.
use Rattle.std.specs.Prelude.{ℕ, suc, zero, ◌==◌, Bool, true, false, ◌&&◌, if◌then◌else◌, List, [], ◌∷◌, ◌++◌, reverse, replicate, length}
use Rattle.dom_model.specs.declared.Kind.TheVariants.{Text}
use Rattle.dom_model.specs.Worlds.World.{Point, World}
use Rattle.dom_model.specs.Forests.Nodes.{is_of_kind}
use Rattle.dom_model.specs.TokenText.Tokens.{Token, Open, Close, OneUnit, Mark, unmarked, is_mark_of, passed}

abbrev pub before_mark : ℕ → Bool → List Token → List Token
before_mark r side [] = []
before_mark r side (t ∷ ts) = if is_mark_of r side t then [] else t ∷ before_mark r side ts

abbrev pub after_mark : ℕ → Bool → List Token → List Token
after_mark r side [] = []
after_mark r side (t ∷ ts) = if is_mark_of r side t then ts else after_mark r side ts

-- the tokens between the markers of a range
abbrev pub between : ℕ → List Token → List Token
between r text = unmarked (before_mark r false (after_mark r true text))

-- The opens without their closes, in order; `above` are those met so far, the nearest first.
abbrev pub opens_left : List Token → List Token → List Token
opens_left above [] = reverse above
opens_left above (Open n ∷ ts) = opens_left (Open n ∷ above) ts
opens_left [] (Close ∷ ts) = opens_left [] ts
opens_left (o ∷ above) (Close ∷ ts) = opens_left above ts
opens_left above (OneUnit u ∷ ts) = opens_left above ts
opens_left above (Mark r side ∷ ts) = opens_left above ts

-- The closes without their opens; `depth` is the number of opens that wait for theirs.
abbrev pub closes_left : ℕ → List Token → List Token
closes_left depth [] = []
closes_left depth (Open n ∷ ts) = closes_left (suc depth) ts
closes_left zero (Close ∷ ts) = Close ∷ closes_left zero ts
closes_left (suc depth) (Close ∷ ts) = closes_left depth ts
closes_left depth (OneUnit u ∷ ts) = closes_left depth ts
closes_left depth (Mark r side ∷ ts) = closes_left depth ts

-- What deleting or extracting leaves of a text: the units between the markers go, and the pairs that lie wholly there; both ends then stand
-- after the closes and before the opens that are left.
abbrev pub left_before : ℕ → List Token → List Token
left_before r text = unmarked (before_mark r true text) ++ closes_left 0 (between r text)

abbrev pub left_after : ℕ → List Token → List Token
left_after r text = opens_left [] (between r text) ++ unmarked (after_mark r false text)

-- The numbers of the nodes that are open around the start marker, the innermost first.
abbrev pub numbers_of : List Point → List ℕ
numbers_of [] = []
numbers_of (p ∷ around) = p.node ∷ numbers_of around

abbrev pub open_at : ℕ → Bool → List Point → List Token → List ℕ
open_at r side here [] = []
open_at r side here (t ∷ ts) = let next = passed t here in if is_mark_of r side t then numbers_of here else open_at r side next ts

abbrev pub top_is_text : World → List ℕ → Bool
top_is_text w [] = false
top_is_text w (n ∷ around) = is_of_kind Text w.forest n

abbrev pub unit_if : Bool → ℕ → List ℕ
unit_if true u = u ∷ []
unit_if false u = []

abbrev pub without_first : List ℕ → List ℕ
without_first [] = []
without_first (n ∷ ns) = ns

-- The units of Texts among tokens, where the nodes of a list are open around them.
abbrev pub text_units : World → List ℕ → List Token → List ℕ
text_units w around [] = []
text_units w around (Open n ∷ ts) = text_units w (n ∷ around) ts
text_units w around (Close ∷ ts) = text_units w (without_first around) ts
text_units w around (OneUnit u ∷ ts) = unit_if (top_is_text w around) u ++ text_units w around ts
text_units w around (Mark r side ∷ ts) = text_units w around ts

-- The units of Texts between the markers.
abbrev pub text_of_range : World → ℕ → List Token → List ℕ
text_of_range w r text = text_units w (open_at r true [] text) (between r text)

-- Tokens as they would be of other nodes: the numbers do not count.
abbrev pub same_shape : List Token → List Token → Bool
same_shape [] [] = true
same_shape (Open n ∷ ts) (Open m ∷ us) = same_shape ts us
same_shape (Close ∷ ts) (Close ∷ us) = same_shape ts us
same_shape (OneUnit u ∷ ts) (OneUnit v ∷ us) = (u == v) && same_shape ts us
same_shape (Mark r side ∷ ts) (Mark q other ∷ us) = same_shape ts us
same_shape _ _ = false

abbrev pub are_units : List Token → Bool
are_units [] = true
are_units (Open n ∷ ts) = false
are_units (Close ∷ ts) = false
are_units (OneUnit u ∷ ts) = are_units ts
are_units (Mark r side ∷ ts) = are_units ts

-- a copy of one node around units alone, and nothing around nothing
abbrev pub in_one_node : List Token → List Token
in_one_node [] = []
in_one_node (t ∷ ts) = Open 0 ∷ ((t ∷ ts) ++ (Close ∷ []))

-- opens in front and closes behind, so that all pairs match
abbrev pub matched : List Token → List Token
matched ts = replicate (length (closes_left 0 ts)) (Open 0) ++ (ts ++ replicate (length (opens_left [] ts)) Close)

-- The shape of the fragment that extracting or cloning makes of what lies between the markers; its numbers do not count.
abbrev pub fragment_shape : List Token → List Token
fragment_shape ts = Open 0 ∷ ((if are_units ts then in_one_node ts else matched ts) ++ (Close ∷ []))
