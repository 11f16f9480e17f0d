-- The token text of a tree, with a marker for each end of a live range, and the edits of it. Ours: the meaning of the standard's rules on
-- live range ends ("Boundary points", "Live ranges") in other words.
-- Of a node: an open token with its number, the texts of its children or a token for each unit, a close token without a number. The gaps
-- between the root's open and close are the points of the tree: a marker stands in the gap of its end. Markers of one gap have no order.
use Rattle.std.specs.Prelude.{ℕ, zero, suc, ◌+◌, ◌==◌, Bool, true, false, not, ◌&&◌, if◌then◌else◌, List, [], ◌∷◌, ◌++◌, map, filter, flat_map, Option, Some, None}
use Rattle.std.specs.List.{list_any}
use Rattle.dom_model.specs.PlainLists.Lists.{or_else}
use Rattle.dom_model.specs.Forests.Kinds.{is_character_data}
use Rattle.dom_model.specs.Forests.Forest.{Node, Forest, empty, node}
use Rattle.dom_model.specs.Worlds.World.{Content, Point, Range, World}

pub data Token : Type 0 where
  Open : ℕ → Token
  Close : Token
  OneUnit : ℕ → Token
  -- an end of a live range: the range's number, and whether it is the start
  Mark : ℕ → Bool → Token

abbrev pub point : ℕ → ℕ → Point
point n offset = record { node = n; offset = offset }

abbrev pub same_point : Point → Point → Bool
same_point p q = (p.node == q.node) && (p.offset == q.offset)

abbrev pub mark_if : Bool → ℕ → Bool → List Token
mark_if false r is_start = []
mark_if true r is_start = Mark r is_start ∷ []

-- the markers in a gap, of the live ranges from number r on
abbrev pub marks_from : ℕ → List (Option Range) → Point → List Token
marks_from r [] p = []
marks_from r (None ∷ ranges) p = marks_from (suc r) ranges p
marks_from r (Some range ∷ ranges) p =
    mark_if (same_point range.start p) r true ++ (mark_if (same_point range.end p) r false ++ marks_from (suc r) ranges p)

abbrev pub no_marks : Point → List Token
no_marks p = []

-- the units of a node from offset i on
abbrev pub unit_tokens : (Point → List Token) → ℕ → ℕ → List ℕ → List Token
unit_tokens marks n i [] = marks (point n i)
unit_tokens marks n i (u ∷ units) = marks (point n i) ++ (OneUnit u ∷ unit_tokens marks n (suc i) units)

-- what stands between a node's open and close
abbrev pub inner_tokens : (Point → List Token) → Node Content → List Token → List Token
inner_tokens marks x children = if is_character_data x.label.kind then unit_tokens marks x.number 0 x.body.text else children

-- the children of a node from index i on
abbrev pub child_tokens : (Point → List Token) → ℕ → ℕ → Forest Content → List Token
child_tokens marks n i empty = marks (point n i)
child_tokens marks n i (node x kids rest) =
    marks (point n i)
    ++ (Open x.number ∷ (inner_tokens marks x (child_tokens marks x.number 0 kids) ++ (Close ∷ child_tokens marks n (suc i) rest)))

-- the texts of a forest, one for each root
abbrev pub token_texts : (Point → List Token) → Forest Content → List (List Token)
token_texts marks empty = []
token_texts marks (node x kids rest) =
    (Open x.number ∷ (inner_tokens marks x (child_tokens marks x.number 0 kids) ++ (Close ∷ []))) ∷ token_texts marks rest

-- the token texts of a world
abbrev pub texts_of : World → List (List Token)
texts_of w = token_texts (marks_from 0 w.ranges) w.forest

abbrev pub is_mark : Token → Bool
is_mark (Open n) = false
is_mark Close = false
is_mark (OneUnit u) = false
is_mark (Mark r is_start) = true

abbrev pub marks_in : List Token → List Token
marks_in ts = filter is_mark ts

abbrev pub unmarked : List Token → List Token
unmarked ts = filter (λ t. not (is_mark t)) ts

abbrev pub is_open : ℕ → Token → Bool
is_open n (Open m) = m == n
is_open n Close = false
is_open n (OneUnit u) = false
is_open n (Mark r is_start) = false

abbrev pub same_side : Bool → Bool → Bool
same_side true side = side
same_side false side = not side

abbrev pub is_mark_of : ℕ → Bool → Token → Bool
is_mark_of r side (Open n) = false
is_mark_of r side Close = false
is_mark_of r side (OneUnit u) = false
is_mark_of r side (Mark q other) = (q == r) && same_side side other

-- Walking a text: the point that the walk has come to in the innermost open node, and in each around it.

abbrev pub stepped : List Point → List Point
stepped [] = []
stepped (p ∷ around) = record p { offset = p.offset + 1 } ∷ around

abbrev pub left : List Point → List Point
left [] = []
left (p ∷ around) = stepped around

abbrev pub passed : Token → List Point → List Point
passed (Open n) here = point n 0 ∷ here
passed Close here = left here
passed (OneUnit u) here = stepped here
passed (Mark r is_start) here = here

abbrev pub stands_at : Point → List Point → Bool
stands_at p [] = false
stands_at p (q ∷ around) = same_point p q

abbrev pub first_point : List Point → Option Point
first_point [] = None
first_point (p ∷ around) = Some p

-- the gap of a marker, as a point
abbrev pub gap_of : ℕ → Bool → List Point → List Token → Option Point
gap_of r side here [] = None
gap_of r side here (t ∷ ts) = let next = passed t here in if is_mark_of r side t then first_point here else gap_of r side next ts

abbrev pub gap_among : ℕ → Bool → List (List Token) → Option Point
gap_among r side [] = None
gap_among r side (text ∷ texts) = or_else (gap_of r side [] text) (gap_among r side texts)

-- a change of what stands from a gap on, its markers first
abbrev pub at_gap : Point → (List Token → List Token) → List Point → List Token → List Token
at_gap p change here [] = []
at_gap p change here (t ∷ ts) = let next = passed t here in if stands_at p here then change (t ∷ ts) else t ∷ at_gap p change next ts

abbrev pub in_gap : Point → (List Token → List Token) → List (List Token) → List (List Token)
in_gap p change texts = map (at_gap p change []) texts

-- tokens put after all markers of the gap
abbrev pub after_marks : List Token → List Token → List Token
after_marks new [] = new
after_marks new (t ∷ ts) = if is_mark t then t ∷ after_marks new ts else new ++ (t ∷ ts)

-- the next units go, and the markers among them stay
abbrev pub units_out : ℕ → List Token → List Token
units_out count [] = []
units_out zero (t ∷ ts) = t ∷ ts
units_out (suc count) (Open n ∷ ts) = Open n ∷ ts
units_out (suc count) (Close ∷ ts) = Close ∷ ts
units_out (suc count) (OneUnit u ∷ ts) = units_out count ts
units_out (suc count) (Mark r is_start ∷ ts) = Mark r is_start ∷ units_out (suc count) ts

abbrev pub unit_list : List ℕ → List Token
unit_list units = map (λ u. OneUnit u) units

-- Parts of a text around a node.

abbrev pub has_open : ℕ → List Token → Bool
has_open n ts = list_any (is_open n) ts

abbrev pub before_open : ℕ → List Token → List Token
before_open n [] = []
before_open n (t ∷ ts) = if is_open n t then [] else t ∷ before_open n ts

abbrev pub from_open : ℕ → List Token → List Token
from_open n [] = []
from_open n (t ∷ ts) = if is_open n t then t ∷ ts else from_open n ts

-- the tokens up to the close that leaves as many open as `depth` says, with it, and those after it
abbrev pub through_close : ℕ → List Token → List Token
through_close depth [] = []
through_close depth (Open n ∷ ts) = Open n ∷ through_close (suc depth) ts
through_close zero (Close ∷ ts) = Close ∷ []
through_close (suc zero) (Close ∷ ts) = Close ∷ []
through_close (suc (suc depth)) (Close ∷ ts) = Close ∷ through_close (suc depth) ts
through_close depth (OneUnit u ∷ ts) = OneUnit u ∷ through_close depth ts
through_close depth (Mark r is_start ∷ ts) = Mark r is_start ∷ through_close depth ts

abbrev pub past_close : ℕ → List Token → List Token
past_close depth [] = []
past_close depth (Open n ∷ ts) = past_close (suc depth) ts
past_close zero (Close ∷ ts) = ts
past_close (suc zero) (Close ∷ ts) = ts
past_close (suc (suc depth)) (Close ∷ ts) = past_close (suc depth) ts
past_close depth (OneUnit u ∷ ts) = past_close depth ts
past_close depth (Mark r is_start ∷ ts) = past_close depth ts

-- a node's own tokens, from its open to its close
abbrev pub tokens_at : ℕ → List Token → List Token
tokens_at n ts = through_close 0 (from_open n ts)

abbrev pub tokens_among : ℕ → List (List Token) → List Token
tokens_among n texts = flat_map (tokens_at n) texts

-- the text in which the node's tokens give way to their markers
abbrev pub closed_up : ℕ → List Token → List Token
closed_up n ts = if has_open n ts then before_open n ts ++ (marks_in (tokens_at n ts) ++ past_close 0 (from_open n ts)) else ts

-- the text whose root is the node
abbrev pub is_root_text : ℕ → List Token → Bool
is_root_text n [] = false
is_root_text n (t ∷ ts) = is_open n t

abbrev pub other_texts : ℕ → List (List Token) → List (List Token)
other_texts n texts = filter (λ text. not (is_root_text n text)) texts

-- the next open token goes
abbrev pub open_out : List Token → List Token
open_out [] = []
open_out (Open n ∷ ts) = ts
open_out (Close ∷ ts) = Close ∷ open_out ts
open_out (OneUnit u ∷ ts) = OneUnit u ∷ open_out ts
open_out (Mark r is_start ∷ ts) = Mark r is_start ∷ open_out ts

-- the next close and the open after it go
abbrev pub seam_out : List Token → List Token
seam_out [] = []
seam_out (Open n ∷ ts) = Open n ∷ seam_out ts
seam_out (Close ∷ ts) = open_out ts
seam_out (OneUnit u ∷ ts) = OneUnit u ∷ seam_out ts
seam_out (Mark r is_start ∷ ts) = Mark r is_start ∷ seam_out ts

abbrev pub mark_out : ℕ → Bool → List (List Token) → List (List Token)
mark_out r side texts = map (filter (λ t. not (is_mark_of r side t))) texts

abbrev pub mark_in : ℕ → Bool → Point → List (List Token) → List (List Token)
mark_in r side p texts = in_gap p (λ ts. Mark r side ∷ ts) texts

-- The primitive edits.

pub data Edit : Type 0 where
  -- a node leaves its parent
  Removal : ℕ → Edit
  -- a root comes into a gap
  Insertion : ℕ → Point → Edit
  -- of a node, from an offset on, a count of units gives way to others
  Splice : ℕ → ℕ → ℕ → List ℕ → Edit
  -- a Text with a parent is split at a point; the number of the new Text
  Parting : Point → ℕ → Edit
  -- a Text is joined with the next, whose number stands second
  Merge : ℕ → ℕ → Edit
  -- an end of a live range is set
  EndSet : ℕ → Bool → Point → Edit
  -- a new node or a copied tree
  Making : Forest Content → Edit
  -- a new live range
  RangeMaking : ℕ → Range → Edit
  Release : ℕ → Edit
  Discard : ℕ → Edit

-- an edit on the texts
abbrev pub on_texts : Edit → List (List Token) → List (List Token)
on_texts (Removal n) texts = map (closed_up n) texts ++ (unmarked (tokens_among n texts) ∷ [])
on_texts (Insertion n p) texts = in_gap p (after_marks (tokens_among n texts)) (other_texts n texts)
on_texts (Splice n offset count units) texts = in_gap (point n offset) (λ ts. after_marks (unit_list units) (units_out count ts)) texts
on_texts (Parting p new) texts = in_gap p (after_marks (Close ∷ Open new ∷ [])) texts
on_texts (Merge n next) texts = in_gap (point n 0) seam_out texts ++ (unmarked (tokens_among next texts) ∷ [])
on_texts (EndSet r side p) texts = mark_in r side p (mark_out r side texts)
on_texts (Making f) texts = texts ++ token_texts no_marks f
on_texts (RangeMaking r range) texts = mark_in r true range.start (mark_in r false range.end texts)
on_texts (Release r) texts = mark_out r true (mark_out r false texts)
on_texts (Discard n) texts = other_texts n texts

abbrev pub all_on_texts : List Edit → List (List Token) → List (List Token)
all_on_texts [] texts = texts
all_on_texts (e ∷ es) texts = all_on_texts es (on_texts e texts)

-- the two ends of a live range, as its markers stand
abbrev pub range_between : Option Point → Option Point → Option Range
range_between None end = None
range_between (Some start) None = None
range_between (Some start) (Some end) = Some (record { start = start; end = end })

abbrev pub marked_range : List (List Token) → ℕ → Option Range
marked_range texts r = range_between (gap_among r true texts) (gap_among r false texts)

-- the live ranges as their markers stand, for as many numbers as the list is long
abbrev pub marked_ranges : ℕ → List (Option Range) → List (List Token) → List (Option Range)
marked_ranges r [] texts = []
marked_ranges r (range ∷ ranges) texts = marked_range texts r ∷ marked_ranges (suc r) ranges texts
