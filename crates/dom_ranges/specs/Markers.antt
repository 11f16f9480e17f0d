-- The five maps of boundary points, and the calls that set ends anew, as edits of the token texts. Ours: the meaning of the standard's rules on live range ends in other
-- words. DOM Standard, "Live ranges".
-- The token texts of a world have a marker for each end of a live range; an edit of the texts moves markers, a map moves points.
use Rattle.std.specs.Prelude.{◌≡◌, ℕ, ◌+◌, ◌<◌, ◌≤◌, Bool, true, List, length, slice_index_or, slice_set, Option, Some, None, IfSome, option_map}
use Rattle.dom_model.specs.declared.Kind.TheVariants.{Text, DocumentType}
use Rattle.dom_model.specs.PlainLists.Lists.{hits}
use Rattle.dom_model.specs.Forests.Kinds.{is_character_data, may_stand_in}
use Rattle.dom_model.specs.Forests.Forest.{Forest, HasNode, occurs, parent_of, index_of, ancestors, inclusive_descendants}
use Rattle.dom_model.specs.Worlds.World.{Content, Point, Range, World}
use Rattle.dom_model.specs.Soundness.Sound.{IsBoundary, IsSound}
use Rattle.dom_model.specs.BoundaryPoints.Points.{map_ranges, after_gap, after_removal, after_splice, after_split, after_merge}
use Rattle.dom_model.specs.Worlds.Lengths.{unit_count, node_length}
use Rattle.dom_model.specs.RangesAndContents.Ranges.{start_set, end_set, around, contents_of, collapsed, check_point, check_contents, range_at, end_of}
use Rattle.dom_model.specs.Forests.Nodes.{kind_passes, is_of_kind}
use Rattle.dom_model.specs.DataAndCopies.Data.{data_of, tail_of}
use Rattle.dom_model.specs.TokenText.Tokens.{Edit, Insertion, Removal, Splice, Parting, Merge, point, texts_of, on_texts, all_on_texts, marked_ranges, gap_among, tokens_among, unmarked}
use Rattle.dom_model.specs.MutationAlgorithms.Insertable.{ArePlaceable, IsChildOf}
use Rattle.dom_model.specs.TokenText.Edits.{index_before, insertions, ends_edits}
use Rattle.dom_ranges.specs.Tables.{RangeTable}

-- in the token texts of a world each end of a live range stands in its marker's gap; once the texts are edited and the ends are moved, each
-- stands in its marker's gap again
pub record MoveAsMarkers (w : World) (e : Edit) (moved : List (Option Range)) : Type 0 where
  pub before : marked_ranges 0 w.ranges (texts_of w) ≡ w.ranges
  pub after : marked_ranges 0 moved (on_texts e (texts_of w)) ≡ moved

-- a root may come in under a parent that is not inside it and may have it, before a child or last
pub record MayComeIn (f : Forest Content) (n parent : ℕ) (child : Option ℕ) : Type 0 where
  pub there : 0 < occurs n f
  pub root : parent_of f n ≡ None
  pub holder : 0 < occurs parent f
  pub outside : hits n (ancestors parent f) ≡ 0
  pub fits : kind_passes (λ k. kind_passes (may_stand_in k) f n) f parent ≡ true
  pub before : IfSome child (λ c. parent_of f c ≡ Some parent)

-- a root comes into the gap before a child, or behind the last
abbrev pub MoveWhereNodesComeIn : Type 0
MoveWhereNodesComeIn =
    (w : World) → IsSound w → (n parent : ℕ) (child : Option ℕ) → MayComeIn w.forest n parent child →
    MoveAsMarkers w (Insertion n (point parent (index_before w parent child))) (map_ranges (after_gap parent (index_before w parent child) 1) w.ranges)

-- the same, where the texts are edited by each of several edits in turn
pub record MoveAsMarkersByAll (w : World) (es : List Edit) (moved : List (Option Range)) : Type 0 where
  pub before : marked_ranges 0 w.ranges (texts_of w) ≡ w.ranges
  pub after : marked_ranges 0 moved (all_on_texts es (texts_of w)) ≡ moved

-- several roots come in before one child, or last: one after another, each into a gap of its own behind the one before it. One map makes room
-- for them all
abbrev pub MoveWhereSeveralNodesComeIn : Type 0
MoveWhereSeveralNodesComeIn =
    (w : World) → IsSound w → (ns : List ℕ) (parent : ℕ) (child : Option ℕ) → 0 < occurs parent w.forest → ArePlaceable w.forest parent ns →
    IsChildOf w.forest parent child →
    MoveAsMarkersByAll w (insertions parent (index_before w parent child) ns) (map_ranges (after_gap parent (index_before w parent child) (length ns)) w.ranges)

-- a node leaves its parent
abbrev pub MoveWhereANodeLeaves : Type 0
MoveWhereANodeLeaves =
    (w : World) → IsSound w → (n parent : ℕ) → parent_of w.forest n ≡ Some parent →
    MoveAsMarkers w (Removal n) (map_ranges (after_removal (inclusive_descendants w.forest n) parent (index_of w.forest n)) w.ranges)

-- of character data, `count` units from an offset on give way to others
abbrev pub MoveWhereUnitsAreReplaced : Type 0
MoveWhereUnitsAreReplaced =
    (w : World) → IsSound w → (n offset count : ℕ) (units : List ℕ) → kind_passes is_character_data w.forest n ≡ true → offset + count ≤ length (data_of w n) →
    MoveAsMarkers w (Splice n offset count units) (map_ranges (after_splice n offset count (length units)) w.ranges)

-- a Text with a parent is split at an offset; the new Text has the next number. Three maps, one after another: the gap before the new Text,
-- the split, and the units that leave the old Text
abbrev pub MoveWhereATextIsSplit : Type 0
MoveWhereATextIsSplit =
    (w : World) → IsSound w → (n parent offset : ℕ) → parent_of w.forest n ≡ Some parent → is_of_kind Text w.forest n ≡ true → offset ≤ length (data_of w n) →
    MoveAsMarkers w (Parting (point n offset) w.made)
    (map_ranges (after_splice n offset (length (tail_of w n offset)) 0)
    (map_ranges (after_split n offset w.made parent (index_of w.forest n))
    (map_ranges (after_gap parent (index_of w.forest n + 1) 1) w.ranges)))

-- a Text is joined with the next, which stands behind it under one parent. Three maps, one after another: the units that come to the first
-- Text, the merge, and the removal of the second Text
abbrev pub MoveWhereTextsAreJoined : Type 0
MoveWhereTextsAreJoined =
    (w : World) → IsSound w → (n next parent : ℕ) → parent_of w.forest n ≡ Some parent → parent_of w.forest next ≡ Some parent →
    index_of w.forest next ≡ index_of w.forest n + 1 →
    is_of_kind Text w.forest n ≡ true → is_of_kind Text w.forest next ≡ true →
    MoveAsMarkers w (Merge n next)
    (map_ranges (after_removal (inclusive_descendants w.forest next) parent (index_of w.forest next))
    (map_ranges (after_merge next n (length (data_of w n)) parent (index_of w.forest next))
    (map_ranges (after_splice n (length (data_of w n)) 0 (length (data_of w next))) w.ranges)))

-- a live range is set to two other ends: in the token texts the marker of each end that moves is taken out and put into the gap of its new
-- point, and all other markers stay; then each end stands in its marker's gap, as it did before
pub record SetAsMarkers (w : World) (r : ℕ) (old new : Range) : Type 0 where
  pub before : marked_ranges 0 w.ranges (texts_of w) ≡ w.ranges
  pub after : marked_ranges 0 (slice_set w.ranges r (Some new)) (all_on_texts (ends_edits r old new) (texts_of w)) ≡ slice_set w.ranges r (Some new)

-- each call that sets a live range anew does so, where it is not refused
pub record IsSetAsMarkers (w : World) (r : ℕ) (old : Range) : Type 0 where
  pub start : (p : Point) → HasNode w.forest p.node → check_point unit_count w.forest p ≡ None → SetAsMarkers w r old (start_set w.forest p old)
  pub end : (p : Point) → HasNode w.forest p.node → check_point unit_count w.forest p ≡ None → SetAsMarkers w r old (end_set w.forest p old)
  pub select : (n : ℕ) → IfSome (around w.forest n) (SetAsMarkers w r old)
  pub select_contents : (n : ℕ) → HasNode w.forest n → check_contents w.forest n ≡ None → SetAsMarkers w r old (contents_of unit_count w.forest n)
  pub collapse : (to_start : Bool) → SetAsMarkers w r old (collapsed to_start old)

abbrev pub MoveWhereEndsAreSet : Type 0
MoveWhereEndsAreSet = (w : World) → IsSound w → (r : ℕ) (old : Range) → range_at w r ≡ Some old → IsSetAsMarkers w r old

-- Once the token texts of a world are edited, each end of each live range of a list stands where the edits put its marker; released ranges and
-- those never made have none. And without markers each node's tokens are those of the world with that list.
pub record StandAsEdited (w : World) (edits : List Edit) (ranges : List (Option Range)) : Type 0 where
  pub gaps : (r : ℕ) (side : Bool) → gap_among r side (all_on_texts edits (texts_of w)) ≡ option_map (end_of side) (slice_index_or ranges r None)
  pub tokens : (n : ℕ) → unmarked (tokens_among n (all_on_texts edits (texts_of w))) ≡ unmarked (tokens_among n (texts_of (record w { ranges = ranges })))

-- the same, from one table of live ranges to another: in each sound world that has the ranges of the first, and is as is asked. The edits are
-- told by that world
abbrev pub RangesMatchEdits : (World → Type 0) → RangeTable → RangeTable → (World → List Edit) → Type 0
RangesMatchEdits IsAsked old new edits = (w : World) → IsSound w → w.ranges ≡ old.ranges → IsAsked w → StandAsEdited w (edits w) new.ranges

-- nothing is asked of the world
abbrev pub IsAny : World → Type 0
IsAny w = Unit {0}

-- the point is a boundary point there
abbrev pub HasPoint : Point → World → Type 0
HasPoint p w = IsBoundary w.forest p

module _ {X : Type 0} where
  -- each node stands in the world as it does in a tree; what the nodes hold may differ
  pub record IsNestedAs (f : Forest X) (w : World) : Type 0 where
    pub parents : (n : ℕ) → parent_of w.forest n ≡ parent_of f n
    pub indices : (n : ℕ) → index_of w.forest n ≡ index_of f n
    pub paths : (n : ℕ) → ancestors n w.forest ≡ ancestors n f

  -- the same, and each node of the tree is there, as long as in the tree, and a doctype in both or in neither
  pub record IsMeasuredAs (measure : X → ℕ) (f : Forest X) (w : World) : Type 0 where
    pub nested : IsNestedAs f w
    pub there : (n : ℕ) → HasNode f n → HasNode w.forest n
    pub doctypes : (n : ℕ) → is_of_kind DocumentType w.forest n ≡ is_of_kind DocumentType f n
    pub lengths : (n : ℕ) → node_length unit_count w.forest n ≡ node_length measure f n
