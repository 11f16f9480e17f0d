-- What is left of the token text once the contents of a live range are gone, what the fragment of them holds, and all that extracting comes to.
-- Ours; the steps are those of DOM Standard, "Interface Range".
use Rattle.std.specs.Prelude.{◌≡◌, ◌≤◌, ℕ, true, false, List, [], Some}
use Rattle.dom_model.specs.Forests.Forest.{root_of}
use Rattle.dom_model.specs.Worlds.World.{Point, Range}
use Rattle.dom_model.specs.DataAndCopies.Data.{attributes_of}
use Rattle.dom_model.specs.RangesAndContents.Contents.{extract}
use Rattle.dom_model.specs.TokenText.Tokens.{Token, unmarked, texts_of, gap_among}
use Rattle.dom_model.specs.TokenText.Gaps.{text_among, root_text}
use Rattle.dom_model.specs.TokenText.Between.{before_mark, after_mark, between, left_before, left_after, same_shape, fragment_shape}
use Rattle.dom_model.specs.TokenText.Edits.{extract_edits}
use Rattle.dom_model.specs.TokenText.Originals.{label_of, opened_inside, lies_in, originals, InStep}
use Rattle.dom_ranges.specs.Tables.{range_in}
use Rattle.dom_edit.specs.declared.world.World.{World}
use Rattle.dom_edit.specs.Whole.{Follows, unwatched}
use Rattle.dom_edit.specs.Markers.{StandByEdits}

-- of each root in whose tree a live range begins
abbrev pub OfRoot : World → ℕ → (ℕ → Type 0) → Type 0
OfRoot v r holds = (root : ℕ) (range : Range) → range_in v.ranges r ≡ Some range → root_of v.tree.forest range.start.node ≡ Some root → holds root

-- the token text of a root
abbrev pub text_of_root : World → ℕ → List Token
text_of_root v root = text_among root (texts_of (unwatched v))

-- each node in the fragment stands so to the one of the root's text that it is or is a copy of
abbrev pub AreOriginals : World → World → ℕ → ℕ → ℕ → (ℕ → ℕ → Type 0) → Type 0
AreOriginals old new r fragment root related = InStep related (originals r (text_of_root old root)) (opened_inside (root_text new.tree.forest fragment))

-- both markers of a live range stand in one gap
abbrev pub StandTogether : World → ℕ → Type 0
StandTogether v r = (place : Point) × (gap_among r true (texts_of (unwatched v)) ≡ Some place) × (gap_among r false (texts_of (unwatched v)) ≡ Some place)

-- Of the text of the range's root go the units between its markers, and the pairs of open and close that lie wholly there, and nothing else;
-- both markers then stand in one gap, behind the closes and ahead of the opens that are left, and nothing lies between them.
pub record IsLeftOf (old new : World) (r : ℕ) : Type 0 where
  pub before : OfRoot old r (λ root. unmarked (before_mark r true (text_of_root new root)) ≡ left_before r (text_of_root old root))
  pub after : OfRoot old r (λ root. unmarked (after_mark r false (text_of_root new root)) ≡ left_after r (text_of_root old root))
  pub gone : OfRoot old r (λ root. between r (text_of_root new root) ≡ [])
  pub together : OfRoot old r (λ root. StandTogether new r)

-- The fragment holds what stood between the markers, in copied nodes or those of old, with copies of the opens in front and closes behind that
-- make all pairs match; units alone are held by a copy of their node. Each node of it has the label and the attributes of the one that it is or is a
-- copy of.
pub record HoldsBetween (old new : World) (r fragment : ℕ) : Type 0 where
  pub held : OfRoot old r (λ root. same_shape (root_text new.tree.forest fragment) (fragment_shape (between r (text_of_root old root))) ≡ true)
  pub labels : OfRoot old r (λ root. AreOriginals old new r fragment root (λ n m. label_of new.tree.forest m ≡ label_of old.tree.forest n))
  pub attributes : OfRoot old r (λ root. AreOriginals old new r fragment root (λ n m. attributes_of (unwatched new) m ≡ attributes_of (unwatched old) n))

-- Of the nodes in the fragment of extracted contents, in their order, each that lies wholly between the markers is itself, and each other is new.
pub record MovesBetween (old new : World) (r fragment : ℕ) : Type 0 where
  pub same : OfRoot old r (λ root. AreOriginals old new r fragment root (λ n m. lies_in (between r (text_of_root old root)) n ≡ true → m ≡ n))
  pub fresh : OfRoot old r (λ root. AreOriginals old new r fragment root (λ n m. lies_in (between r (text_of_root old root)) n ≡ false → old.tree.made ≤ m))

-- Of the nodes in the fragment of cloned contents each is new.
pub record CopiesBetween (old new : World) (r fragment : ℕ) : Type 0 where
  pub fresh : OfRoot old r (λ root. AreOriginals old new r fragment root (λ n m. old.tree.made ≤ m))

-- What extracting the contents of a live range into a fragment comes to.
pub record Extracted (old new : World) (r fragment : ℕ) : Type 0 where
  -- the fragment has the next number
  pub number : fragment ≡ old.tree.made
  -- the new world is what the definition makes of the old one
  pub extracted : Follows old new (extract r)
  -- all markers stand where the definition's edits of the token text leave them
  pub markers : StandByEdits old new (extract_edits r)
  -- the text of the range's root keeps what stood outside the range's markers
  pub left : IsLeftOf old new r
  -- the fragment holds what stood between them
  pub held : HoldsBetween old new r fragment
  -- in it each node that lay wholly between them is itself, and each other is new
  pub moved : MovesBetween old new r fragment
