-- Extracting the contents of a live range leaves of the text what is to be left. DOM Standard, "Interface Range": extract.
use Rattle.std.proofs.Common.{◌≡◌, ℕ, Some, None}
use Rattle.dom_model.specs.Definitions.{root_of, Range, World, IsSound, range_at, check_extract, extract}
use Rattle.dom_model.proofs.TokenText.{Contents.DeletedInPlace.IsLeft, Contents.DeletedLeft.deleted-left, Contents.ExtractedAsDeleted.extracted-left_as}

pub extracted-left : (w : World) (r root : ℕ) (range : Range) → IsSound w → range_at w r ≡ Some range → root_of w.forest range.start.node ≡ Some root → check_extract r w ≡ None → IsLeft r root w (extract r w)
extracted-left w r root range sound h rooted check = extracted-left_as w r root range sound h rooted check (deleted-left w r root range sound h rooted)
