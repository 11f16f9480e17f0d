-- Both markers of a range whose ends are one point stand in one gap.
use Rattle.std.proofs.Common.{◌≡◌, ℕ, true, false, Option, Some, option_map, ap, ◌∙◌}
use Rattle.dom_model.specs.Definitions.{Point, Range, World, IsSound, end_of, collapsed_at, range_at, texts_of, gap_among}
use Rattle.dom_model.proofs.TokenText.{Marked.MarkedFirst.marked-first, Marked.MarkedFirst.kinds-childless, Marked.MarkedEdits.end-found, EditsMade.FittingEdits.ready-sound}

pub ends-together : (v : World) (r : ℕ) (place : Point) → IsSound v → range_at v r ≡ Some (collapsed_at place) → (gap_among r true (texts_of v) ≡ Some place) × (gap_among r false (texts_of v) ≡ Some place)
ends-together v r place sound h =
    let m = marked-first v (kinds-childless _ v.forest sound.forest.kinds) in (
      end-found (texts_of v) v m (ready-sound v sound) r true ∙ ap (λ (o : Option Range). option_map (end_of true) o) h,
      end-found (texts_of v) v m (ready-sound v sound) r false ∙ ap (λ (o : Option Range). option_map (end_of false) o) h,
    )
