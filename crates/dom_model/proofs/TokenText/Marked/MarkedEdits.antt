-- Over a list of primitive edits each end of each live range stands where its marker stands.
use Rattle.std.proofs.Common.{◌≡◌, ℕ, suc, ◌+◌, Bool, true, false, List, [], ◌∷◌, Option, Some, None, option_map, refl, ap, ◌∙◌, arith, slice_index_or}
use Rattle.dom_model.specs.Definitions.{Point, Range, World, end_of, range_at, Token, Edit, texts_of, gap_among, range_between, marked_ranges, on_texts, all_on_texts, on_world, all_on_world, Childless, end_at, IsReady, Fits, AllFit, fits_removal, fits_insertion, fits_splice, fits_parting, fits_merge, fits_end_set, fits_making, fits_range_making, fits_release, fits_discard}
use Rattle.dom_model.proofs.TokenText.{Marked.MarkedTexts.Marked, Marked.MarkedTexts.marker-stands, Marked.MarkedTexts.no_gap, Marked.MarkedFirst.marked-first, Marked.MarkedEnds.point_of, Marked.MarkedEnds.marked-release, Marked.MarkedEnds.marked-end_set, Marked.MarkedEnds.marked-range_making, Pieces.RootTexts.marked-making, Marked.MarkedInsertion.marked-insertion, Marked.MarkedRemoval.marked-removal, Marked.MarkedSplice.marked-splice, Marked.MarkedParting.marked-parting, Marked.MarkedMerge.marked-merge, Marked.MarkedDiscard.marked-discard}

pub marked-edit : (texts : List (List Token)) (w : World) → Marked texts w → IsReady w → (e : Edit) → Fits w e → Marked (on_texts e texts) (on_world e w)
marked-edit texts w m ready e (fits_removal n parent a) = marked-removal texts w m ready n parent a
marked-edit texts w m ready e (fits_insertion n p a b c d h i) = marked-insertion texts w m ready n p a b c d h i
marked-edit texts w m ready e (fits_splice n offset count units a b c) = marked-splice texts w m ready n offset count units a b c
marked-edit texts w m ready e (fits_parting p new parent a b c d) = marked-parting texts w m ready p new parent a b c d
marked-edit texts w m ready e (fits_merge n next parent a b c d h) = marked-merge texts w m ready n next parent a b c d h
marked-edit texts w m ready e (fits_end_set r side p range a b) = marked-end_set texts w m ready r side p range a b
marked-edit texts w m ready e (fits_making f a b) = marked-making texts w m ready f a b
marked-edit texts w m ready e (fits_range_making r range a b c) = marked-range_making texts w m ready r range a b c
marked-edit texts w m ready e (fits_release r) = marked-release texts w m r
marked-edit texts w m ready e (fits_discard n a) = marked-discard texts w m ready n a

pub marked-edits : (es : List Edit) (texts : List (List Token)) (w : World) → Marked texts w → AllFit w es → Marked (all_on_texts es texts) (all_on_world es w)
marked-edits [] texts w m f = m
marked-edits (e ∷ es) texts w m f = marked-edits es (on_texts e texts) (on_world e w) (marked-edit texts w m f.0 e f.1) f.2

module _ (texts : List (List Token)) (w : World) (m : Marked texts w) (ready : IsReady w) where
  -- an end of a live range, as its marker stands
  pub end-found : (r : ℕ) (side : Bool) → gap_among r side texts ≡ end_at w.ranges r side
  end-found r side = go (end_at w.ranges r side) refl
    where
      go : (e : Option Point) → end_at w.ranges r side ≡ e → gap_among r side texts ≡ e
      go None h = no_gap texts w m ready.once r side h
      go (Some p) h = marker-stands texts w m ready.once r side p h (point_of texts w m ready p (ready.points r side p h))

  ranges_from : (r : ℕ) (ranges : List (Option Range)) → ((k : ℕ) → slice_index_or w.ranges (r + k) None ≡ slice_index_or ranges k None) → marked_ranges r ranges texts ≡ ranges
  ranges_from r [] h = refl
  ranges_from r (range ∷ ranges) h =
      let e : r ≡ r + 0 = omega arith in
      let this : range_at w r ≡ range = ap (λ i. slice_index_or w.ranges i None) e ∙ h 0 in
      rw (end-found r true, end-found r false, this, ranges_from (suc r) ranges (λ k. let d : suc r + k ≡ r + suc k = omega arith in ap (λ i. slice_index_or w.ranges i None) d ∙ h (suc k))) (ap (λ (o : Option Range). o ∷ ranges) (both range))
    where
      both : (o : Option Range) → range_between (option_map (end_of true) o) (option_map (end_of false) o) ≡ o
      both o = grind arith

  -- the live ranges are as their markers stand
  pub ranges-found : marked_ranges 0 w.ranges texts ≡ w.ranges
  ranges-found = ranges_from 0 w.ranges (λ k. let e : 0 + k ≡ k = omega arith in ap (λ i. slice_index_or w.ranges i None) e)

-- From a world's own token texts, over each list of edits that fits: the live ranges of the world after the edits are as the markers stand in
-- the texts after the edits.
pub markers-follow : (w : World) (es : List Edit) → Childless w.forest → AllFit w es → IsReady (all_on_world es w) → marked_ranges 0 (all_on_world es w).ranges (all_on_texts es (texts_of w)) ≡ (all_on_world es w).ranges
markers-follow w es c f ready = ranges-found (all_on_texts es (texts_of w)) (all_on_world es w) (marked-edits es (texts_of w) w (marked-first w c) f) ready
