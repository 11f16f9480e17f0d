-- The commands that make, set and release live ranges leave a sound world. DOM Standard, "Interface Range".
use Rattle.std.proofs.Common.{◌≡◌, ℕ, true, false, [], ◌∷◌, length, Option, Some, None, IfSome, refl, arith}
use Rattle.std.proofs.lemmas.{List.Elements.All-set, List.Elements.All-push, Bool.false≢true}
use Rattle.dom_model.specs.Definitions.{is_kind, Forest, Content, Point, Range, World, unit_count, kind_passes, is_of_kind, start_set, end_set, contents_of, collapsed_at, check_point, check_contents, range_at, with_range, made_range, released, Bounds, Step, checked, no_node, wrong_kind, no_room, does, no_range, on_range, at_point, at_ends, makes_range, answer_create_range, answer_set_start, answer_set_end, answer_select_node_contents, IsBoundary, IsRange, IsSound, guarded}
use Rattle.dom_model.specs.declared.{Kind.Kind, Kind.TheVariants.Document, Kind.TheVariants.DocumentType, DomError.TheVariants.InvalidNodeTypeError}
use Rattle.dom_model.proofs.Forests.Entries.{HasNode-occurs}
use Rattle.dom_model.proofs.Soundness.{SoundWorlds.IsLive, SoundWorlds.element, SoundEditing.clear, SoundGuards.sound-guarded, SoundGuards.sound-checked, SoundGuards.there_unless, SoundGuards.passes_unless, SoundForests.passes-also}
use Rattle.dom_model.proofs.RangesAndContents.RangesSet.{range_at_point, range-start_set, range-end_set, boundary_checked, range_of_contents, range_collapsed, boundary_before, boundary_after, range_selected}

-- A live range of a sound world is one of its forest.
pub live_range : (w : World) → IsSound w → (r : ℕ) → IsLive w.forest (range_at w r)
live_range w s r = element (IsRange w.forest) w.ranges r s.ranges

pub sound-with_range : (r : ℕ) (range : Range) (w : World) → IsSound w → IsRange w.forest range → IsSound (with_range r range w)
sound-with_range r range w s h =
    record { forest = s.forest; ranges = All-set (IsLive w.forest) w.ranges r (Some range) h s.ranges; iterators = s.iterators; walkers = s.walkers; registrations = s.registrations; statics = s.statics }

pub sound-made_range : (range : Range) (w : World) → IsSound w → IsRange w.forest range → IsSound (made_range range w)
sound-made_range range w s h =
    record { forest = s.forest; ranges = All-push (IsLive w.forest) w.ranges (Some range) s.ranges h; iterators = s.iterators; walkers = s.walkers; registrations = s.registrations; statics = s.statics }

pub sound-released : (r : ℕ) (w : World) → IsSound w → IsSound (released r w)
sound-released r w s =
    record { forest = s.forest; ranges = All-set (IsLive w.forest) w.ranges r None tt s.ranges; iterators = s.iterators; walkers = s.walkers; registrations = s.registrations; statics = s.statics }

-- a step on a live range
pub sound-on_range : (o : Option Range) (w : World) (step : Range → Step) → IsSound w → IsLive w.forest o → ((r : Range) → IsRange w.forest r → IsSound (step r).world) → IsSound (on_range o w step).world
sound-on_range None w step s h k = s
sound-on_range (Some r) w step s h k = k r h

pub at_point_step : (o : Option Point) (w : World) (step : Point → Step) → IsSound w → IfSome o (IsBoundary w.forest) → ((p : Point) → IsBoundary w.forest p → IsSound (step p).world) → IsSound (at_point o w step).world
at_point_step None w step s h k = s
at_point_step (Some p) w step s h k = k p h

pub at_ends_step : (o : Option Range) (w : World) (step : Range → Step) → IsSound w → IsLive w.forest o → ((r : Range) → IsRange w.forest r → IsSound (step r).world) → IsSound (at_ends o w step).world
at_ends_step None w step s h k = s
at_ends_step (Some r) w step s h k = k r h

document_kind : (k : Kind) → is_kind Document k ≡ true → is_kind DocumentType k ≡ false
document_kind DocumentType h = absurd (false≢true h)
document_kind k h = refl

pub document_is_no_doctype : (f : Forest Content) (n : ℕ) → is_of_kind Document f n ≡ true → is_of_kind DocumentType f n ≡ false
document_is_no_doctype = passes-also (is_kind Document) (is_kind DocumentType) false document_kind

-- what a step on a live range leaves
pub ruleset range_steps = (sound-on_range, live_range, sound-made_range, sound-released, sound-with_range, range_collapsed)

pub ruleset end_steps = (at_point_step, at_ends_step, range-start_set, range-end_set, boundary_before, boundary_after, range_selected)

module _ (b : Bounds) (w : World) (s : IsSound w) where
  pub sound-create_range : (d : ℕ) → IsSound (answer_create_range b d w).world
  sound-create_range d =
      sound-guarded (no_node d w ∷ wrong_kind (is_kind Document) d w ∷ no_room b (length w.ranges) 1 ∷ []) w (makes_range (collapsed_at (record { node = d; offset = 0 })) w) s (λ h.
      let k = document_is_no_doctype w.forest d (passes_unless (kind_passes (is_kind Document) w.forest d) h.1.0) in
      sound-made_range (collapsed_at (record { node = d; offset = 0 })) w s
      (range_at_point w.forest (record { node = d; offset = 0 }) (record { there = HasNode-occurs w.forest d (there_unless w.forest d h.0); kind = k; within = omega arith })))

  -- an end of a range is set at a point that is checked
  module _ (set : Point → Range → Range) (keeps : (p : Point) (range : Range) → IsBoundary w.forest p → IsRange w.forest range → IsRange w.forest (set p range)) where
    sets_end_at : (r : ℕ) (p : Point) → IsSound (guarded (no_range r w ∷ no_node p.node w ∷ []) w (checked (check_point unit_count w.forest p) w (on_range (range_at w r) w (λ range. does (with_range r (set p range) w))))).world
    sets_end_at r p =
        let step = on_range (range_at w r) w (λ range. does (with_range r (set p range) w)) in
        sound-guarded (no_range r w ∷ no_node p.node w ∷ []) w (checked (check_point unit_count w.forest p) w step) s (λ h.
        sound-checked (check_point unit_count w.forest p) w step s (λ c.
        sound-on_range (range_at w r) w (λ range. does (with_range r (set p range) w)) s (live_range w s r) (λ range i.
        sound-with_range r (set p range) w s (keeps p range (boundary_checked w.forest p (there_unless w.forest p.node h.1.0) c) i))))

  pub sound-set_start : (r n offset : ℕ) → IsSound (answer_set_start b r n offset w).world
  sound-set_start r n offset = sets_end_at (start_set w.forest) (range-start_set w.forest) r (record { node = n; offset = offset })

  pub sound-set_end : (r n offset : ℕ) → IsSound (answer_set_end b r n offset w).world
  sound-set_end r n offset = sets_end_at (end_set w.forest) (range-end_set w.forest) r (record { node = n; offset = offset })

  pub sound-select_node_contents : (r n : ℕ) → IsSound (answer_select_node_contents b r n w).world
  sound-select_node_contents r n =
      sound-guarded (no_range r w ∷ no_node n w ∷ []) w (checked (check_contents w.forest n) w (does (with_range r (contents_of unit_count w.forest n) w))) s (λ h.
      sound-checked (check_contents w.forest n) w (does (with_range r (contents_of unit_count w.forest n) w)) s (λ c.
      let k = clear ((is_of_kind DocumentType w.forest n, InvalidNodeTypeError) ∷ []) c in
      sound-with_range r (contents_of unit_count w.forest n) w s (range_of_contents w.forest n (there_unless w.forest n h.1.0) k.0)))
