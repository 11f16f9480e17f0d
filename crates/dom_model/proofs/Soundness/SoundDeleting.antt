-- Deleting the contents of a live range leaves a sound world. DOM Standard, "Interface Range": delete contents.
use Rattle.std.proofs.Common.{◌≡◌, ℕ, ◌-◌, ◌<◌, ◌≤◌, Bool, true, false, not, ◌&&◌, if◌then◌else◌, List, [], ◌∷◌, length, Option, Some, None, refl, ◌∙◌, arith}
use Rattle.std.proofs.lemmas.{Bool.Decides.nat_tests, Bool.and_left, Bool.and_right}
use Rattle.dom_model.specs.Definitions.{hits, is_character_data, may_be_parent, occurs, numbers, parent_of, index_of, Range, World, if_given, kind_passes, same_root, removed_from, remove, is_before, is_collapsed, collapsed_at, range_at, data_of, replace_data, remove_each, for_range, is_in_one_data, cut_from, cut_up_to, contained_in, contained_tops, new_place, deleted_between, deleted, delete_contents, IsRange, IsSound}
use Rattle.dom_model.proofs.Forests.{Totals.IsOnce-cut, Entries.parent-cut}
use Rattle.dom_model.proofs.Soundness.{SoundWorlds.IsLive, SoundWorlds.child_there, SoundWorlds.sound-remove, SoundData.length-data, SoundData.sound-replace_data, SoundEditing.holder_there, SoundNormalizing.each_kinds, SoundNormalizing.filter-passed, SoundCopies.filled-replace, SoundDrawing.IsFilled, SoundRangeSteps.live_range, SoundRangeSteps.sound-with_range, SoundDrawing.filled_same}
use Rattle.dom_model.proofs.RangesAndContents.{RangesSet.range_at_point, PlacesLeft.IsNewPlace, PlacesLeft.place_is, PlacesLeft.place_stays}

-- a child that comes before the start is not contained
pub not_contained : (w : World) (r : Range) (c : ℕ) → is_before w.forest r.start (record { node = c; offset = 0 }) ≡ false → contained_in w r c ≡ false
not_contained w r c e = and_right (same_root w.forest c r.start.node) _ (and_left _ _ e)

pub removed_parents : (ns : List ℕ) (w : World) → ((m : ℕ) → occurs m w.forest ≤ 1) → (m : ℕ) → hits m ns ≡ 0 → parent_of (remove_each ns w).forest m ≡ parent_of w.forest m
removed_parents [] w o m z = refl
removed_parents (n ∷ ns) w o m z =
    let i = one (parent_of w.forest n) in
    removed_parents ns (remove false n w) i.1 m (omega arith) ∙ i.0
  where
    one : (p : Option ℕ) → (parent_of (removed_from false n p w).forest m ≡ parent_of w.forest m) × ((x : ℕ) → occurs x (removed_from false n p w).forest ≤ 1)
    one None = (refl, o)
    one (Some p) = (grind (arith, nat_tests, parent-cut w.forest o n m), IsOnce-cut n w.forest o)

pub sound-remove_each : (ns : List ℕ) (w : World) → IsSound w → IsSound (remove_each ns w)
sound-remove_each [] w s = s
sound-remove_each (n ∷ ns) w s = sound-remove_each ns (remove false n w) (sound-remove false n w s)

filled_cut : (n offset count : ℕ) (w : World) → IsSound w → (kind_passes is_character_data w.forest n ≡ true → offset ≤ length (data_of w n)) → IsFilled w (if kind_passes is_character_data w.forest n then replace_data n offset count [] w else w) []
filled_cut n offset count w s h = go (kind_passes is_character_data w.forest n) refl
  where
    go : (v : Bool) → kind_passes is_character_data w.forest n ≡ v → IsFilled w (if v then replace_data n offset count [] w else w) []
    go true e = filled-replace n offset count [] w s e (h e)
    go false e = filled_same w s []

pub offset_of_start : (w : World) (r : Range) → IsRange w.forest r → kind_passes is_character_data w.forest r.start.node ≡ true → r.start.offset ≤ length (data_of w r.start.node)
offset_of_start w r h k = let i = h.starts.within in let j = length-data w.forest r.start.node k in omega arith

module _ (r : ℕ) (range : Range) (w : World) (s : IsSound w) (h : IsRange w.forest range) (two : is_in_one_data w range ≡ false) where
  place : IsNewPlace w.forest range (new_place w.forest range)
  place = place_is s.forest range h two

  abbrev first : World
  first = cut_from range.start.node range.start.offset w

  pub one : IsFilled w first []
  one = filled_cut range.start.node range.start.offset (length (data_of w range.start.node) - range.start.offset) w s (offset_of_start w range h)

  abbrev tops : List ℕ
  tops = contained_tops w range

  abbrev second : World
  second = remove_each tops first

  pub sound-second : IsSound second
  sound-second = sound-remove_each tops first one.sound

  abbrev third : World
  third = cut_up_to range.end.node range.end.offset second

  pub three : IsFilled second third []
  three = filled_cut range.end.node 0 range.end.offset second sound-second (λ _. omega arith)

  -- a child ahead of the place is not removed
  not_removed : (c : ℕ) → parent_of w.forest c ≡ Some (new_place w.forest range).node → index_of w.forest c < (new_place w.forest range).offset → hits c tops ≡ 0
  not_removed c e lt =
      let out = not_contained w range c (place.ahead c e lt) in
      grind (arith, filter-passed (λ n. contained_in w range n && not (if_given (contained_in w range) (parent_of w.forest n))) (numbers w.forest) c)

  kind_left : kind_passes may_be_parent third.forest (new_place w.forest range).node ≡ true
  kind_left =
      let p = (new_place w.forest range).node in
      let hp = holder_there w.forest p place.may_hold in
      let a = one.kinds may_be_parent p hp in
      let b = each_kinds tops first one.sound.forest.once may_be_parent p in
      let t = holder_there second.forest p (b ∙ a ∙ place.may_hold) in
      three.kinds may_be_parent p t ∙ b ∙ a ∙ place.may_hold

  parent_left : (c : ℕ) → parent_of w.forest c ≡ Some (new_place w.forest range).node → index_of w.forest c < (new_place w.forest range).offset → parent_of third.forest c ≡ Some (new_place w.forest range).node
  parent_left c e lt =
      let hc = child_there w.forest c (new_place w.forest range).node e in
      let a = one.parents c hc (λ u k. refl) in
      let b = removed_parents tops first one.sound.forest.once c (not_removed c e lt) in
      let t = child_there second.forest c (new_place w.forest range).node (b ∙ a ∙ e) in
      three.parents c t (λ u k. refl) ∙ b ∙ a ∙ e

  pub place_left : IsRange third.forest (collapsed_at (new_place w.forest range))
  place_left =
      range_at_point third.forest (new_place w.forest range)
      (place_stays w.forest third.forest w.made third.made s.forest three.sound.forest (new_place w.forest range) kind_left place.within parent_left)

  pub sound-deleted_between : IsSound (deleted_between r range w)
  sound-deleted_between = sound-with_range r (collapsed_at (new_place w.forest range)) third three.sound place_left

-- a range within the data of one node
pub in_data : (range : Range) (w : World) → is_in_one_data w range ≡ true → kind_passes is_character_data w.forest range.start.node ≡ true
in_data range w e = grind (arith, nat_tests)

pub sound-deleted : (r : ℕ) (range : Range) (w : World) → IsSound w → IsRange w.forest range → IsSound (deleted r range w)
sound-deleted r range w s h = go (is_collapsed range) (is_in_one_data w range) refl
  where
    go : (c v : Bool) → is_in_one_data w range ≡ v → IsSound (if c then w else if v then replace_data range.start.node range.start.offset (range.end.offset - range.start.offset) [] w else deleted_between r range w)
    go true v e = s
    go false true e = sound-replace_data range.start.node range.start.offset (range.end.offset - range.start.offset) [] w s (in_data range w e) (offset_of_start w range h (in_data range w e))
    go false false e = sound-deleted_between r range w s h e

pub sound-for_range : (o : Option Range) (w : World) (act : Range → World) → IsSound w → IsLive w.forest o → ((range : Range) → IsRange w.forest range → IsSound (act range)) → IsSound (for_range o w act)
sound-for_range None w act s h k = s
sound-for_range (Some range) w act s h k = k range h

pub sound-delete_contents : (r : ℕ) (w : World) → IsSound w → IsSound (delete_contents r w)
sound-delete_contents r w s = sound-for_range (range_at w r) w (λ range. deleted r range w) s (live_range w s r) (λ range h. sound-deleted r range w s h)
