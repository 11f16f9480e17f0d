-- Each call that sets a live range anew leaves its ends where the edits of the token text put their markers.
use Rattle.std.proofs.Common.{◌≡◌, ℕ, Bool, ◌+◌, ◌*◌, nat_lt, not, ◌&&◌, if◌then◌else◌, List, [], ◌∷◌, map, drop, reverse, Option, Some, None, IsSome, IfSome, option_map, refl, ap, sym, ◌∙◌, subst, ◌++◌, slice_index_or, slice_set, Result, Ok, Err, OnOk}
use Rattle.std.specs.{Ordering.nat_cmp, Cmp.Lexicographic.slice_cmp}
use Rattle.std.proofs.Math.Path.{fun_ext}
use Rattle.std.proofs.lemmas.Bool.{false≢true}
use Rattle.dom_model.specs.declared.{Kind.TheVariants.DocumentType, DomError.DomError, DomError.TheVariants.InvalidNodeTypeError, DomError.TheVariants.IndexSizeError}
use Rattle.dom_model.specs.Definitions.{is_same, last_of, first_refusal, Forest, HasNode, parent_of, index_of, ancestors, root_of, is_of_kind, same_root, Point, Range, World, unit_count, node_length, place_of, is_less, is_before, start_set, end_set, around, contents_of, check_point, check_parent, check_contents, range_at, with_range, collapsed, collapsed_at, for_range, IsBoundary, IsRange, IsSound, Token, Edit, texts_of, all_on_texts, ends_edits, ends_edits_at, all_on_world, start_edits, end_edits, select_edits}
use Rattle.dom_model.proofs.Forests.Entries.{occurs-HasNode}
use Rattle.dom_model.proofs.Soundness.{SoundEditing.clear, SoundRangeSteps.live_range, SoundRangeSteps.sound-with_range, SoundWorlds.IsLive}
use Rattle.dom_model.proofs.RangesAndContents.RangesSet.{range_collapsed, range_at_point, range-start_set, range-end_set, boundary_checked, range_selected, range_of_contents}
use Rattle.dom_model.proofs.TokenText.{AlikeTrees.TreesAlike.bared, Marked.MarkedTexts.Marked, Marked.MarkedFirst.marked-kept, Marked.MarkedEdits.marked-edits, Marked.MarkedEdits.end-found, Pieces.NodeTokens.tokens-same, EditsMade.FittingEdits.ready-sound, EditsMade.EditsLeave.laid, EditsMade.EditsLeave.Leave, EditsMade.EditsOfSteps.leave-ends, EditsMade.MarkersKept.marked-own}
use Rattle.dom_point.specs.Refusals.{result_of_check}
use Rattle.dom_ranges.specs.{Tables.RangeTable, Tables.range_in, Markers.StandAsEdited, Markers.RangesMatchEdits, Markers.IsNestedAs, Markers.IsMeasuredAs, Markers.HasPoint, Markers.IsAny}

-- a range of the forest in place of another
ends-stand : (w : World) → IsSound w → (r : ℕ) (old next : Range) → range_at w r ≡ Some old → IsRange w.forest next → StandAsEdited w (ends_edits r old next) (slice_set w.ranges r (Some next))
ends-stand w s r old next e h = record {
  gaps = end-found texts v marked (ready-sound v sound);
  tokens = tokens-same texts (texts_of v) v marked (marked-own v sound) sound.forest.once;
}
  where
    es : List Edit
    es = ends_edits r old next

    v : World
    v = with_range r next w

    left : Leave es w v
    left = leave-ends r old next w s h e

    sound : IsSound v
    sound = sound-with_range r next w s h

    texts : List (List Token)
    texts = all_on_texts es (texts_of w)

    marked : Marked texts v
    marked =
        marked-kept texts (all_on_world es (laid w)) v
        (sym (ap (λ (x : World). bared x.forest) left.left)) (sym (ap (λ (x : World). x.ranges) left.left))
        (marked-edits es (texts_of w) (laid w) (marked-kept (texts_of w) w (laid w) refl refl (marked-own w s)) left.fits)

-- what a table becomes whose live range is set
abbrev IsSet : RangeTable → RangeTable → ℕ → (Range → Range) → Type 0
IsSet old new r next = IfSome (range_in old r) (λ range. new ≡ record old { ranges = slice_set old.ranges r (Some (next range)) })

stands : (w : World) → IsSound w → (old new : RangeTable) → w.ranges ≡ old.ranges → (r : ℕ) (next : Range → Range) → IsSome (range_in old r) → ((range : Range) → IsRange w.forest range → IsRange w.forest (next range)) →
    IsSet old new r next → StandAsEdited w (for_range (range_at w r) [] (λ range. ends_edits r range (next range))) new.ranges
stands w s old new same r next held keeps set = go (range_in old r) refl
  where
    go : (o : Option Range) → range_in old r ≡ o → StandAsEdited w (for_range (range_at w r) [] (λ range. ends_edits r range (next range))) new.ranges
    go None e = absurd (false≢true (subst (λ (o : Option Range). IsSome o) e held))
    go (Some range) e =
        let at : range_at w r ≡ Some range = ap (λ rs. slice_index_or rs r None) same ∙ e in
        let is : new ≡ record old { ranges = slice_set old.ranges r (Some (next range)) } =
        subst (λ o. IfSome o (λ x. new ≡ record old { ranges = slice_set old.ranges r (Some (next x)) })) e set in
        let told : slice_set w.ranges r (Some (next range)) ≡ new.ranges = ap (λ rs. slice_set rs r (Some (next range))) same ∙ sym (ap (λ (t : RangeTable). t.ranges) is) in
        subst (λ o. StandAsEdited w (for_range o [] (λ x. ends_edits r x (next x))) new.ranges) (sym at)
        (subst (StandAsEdited w (ends_edits r range (next range))) told
        (ends-stand w s r range (next range) at (keeps range (subst (IsLive w.forest) at (live_range w s r)))))

-- the same, where what the range becomes is told by a tree
by_tree : (old new : RangeTable) (r : ℕ) (told next : Range → Range) → ((range : Range) → next range ≡ told range) → IsSet old new r told → IsSet old new r next
by_tree old new r told next alike set = subst (IsSet old new r) (sym (fun_ext alike)) set

-- nothing was refused
unrefused : (o : Option DomError) → Ok tt ≡ result_of_check o → o ≡ None
unrefused None e = refl
unrefused (Some x) e = absurd (cc e)

-- What a tree and a world tell alike.
module _ {X : Type 0} (f : Forest X) (w : World) (a : IsNestedAs f w) where
  roots : (n m : ℕ) → same_root w.forest n m ≡ same_root f n m
  roots n m = ap (λ ns. is_same (last_of ns) (root_of w.forest m)) (a.paths n) ∙ ap (λ ns. is_same (root_of f n) (last_of ns)) (a.paths m)

  places : (p : Point) → place_of w.forest p ≡ place_of f p
  places p =
      ap (λ (index : ℕ → ℕ). map (λ m. 2 * index m + 1) (drop 1 (reverse (ancestors p.node w.forest))) ++ (2 * p.offset) ∷ []) (fun_ext a.indices)
      ∙ ap (λ ns. map (λ m. 2 * index_of f m + 1) (drop 1 (reverse ns)) ++ (2 * p.offset) ∷ []) (a.paths p.node)

  before : (p q : Point) → is_before w.forest p q ≡ is_before f p q
  before p q = ap (λ ns. is_less (slice_cmp nat_cmp ns (place_of w.forest q))) (places p) ∙ ap (λ ns. is_less (slice_cmp nat_cmp (place_of f p) ns)) (places q)

  pub starts-alike : (p : Point) (range : Range) → start_set w.forest p range ≡ start_set f p range
  starts-alike p range =
      ap (λ b. record { start = p; end = if b && not (is_before w.forest range.end p) then range.end else p }) (roots p.node range.start.node)
      ∙ ap (λ b. record { start = p; end = if same_root f p.node range.start.node && not b then range.end else p }) (before range.end p)

  pub ends-alike : (p : Point) (range : Range) → end_set w.forest p range ≡ end_set f p range
  ends-alike p range =
      ap (λ b. record { start = if b && not (is_before w.forest p range.start) then range.start else p; end = p }) (roots p.node range.start.node)
      ∙ ap (λ b. record { start = if same_root f p.node range.start.node && not b then range.start else p; end = p }) (before p range.start)

  pub around-alike : (n : ℕ) → around w.forest n ≡ around f n
  around-alike n =
      ap (λ i. option_map (λ parent. record { start = record { node = parent; offset = i }; end = record { node = parent; offset = i + 1 } }) (parent_of w.forest n)) (a.indices n)
      ∙ ap (λ o. option_map (λ parent. record { start = record { node = parent; offset = index_of f n }; end = record { node = parent; offset = index_of f n + 1 } }) o) (a.parents n)

module _ {X : Type 0} (measure : X → ℕ) (f : Forest X) (w : World) (a : IsMeasuredAs measure f w) where
  point-alike : (p : Point) → check_point unit_count w.forest p ≡ check_point measure f p
  point-alike p =
      ap (λ b. first_refusal ((b, InvalidNodeTypeError) ∷ (nat_lt (node_length unit_count w.forest p.node) p.offset, IndexSizeError) ∷ [])) (a.doctypes p.node)
      ∙ ap (λ k. first_refusal ((is_of_kind DocumentType f p.node, InvalidNodeTypeError) ∷ (nat_lt k p.offset, IndexSizeError) ∷ [])) (a.lengths p.node)

  pub boundary : (p : Point) → HasNode f p.node → Ok tt ≡ result_of_check (check_point measure f p) → IsBoundary w.forest p
  boundary p there e = boundary_checked w.forest p (occurs-HasNode w.forest p.node (a.there p.node there)) (point-alike p ∙ unrefused (check_point measure f p) e)

-- The calls.

module _ {X : Type 0} (measure : X → ℕ) (f : Forest X) (old new : RangeTable) (r : ℕ) (held : IsSome (range_in old r)) where
  pub start-stands : (p : Point) (result : Result (Unit {0}) DomError) → HasNode f p.node → result ≡ result_of_check (check_point measure f p) → OnOk result (IsSet old new r (start_set f p)) →
      OnOk result (RangesMatchEdits (IsMeasuredAs measure f) old new (start_edits r p))
  start-stands p (Err e) there told set = tt
  start-stands p (Ok u) there told set = λ w s same a.
      stands w s old new same r (start_set w.forest p) held (λ range h. range-start_set w.forest p range (boundary measure f w a p there told) h)
      (by_tree old new r (start_set f p) (start_set w.forest p) (starts-alike f w a.nested p) set)

  pub end-stands : (p : Point) (result : Result (Unit {0}) DomError) → HasNode f p.node → result ≡ result_of_check (check_point measure f p) → OnOk result (IsSet old new r (end_set f p)) →
      OnOk result (RangesMatchEdits (IsMeasuredAs measure f) old new (end_edits r p))
  end-stands p (Err e) there told set = tt
  end-stands p (Ok u) there told set = λ w s same a.
      stands w s old new same r (end_set w.forest p) held (λ range h. range-end_set w.forest p range (boundary measure f w a p there told) h)
      (by_tree old new r (end_set f p) (end_set w.forest p) (ends-alike f w a.nested p) set)

  pub contents-stand : (n : ℕ) (result : Result (Unit {0}) DomError) → HasNode f n → result ≡ result_of_check (check_contents f n) →
      OnOk result (new ≡ record old { ranges = slice_set old.ranges r (Some (contents_of measure f n)) }) →
      OnOk result (RangesMatchEdits (IsMeasuredAs measure f) old new (λ w. ends_edits_at r (contents_of unit_count w.forest n) w))
  contents-stand n (Err e) there told set = tt
  contents-stand n (Ok u) there told set = λ w s same a.
      let k = clear ((is_of_kind DocumentType f n, InvalidNodeTypeError) ∷ []) (unrefused (check_contents f n) told) in
      let alike : contents_of unit_count w.forest n ≡ contents_of measure f n =
      ap (λ l. record { start = record { node = n; offset = 0 }; end = record { node = n; offset = l } }) (a.lengths n) in
      stands w s old new same r (λ range. contents_of unit_count w.forest n) held
      (λ range h. range_of_contents w.forest n (occurs-HasNode w.forest n (a.there n there)) (a.doctypes n ∙ k.0))
      (all_ranges (range_in old r) (contents_of unit_count w.forest n) (subst (λ x. new ≡ record old { ranges = slice_set old.ranges r (Some x) }) (sym alike) set))
    where
      all_ranges : (o : Option Range) (x : Range) → new ≡ record old { ranges = slice_set old.ranges r (Some x) } → IfSome o (λ range. new ≡ record old { ranges = slice_set old.ranges r (Some x) })
      all_ranges None x h = tt
      all_ranges (Some range) x h = h

module _ {X : Type 0} (f : Forest X) (old new : RangeTable) (r : ℕ) (held : IsSome (range_in old r)) where
  set_around : (o : Option Range) (ends : Range) → o ≡ Some ends → IfSome o (λ range. new ≡ record old { ranges = slice_set old.ranges r (Some range) }) → new ≡ record old { ranges = slice_set old.ranges r (Some ends) }
  set_around o ends e h = subst (λ x. IfSome x (λ range. new ≡ record old { ranges = slice_set old.ranges r (Some range) })) e h

  pub around-stands : (n : ℕ) → check_parent f n ≡ None → IfSome (around f n) (λ range. new ≡ record old { ranges = slice_set old.ranges r (Some range) }) →
      RangesMatchEdits (IsNestedAs f) old new (λ w. select_edits r (around w.forest n) w)
  around-stands n allowed set w s same a = go (around f n) refl (range_selected s.forest n)
    where
      absent : around f n ≡ None → ⊥
      absent e = by (parent_of f n) refl
        where
          by : (o : Option ℕ) → parent_of f n ≡ o → ⊥
          by None d = let k = rw d at allowed in cc k
          by (Some p) d = let k = rw d at e in cc k

      go : (o : Option Range) → around f n ≡ o → IfSome (around w.forest n) (IsRange w.forest) → StandAsEdited w (select_edits r (around w.forest n) w) new.ranges
      go None e h = absurd (absent e)
      go (Some ends) e h =
          let there : around w.forest n ≡ Some ends = around-alike f w a n ∙ e in
          let is : IsRange w.forest ends = subst (λ o. IfSome o (IsRange w.forest)) there h in
          subst (λ o. StandAsEdited w (select_edits r o w) new.ranges) (sym there)
          (stands w s old new same r (λ range. ends) held (λ range k. is) (all_ranges (range_in old r) (set_around (around f n) ends e set)))
        where
          all_ranges : (o : Option Range) → new ≡ record old { ranges = slice_set old.ranges r (Some ends) } → IfSome o (λ range. new ≡ record old { ranges = slice_set old.ranges r (Some ends) })
          all_ranges None k = tt
          all_ranges (Some range) k = k

  pub select-stands : (n : ℕ) (result : Result (Unit {0}) DomError) → result ≡ result_of_check (check_parent f n) →
      OnOk result (IfSome (around f n) (λ range. new ≡ record old { ranges = slice_set old.ranges r (Some range) })) →
      OnOk result (RangesMatchEdits (IsNestedAs f) old new (λ w. select_edits r (around w.forest n) w))
  select-stands n (Err e) told set = tt
  select-stands n (Ok u) told set = around-stands n (unrefused (check_parent f n) told) set

module _ (old new : RangeTable) (r : ℕ) (held : IsSome (range_in old r)) where
  pub collapsed-stands : (to_start : Bool) → IsSet old new r (collapsed to_start) →
      RangesMatchEdits IsAny old new (λ w. for_range (range_at w r) [] (λ range. ends_edits r range (collapsed to_start range)))
  collapsed-stands to_start set w s same a = stands w s old new same r (collapsed to_start) held (λ range h. range_collapsed w.forest to_start range h) set

  pub point-stands : (p : Point) → new ≡ record old { ranges = slice_set old.ranges r (Some (collapsed_at p)) } → RangesMatchEdits (HasPoint p) old new (ends_edits_at r (collapsed_at p))
  point-stands p set w s same a = stands w s old new same r (λ range. collapsed_at p) held (λ range h. range_at_point w.forest p a) (go (range_in old r))
    where
      go : (o : Option Range) → IfSome o (λ range. new ≡ record old { ranges = slice_set old.ranges r (Some (collapsed_at p)) })
      go None = tt
      go (Some range) = set
