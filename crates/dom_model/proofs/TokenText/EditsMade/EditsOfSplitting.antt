-- The edits of a split leave what the split leaves: with a parent one parting, without one a new Text and a splice.
-- DOM Standard, "Interface Text": split.
use Rattle.std.proofs.Common.{◌≡◌, ℕ, ◌+◌, ◌-◌, ◌<◌, ◌≤◌, true, List, [], ◌∷◌, ◌++◌, length, Option, Some, None, refl, ap, sym, ◌∙◌, subst, arith, length-drop}
use Rattle.std.proofs.lemmas.Bool.Decides.{nat_tests}
use Rattle.dom_model.specs.Definitions.{is_character_data, Forest, empty, node, occurs, parent_of, children_of, next_of, index_of, Content, World, map_ranges, after_split, is_of_kind, node_document, made_node, named, with_text, content_in, data_of, cut_count, replace_units, replace_data, tail_of, split_off, split, point, Splice, Parting, index_before, insertion_at, parting_from, making, replace_data_edits, split_edits_by, split_edits, IsSound, IsChildOf, fits_parting}
use Rattle.dom_model.specs.declared.Kind.TheVariants.{Text}
use Rattle.dom_model.proofs.Forests.{Siblings.place-next, Indices.index-child, OneMoreRoot.index-more}
use Rattle.dom_model.proofs.PlainLists.Places.{place_before}
use Rattle.dom_model.proofs.Worlds.Measured.{entry-beside, kind-beside}
use Rattle.dom_model.proofs.Soundness.{SoundSplitting.text_has_data, SoundSplitting.new_text, SoundSplitting.made, SoundSplitting.sm, SoundSplitting.there-old, SoundSplitting.hp, SoundSplitting.par-made, SoundSplitting.placeable, SoundSplitting.before_child, SoundSplitting.placed, SoundSplitting.after_parting, SoundSplitting.forest_is, SoundSplitting.index-kept, SoundSplitting.split_off_is, SoundSplitting.length_after, SoundMaking.sound-made_node}
use Rattle.dom_model.proofs.TokenText.{EditsMade.FittingEdits.ready-sound, EditsMade.EditsLeave.laid, EditsMade.EditsLeave.Leave, EditsMade.EditsLeave.leave-edit, EditsMade.EditsLeave.leave-then, EditsMade.EditsOfSteps.leave-making, EditsMade.EditsOfSteps.leave-replace_data, EditsMade.EditsOfInsertions.come_in-edit}

-- all units from an offset on are the tail
pub cut-tail : (w : World) (n offset whole : ℕ) → whole ≡ length (data_of w n) → cut_count whole offset (length (tail_of w n offset)) ≡ length (tail_of w n offset)
cut-tail w n offset whole e = let d = length-drop offset (data_of w n) in counted whole offset (length (tail_of w n offset)) (omega arith)
  where
    counted : (whole offset count : ℕ) → count ≡ whole - offset → cut_count whole offset count ≡ count
    counted whole offset count e = grind (arith, nat_tests)

index_before-next : (w : World) (parent : ℕ) (child : Option ℕ) → IsChildOf w.forest parent child → index_before w parent child ≡ place_before child (children_of w.forest parent)
index_before-next w parent None c = refl
index_before-next w parent (Some d) c = index-child w.forest d parent c

module _ (n parent offset : ℕ) (w : World) (s : IsSound w) (hn : 0 < occurs n w.forest) (text : is_of_kind Text w.forest n ≡ true) (par : parent_of w.forest n ≡ Some parent) (within : offset ≤ length (data_of w n)) where
  abbrev grown : World
  grown = made n parent offset w s hn text par within

  sound_grown : IsSound grown
  sound_grown = sm n parent offset w s hn text par within

  index-grown : index_of grown.forest n ≡ index_of w.forest n
  index-grown = index-more w.forest s.forest.once (new_text n offset w) (s.forest.small w.made (omega arith)) n hn

  place-behind : index_before grown parent (next_of grown.forest n) ≡ index_of w.forest n + 1
  place-behind =
      index_before-next grown parent (next_of grown.forest n) (before_child n parent offset w s hn text par within)
      ∙ place-next grown.forest sound_grown.forest.once n parent (there-old n parent offset w s hn text par within n hn) (par-made n parent offset w s hn text par within)
      ∙ ap (λ k. k + 1) index-grown

  abbrev new_placed : World
  new_placed = placed n parent offset w s hn text par within

  comes-in : insertion_at w.made (point parent (index_of w.forest n + 1)) grown ≡ new_placed
  comes-in =
      ap (λ k. insertion_at w.made (point parent k) grown) (sym place-behind)
      ∙ come_in-edit parent w.made (next_of grown.forest n) grown sound_grown (there-old n parent offset w s hn text par within parent (hp n parent offset w s hn text par within)) (placeable n parent offset w s hn text par within) (before_child n parent offset w s hn text par within)

  index-placed : index_of new_placed.forest n ≡ index_of w.forest n
  index-placed = ap (λ (g : Forest Content). index_of g n) (forest_is n parent offset w s hn text par within) ∙ index-kept n parent offset w s hn text par within ∙ index-grown

  abbrev after_edit : World → ℕ → ℕ → World
  after_edit v index count = replace_units n offset count [] (record v { ranges = map_ranges (after_split n offset w.made parent index) v.ranges })

  abbrev count : ℕ
  count = length (tail_of w n offset)

  abbrev parted_world : World
  parted_world = after_parting n parent offset w s hn text par within

  count-kept : cut_count (length (data_of parted_world n)) offset count ≡ count
  count-kept = cut-tail w n offset (length (data_of parted_world n)) (length_after n parent offset w s hn text par within)

  same-left : laid (parting_from (point n offset) w.made (Some parent) w) ≡ laid (replace_data n offset count [] (split_off n offset w.made (Some parent) grown))
  same-left =
      ap (λ v. laid (after_edit v (index_of w.forest n) count)) comes-in
      ∙ ap (λ k. laid (after_edit new_placed k count)) (sym index-placed)
      ∙ ap (λ k. laid (after_edit new_placed (index_of new_placed.forest n) k)) (sym count-kept)
      ∙ ap (λ v. laid (replace_data n offset count [] v)) (sym (split_off_is n parent offset w s hn text par within))

  leave-parted : Leave (Parting (point n offset) w.made ∷ []) w (replace_data n offset count [] (split_off n offset w.made (Some parent) grown))
  leave-parted = leave-edit (Parting (point n offset) w.made) w _ (ready-sound w s) (fits_parting (point n offset) w.made parent par (text_has_data w n text) within (s.forest.small w.made (omega arith))) (ap (λ p. laid (parting_from (point n offset) w.made p w)) par ∙ same-left)

pub leave-split : (n offset : ℕ) (w : World) → IsSound w → 0 < occurs n w.forest → is_of_kind Text w.forest n ≡ true → offset ≤ length (data_of w n) → Leave (split_edits n offset w) w (split n offset w)
leave-split n offset w s hn text within = go (parent_of w.forest n) refl
  where
    fresh : World
    fresh = made_node (node_document w n) (named Text []) (with_text (tail_of w n offset)) w

    alone : Leave (making (node_document w n) (named Text []) (with_text (tail_of w n offset)) w ++ replace_data_edits n offset (length (tail_of w n offset)) [] w) w (replace_data n offset (length (tail_of w n offset)) [] fresh)
    alone =
        let same_data : data_of fresh n ≡ data_of w n = ap (λ o. (content_in o).text) (entry-beside w.forest (node (new_text n offset w) empty empty) n hn) in
        let es : replace_data_edits n offset (length (tail_of w n offset)) [] w ≡ replace_data_edits n offset (length (tail_of w n offset)) [] fresh =
        ap (λ xs. Splice n offset (cut_count (length xs) offset (length (tail_of w n offset))) [] ∷ []) (sym same_data) in
        leave-then (making (node_document w n) (named Text []) (with_text (tail_of w n offset)) w) (replace_data_edits n offset (length (tail_of w n offset)) [] w) w fresh (replace_data n offset (length (tail_of w n offset)) [] fresh)
        (leave-making (node_document w n) (named Text []) (with_text (tail_of w n offset)) w s)
        (subst (λ fs. Leave fs fresh (replace_data n offset (length (tail_of w n offset)) [] fresh)) (sym es) (leave-replace_data n offset (length (tail_of w n offset)) [] fresh (sound-made_node (node_document w n) (named Text []) (with_text (tail_of w n offset)) w s)
        (kind-beside w.forest (node (new_text n offset w) empty empty) n hn is_character_data ∙ text_has_data w n text)
        (subst (λ (xs : List ℕ). offset ≤ length xs) (sym same_data) within)))

    go : (p : Option ℕ) → parent_of w.forest n ≡ p → Leave (split_edits_by p n offset w) w (replace_data n offset (length (tail_of w n offset)) [] (split_off n offset w.made p fresh))
    go None e = alone
    go (Some parent) e = leave-parted n parent offset w s hn text e within
