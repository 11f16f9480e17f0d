-- The edits of surrounding the contents of a live range leave what that leaves, where extracting and inserting a node leave sound worlds.
-- DOM Standard, "Interface Range": surroundContents.
use Rattle.std.proofs.Common.{◌≡◌, ℕ, ◌<◌, true, ◌||◌, List, [], ◌∷◌, Option, Some, None, is_some, Ok, Err, refl, ap, sym, ◌∙◌, subst}
use Rattle.std.proofs.lemmas.Bool.{cond_both}
use Rattle.dom_model.specs.Definitions.{Forest, occurs, children_of, Content, Range, World, check_insert, pre_insert, append, remove_all, replaced_record, replace_all, is_collapsed, collapsed_at, around, range_at, with_range, for_range, is_in_one_data, new_place, contents_drawn, check_extract, extracted, extract, Outcome, and_then, try_pre_insert, insert_node, check_surround, try_extract, selected, try_select, surrounded, surround, begun, append_edits, replace_all_edits, extract_edits, doing, doing_append, doing_insert_node, doing_ends, doing_selected, doing_select, doing_surround, surround_edits, IsSound}
use Rattle.dom_model.proofs.Forests.Indices.{child-there}
use Rattle.dom_model.proofs.MutationAlgorithms.Loosened.{loosened-remove_all}
use Rattle.dom_model.proofs.Soundness.{SoundEditing.sound-pre_insert, SoundEditing.sound-replace_all, SoundWorlds.IsLive}
use Rattle.dom_model.proofs.RangesAndContents.{RangesSet.range_selected, LiveRangesKept.is_live, LiveRangesKept.live-there, LiveRangesKept.append-live, LiveRangesKept.replace_all-live, LiveRangesKept.with_range-live}
use Rattle.dom_model.proofs.TokenText.{EditsMade.EditsLeave.Leave, EditsMade.EditsLeave.Comes, EditsMade.EditsLeave.Follows, EditsMade.EditsLeave.comes-begun, EditsMade.EditsLeave.comes-then, EditsMade.EditsLeave.follows-doing, EditsMade.EditsOfTrees.leave-pre_insert, EditsMade.EditsOfTrees.leave-replace_all, EditsMade.EditsOfDeletedContents.follows-ends, EditsMade.EditsOfDrawnContents.sound-range, EditsMade.EditsOfDrawnContents.check-range, EditsMade.EditsOfDrawnContents.there-contents_drawn, EditsMade.EditsOfDrawnContents.fragment-contents_drawn, EditsMade.EditsOfDrawnContents.live-contents_drawn, EditsMade.EditsOfDrawnContents.leave-extract, EditsMade.EditsOfInsertedNodes.IsDone, EditsMade.EditsOfInsertedNodes.unrefused, EditsMade.EditsOfInsertedNodes.done-same, EditsMade.EditsOfInsertedNodes.AreKept, EditsMade.EditsOfInsertedNodes.kept-insert_node, EditsMade.EditsOfInsertedNodes.follows-insert_node, EditsMade.EditsOfInsertedNodes.unrefused-step}

-- What extracting keeps, and the fragment.

record IsExtracted (r : ℕ) (w v : World) : Type 0 where
  there : (m : ℕ) → 0 < occurs m w.forest → 0 < occurs m v.forest
  fragment : 0 < occurs w.made v.forest
  live : is_live r v ≡ true

kept-extract : (r : ℕ) (range : Range) (w : World) → IsSound w → range_at w r ≡ Some range → check_extract r w ≡ None → IsExtracted r w (extract r w)
kept-extract r range w s e c =
    subst (λ o. IsExtracted r w (for_range o w (λ range. extracted r range w))) (sym e)
    (cond_both (is_collapsed range || is_in_one_data w range) drawn (with_range r place drawn) (IsExtracted r w) (λ _. record { there = there; fragment = fragment; live = live })
    (λ _. record { there = there; fragment = fragment; live = with_range-live r place drawn live }))
  where
    drawn : World
    drawn = contents_drawn true range w

    place : Range
    place = collapsed_at (new_place w.forest range)

    there : (m : ℕ) → 0 < occurs m w.forest → 0 < occurs m drawn.forest
    there = there-contents_drawn w s range (sound-range w r range s e) (check-range w r range e c) true

    fragment : 0 < occurs w.made drawn.forest
    fragment = fragment-contents_drawn w s range (sound-range w r range s e) (check-range w r range e c) true

    live : is_live r drawn ≡ true
    live = live-contents_drawn w s range (sound-range w r range s e) (check-range w r range e c) true r ∙ ap is_some e

-- the children of a node go
there-emptied : (n : ℕ) (w : World) → IsSound w → (m : ℕ) → 0 < occurs m w.forest → 0 < occurs m (replace_all None n w).forest
there-emptied n w s m h =
    let ns = children_of w.forest n in
    let k = loosened-remove_all ns w s (λ c i. child-there w.forest s.forest.once c n i) in
    subst (λ (g : Forest Content). 0 < occurs m g) (sym (same_forest ns (remove_all ns w))) (subst (λ x. 0 < x) (sym (k.numbers m)) h)
  where
    same_forest : (removed : List ℕ) (v : World) → (replaced_record n [] removed v).forest ≡ v.forest
    same_forest [] v = refl
    same_forest (r ∷ rs) v = refl

-- that extracting and inserting a node leave sound worlds
pub record KeepSound : Type 0 where
  pub extracts : (r : ℕ) (w : World) → IsSound w → check_extract r w ≡ None → IsSound (extract r w)
  pub inserts : (r n : ℕ) (w v : World) → IsSound w → 0 < occurs n w.forest → insert_node r n w ≡ Ok v → IsSound v

-- the outcome of a step that is not refused
done-step : (o : Outcome) (v : World) (step : World → Outcome) → IsDone (and_then o step) v → (u : World) × IsDone o u × IsDone (step u) v
done-step (Ok u) v step h = (u, refl, h)
done-step (Err e) v step h = absurd (cc h)

module _ (keeps : KeepSound) (r n : ℕ) (range : Range) (w : World) (s : IsSound w) (hn : 0 < occurs n w.forest) (e : range_at w r ≡ Some range) where
  abbrev first : World
  first = extract r w

  abbrev second : World
  second = replace_all None n first

  -- the steps from the emptied parent on, to a node that goes in, takes in the fragment and is selected
  module _ (clear : check_extract r w ≡ None) (third : World) (inserted : IsDone (insert_node r n second) third) (checked : check_insert third.forest n w.made None ≡ None) where
    extracted_keeps : IsExtracted r w first
    extracted_keeps = kept-extract r range w s e clear

    sound_first : IsSound first
    sound_first = keeps.extracts r w s clear

    sound_second : IsSound second
    sound_second = sound-replace_all None n first sound_first tt

    n_second : 0 < occurs n second.forest
    n_second = let k = extracted_keeps in there-emptied n first sound_first n (k.there n hn)

    inserted_keeps : AreKept r second third
    inserted_keeps = kept-insert_node r n second third sound_second n_second inserted

    sound_third : IsSound third
    sound_third = keeps.inserts r n second third sound_second n_second inserted

    fragment_third : 0 < occurs w.made third.forest
    fragment_third = let k = extracted_keeps in let i = inserted_keeps in i.there w.made (there-emptied n first sound_first w.made k.fragment)

    abbrev fourth : World
    fourth = append w.made n third

    live_fourth : is_live r fourth ≡ true
    live_fourth = let k = extracted_keeps in let i = inserted_keeps in append-live r w.made n third ∙ i.live (replace_all-live r None n first ∙ k.live)

    comes_fourth : Comes w (doing_append w.made n (doing_insert_node r n (doing (replace_all None n) (replace_all_edits None n) (doing (extract r) (extract_edits r) (begun w))))) fourth
    comes_fourth =
        comes-then w _ third fourth (doing_append w.made n) (follows-doing third (append w.made n) (append_edits w.made n) (leave-pre_insert w.made n None third sound_third fragment_third checked))
        (comes-then w _ second third (doing_insert_node r n) (follows-insert_node r n second third sound_second n_second inserted)
        (comes-then w _ first second (doing (replace_all None n) (replace_all_edits None n)) (follows-doing first (replace_all None n) (replace_all_edits None n) (leave-replace_all None n first sound_first tt))
        (comes-then w (begun w) w first (doing (extract r) (extract_edits r)) (follows-doing w (extract r) (extract_edits r) (leave-extract r w s clear)) (comes-begun w))))

    sound_fourth : IsSound fourth
    sound_fourth = sound-pre_insert w.made n None third sound_third fragment_third checked

    follows-select : (o : Option Range) (v : World) → IsLive fourth.forest o → IsDone (selected r o fourth) v → Follows (doing_selected r o) fourth v
    follows-select None v k h = absurd (cc h)
    follows-select (Some ends) v k h = subst (λ x. Follows (doing_ends r ends) fourth x) (done-same (with_range r ends fourth) v h) (follows-ends r ends fourth sound_fourth k live_fourth)

    comes-selected : (v : World) → IsDone (try_select r n fourth) v → Comes w (doing_surround r n w) v
    comes-selected v h =
        comes-then w _ fourth v (doing_select r n) (λ a es l. follows-select (around fourth.forest n) v (range_selected sound_fourth.forest n) h a es l) comes_fourth

  leave-surrounded : (v : World) → IsDone (surrounded r n range w) v → Leave (surround_edits r n w) w v
  leave-surrounded v h =
      let last = λ (x : World). try_select r n x in
      let rest = λ (x : World). and_then (try_pre_insert w.made n None x) last in
      let put = λ (x : World). and_then (insert_node r n (replace_all None n x)) rest in
      let a = unrefused (check_surround w range n) w v (λ x. and_then (try_extract r x) put) h in
      let b = unrefused-step (check_extract r w) w v (extract r) put a.1 in
      let c = done-step (insert_node r n second) v rest b.1 in
      let d = unrefused-step (check_insert c.0.forest n w.made None) c.0 v (pre_insert w.made n None) last c.2 in
      (comes-selected b.0 c.0 c.1 d.0 v d.1).left

pub leave-surround : KeepSound → (r n : ℕ) (w v : World) → IsSound w → 0 < occurs n w.forest → is_live r w ≡ true → surround r n w ≡ Ok v → Leave (surround_edits r n w) w v
leave-surround keeps r n w v s hn l h =
    let k = live-there r w l in
    leave-surrounded keeps r n k.0 w s hn k.1 v (ap (λ o. for_range o (Ok w) (λ range. surrounded r n range w)) (sym k.1) ∙ h)
