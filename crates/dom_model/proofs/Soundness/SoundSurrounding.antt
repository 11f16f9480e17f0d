-- Surrounding the contents of a live range leaves a sound world. DOM Standard, "Interface Range": surroundContents.
use Rattle.std.proofs.Common.{◌≡◌, ℕ, ◌<◌, Bool, true, false, ◌||◌, if◌then◌else◌, List, [], ◌∷◌, Option, Some, None, IfSome, Ok, refl, ap, sym, ◌∙◌, subst}
use Rattle.dom_model.specs.Definitions.{Forest, occurs, children_of, Content, Range, World, check_insert, remove_all, reference_child, pre_insert, replaced_record, replace_all, is_collapsed, collapsed_at, around, range_at, with_range, for_range, is_in_one_data, new_place, contents_drawn, check_draw, check_extract, extracted, extract, and_then, unless, try_pre_insert, insert_node, check_surround, try_extract, selected, try_select, surrounded, surround, IsRange, IsSound}
use Rattle.dom_model.specs.declared.DomError.{DomError}
use Rattle.dom_model.proofs.Forests.Indices.{child-there}
use Rattle.dom_model.proofs.Soundness.{SoundWorlds.IsLive, SoundEditing.sound-pre_insert, SoundEditing.sound-replace_all, SoundEditing.checks_insert, SoundEditing.insertable, SoundRangeSteps.live_range, SoundRangeSteps.sound-with_range, SoundContents.sound-extracted, SoundContents.there-drawn, SoundContents.fragment-drawn, SoundPlacedNode.IsNext, SoundPlacedNode.Gives, SoundPlacedNode.gives-then, SoundPlacedNode.gives-unless, SoundPlacedNode.gives-after, SoundPlacedNode.next-then, SoundInsertedNode.insert-next}
use Rattle.dom_model.proofs.MutationAlgorithms.{Loosened.IsLoosened, Loosened.loosened-remove_all, Extending.put_by_insert}
use Rattle.dom_model.proofs.RangesAndContents.RangesSet.{range_selected}

pre_insert-next : (n parent : ℕ) (child : Option ℕ) (w : World) → IsSound w → 0 < occurs n w.forest → Gives w (try_pre_insert n parent child w)
pre_insert-next n parent child w s h =
    gives-unless w (check_insert w.forest parent n child) (λ v. Ok (pre_insert n parent child v))
    (λ c. record {
      sound = sound-pre_insert n parent child w s h c;
      there = λ m k. (put_by_insert false n parent (reference_child w n child) w s (insertable w s parent n child h (checks_insert w.forest parent n child c))).extends.there m k;
    })

emptied-next : (n : ℕ) (w : World) → IsSound w → IsNext w (replace_all None n w)
emptied-next n w s =
    record {
      sound = sound-replace_all None n w s tt;
      there = λ m k. subst (λ (g : Forest Content). 0 < occurs m g) (sym (same_forest (children_of w.forest n))) (subst (λ x. 0 < x) (sym (loose.numbers m)) k);
    }
  where
    v : World
    v = remove_all (children_of w.forest n) w

    loose : IsLoosened w.forest (remove_all (children_of w.forest n) w).forest
    loose = loosened-remove_all (children_of w.forest n) w s (λ m h. child-there w.forest s.forest.once m n h)

    same_forest : (removed : List ℕ) → (replaced_record n [] removed v).forest ≡ v.forest
    same_forest [] = refl
    same_forest (r ∷ rs) = refl

select-next : (r n : ℕ) (w : World) → IsSound w → Gives w (try_select r n w)
select-next r n w s = go (around w.forest n) (range_selected s.forest n)
  where
    go : (o : Option Range) → IfSome o (IsRange w.forest) → Gives w (selected r o w)
    go None h = tt
    go (Some ends) h = record { sound = sound-with_range r ends w s h; there = λ m k. k }

-- with all nodes that were there, and a new fragment
record IsExtracted (w v : World) : Type 0 where
  next : IsNext w v
  fragment : 0 < occurs w.made v.forest

extracted-next : (r : ℕ) (range : Range) (w : World) → IsSound w → IsRange w.forest range → check_draw w range ≡ None → IsExtracted w (extracted r range w)
extracted-next r range w s h c =
    record {
      next = record { sound = sound-extracted r range w s h c; there = λ m k. subst (λ (g : Forest Content). 0 < occurs m g) (sym same_forest) (there-drawn true range w s h c m k) };
      fragment = subst (λ (g : Forest Content). 0 < occurs w.made g) (sym same_forest) (fragment-drawn true range w s h c);
    }
  where
    same_forest : (extracted r range w).forest ≡ (contents_drawn true range w).forest
    same_forest = go (is_collapsed range || is_in_one_data w range)
      where
        go : (v : Bool) → (if v then contents_drawn true range w else with_range r (collapsed_at (new_place w.forest range)) (contents_drawn true range w)).forest ≡ (contents_drawn true range w).forest
        go true = refl
        go false = refl

surrounded-next : (r n : ℕ) (range : Range) (w : World) → IsSound w → 0 < occurs n w.forest → range_at w r ≡ Some range → IsRange w.forest range → Gives w (surrounded r n range w)
surrounded-next r n range w s hn e h =
    gives-unless w (check_surround w range n) (λ v. and_then (try_extract r v) (λ u. and_then (insert_node r n (replace_all None n u)) (λ x. and_then (try_pre_insert w.made n None x) (λ y. try_select r n y))))
    (λ _. by_extract (check_extract r w) refl)
  where
    rest : (v : World) → IsExtracted w v → Gives w (and_then (insert_node r n (replace_all None n v)) (λ x. and_then (try_pre_insert w.made n None x) (λ y. try_select r n y)))
    rest v i =
        let a = emptied-next n v i.next.sound in
        let empty = next-then w v (replace_all None n v) i.next a in
        let fragment_there = a.there w.made i.fragment in
        let inserted = insert-next r n (replace_all None n v) empty.sound (empty.there n hn) in
        gives-after w (replace_all None n v) (and_then (insert_node r n (replace_all None n v)) (λ x. and_then (try_pre_insert w.made n None x) (λ y. try_select r n y))) empty
        (gives-then (replace_all None n v) (insert_node r n (replace_all None n v)) (λ x. and_then (try_pre_insert w.made n None x) (λ y. try_select r n y)) inserted
        (λ x j. gives-after (replace_all None n v) x (and_then (try_pre_insert w.made n None x) (λ y. try_select r n y)) j
        (gives-then x (try_pre_insert w.made n None x) (λ y. try_select r n y) (pre_insert-next w.made n None x j.sound (j.there w.made fragment_there))
        (λ y l. gives-after x y (try_select r n y) l (select-next r n y l.sound)))))

    by_extract : (c : Option DomError) → check_extract r w ≡ c → Gives w (and_then (and_then (unless c w) (λ v. Ok (extract r v))) (λ u. and_then (insert_node r n (replace_all None n u)) (λ x. and_then (try_pre_insert w.made n None x) (λ y. try_select r n y))))
    by_extract (Some d) i = tt
    by_extract None i =
        let c : check_draw w range ≡ None = sym (ap (λ o. for_range o None (λ x. check_draw w x)) e) ∙ i in
        let f : extract r w ≡ extracted r range w = ap (λ o. for_range o w (λ x. extracted r x w)) e in
        rest (extract r w) (subst (IsExtracted w) (sym f) (extracted-next r range w s h c))

pub surround-next : (r n : ℕ) (w : World) → IsSound w → 0 < occurs n w.forest → Gives w (surround r n w)
surround-next r n w s hn = go (range_at w r) refl (live_range w s r)
  where
    go : (o : Option Range) → range_at w r ≡ o → IsLive w.forest o → Gives w (for_range o (Ok w) (λ range. surrounded r n range w))
    go None e h = record { sound = s; there = λ m k. k }
    go (Some range) e h = surrounded-next r n range w s hn e h
