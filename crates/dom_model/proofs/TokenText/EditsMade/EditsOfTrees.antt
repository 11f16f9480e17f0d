-- The edits of insert, pre-insert, append, replace, replace all and adopt leave what these leave; adopting leaves node documents too, which
-- the edits do not tell. DOM Standard, "Mutation algorithms".
use Rattle.std.proofs.Common.{◌≡◌, ℕ, ◌<◌, Bool, true, false, if◌then◌else◌, List, [], ◌∷◌, length, Option, Some, None, refl, ap, sym, ◌∙◌}
use Rattle.dom_model.specs.Definitions.{occurs, children_of, next_of, World, check_insert, check_replace, remove, remove_all, is_fragment, nodes_of, emptied_fragment, freed, put_all, gap_before, insert_nodes, insert, reference_child, pre_insert, append, replace, added_by, insert_if_any, replaced_record, replace_all, previous_to, removals, remove_edits, freed_edits, index_before, insertions, insert_edits, pre_insert_edits, append_edits, replace_edits, insert_edits_if_any, replace_all_edits, IsSound, IsInsertable}
use Rattle.dom_model.proofs.Forests.Indices.{child-once, child-parent, child-there}
use Rattle.dom_model.proofs.MutationAlgorithms.Loosened.{loosened-remove_all}
use Rattle.dom_model.proofs.Soundness.{SoundWorlds.sound-remove, SoundWorlds.sound-remove_all, SoundPlacing.gap_before-none, SoundInserting.freed_ready, SoundEditing.MayComeIn, SoundEditing.insertable-loosened, SoundEditing.may_come_before, SoundEditing.may_come_instead}
use Rattle.dom_model.proofs.TokenText.{EditsMade.EditsLeave.laid, EditsMade.EditsLeave.Leave, EditsMade.EditsLeave.leave-none, EditsMade.EditsLeave.leave-then, EditsMade.EditsLeave.leave-alike, EditsMade.EditsOfSteps.record-laid, EditsMade.EditsOfSteps.leave-remove, EditsMade.EditsOfSteps.leave-remove_all, EditsMade.EditsOfInsertions.leave-insertions}

-- Insert.

leave-freed : (n : ℕ) (w : World) → IsSound w → Leave (freed_edits n (nodes_of w n) w) w (freed n (nodes_of w n) w)
leave-freed n w s = go (is_fragment w n)
  where
    ns : List ℕ
    ns = children_of w.forest n

    go : (v : Bool) → Leave (if v then removals (if v then ns else n ∷ []) else remove_edits n w) w (if v then emptied_fragment n (if v then ns else n ∷ []) w else remove false n w)
    go true =
        leave-alike (removals ns) w w (remove_all ns w) (emptied_fragment n ns w) refl refl
        (leave-remove_all n ns w s (λ m. child-once w.forest s.forest.once m n) (λ m h. child-parent w.forest s.forest.once m n h))
    go false = leave-remove false n w s

-- nothing comes in with a fragment without children, and it leaves nothing behind
empty-freed : (n : ℕ) (w : World) → nodes_of w n ≡ [] → laid (freed n [] w) ≡ laid w
empty-freed n w e = go (is_fragment w n) e
  where
    go : (v : Bool) → (if v then children_of w.forest n else n ∷ []) ≡ [] → laid (if v then emptied_fragment n [] w else remove false n w) ≡ laid w
    go true e = refl
    go false e = absurd (cc e)

pub leave-insert : (suppressed : Bool) (n parent : ℕ) (child : Option ℕ) (w : World) → IsSound w → IsInsertable w.forest n parent child → Leave (insert_edits n parent child w) w (insert suppressed n parent child w)
leave-insert suppressed n parent child w s k =
    let v = freed n (nodes_of w n) w in
    let r = freed_ready n parent child w s k in
    let u = put_all parent child (nodes_of w n) (gap_before parent child (length (nodes_of w n)) v) in
    leave-alike (insert_edits n parent child w) w w u (insert suppressed n parent child w) refl (go (nodes_of w n) refl)
    (leave-then (freed_edits n (nodes_of w n) w) (insertions parent (index_before v parent child) (nodes_of w n)) w v u
    (leave-freed n w s)
    (leave-insertions parent child (nodes_of w n) v r.sound r.parent_there r.placeable r.before_child))
  where
    go : (ns : List ℕ) → nodes_of w n ≡ ns → laid (put_all parent child ns (gap_before parent child (length ns) (freed n ns w))) ≡ laid (insert_nodes suppressed n parent child ns w)
    go [] e = ap laid (gap_before-none parent child (freed n [] w)) ∙ empty-freed n w e
    go (m ∷ ms) e = sym (record-laid suppressed parent (m ∷ ms) [] (previous_to (freed n (m ∷ ms) w).forest parent child) child (put_all parent child (m ∷ ms) (gap_before parent child (length (m ∷ ms)) (freed n (m ∷ ms) w))))

pub leave-pre_insert : (n parent : ℕ) (child : Option ℕ) (w : World) → IsSound w → 0 < occurs n w.forest → check_insert w.forest parent n child ≡ None → Leave (pre_insert_edits n parent child w) w (pre_insert n parent child w)
leave-pre_insert n parent child w s h c = leave-insert false n parent (reference_child w n child) w s (may_come_before w s parent n child h c)

pub leave-append : (n parent : ℕ) (w : World) → IsSound w → IsInsertable w.forest n parent None → Leave (append_edits n parent w) w (append n parent w)
leave-append n parent w s k = leave-insert false n parent None w s k

-- Replace, and replace all.

pub leave-replace : (child n parent : ℕ) (w : World) → IsSound w → 0 < occurs n w.forest → check_replace w.forest parent n child ≡ None → Leave (replace_edits child n parent w) w (replace child n parent w)
leave-replace child n parent w s h c =
    let reference = reference_child w n (next_of w.forest child) in
    let v = remove true child w in
    let u = insert true n parent reference v in
    leave-alike (replace_edits child n parent w) w w u (replace child n parent w) refl refl
    (leave-then (remove_edits child w) (insert_edits n parent reference v) w v u
    (leave-remove true child w s)
    (leave-insert true n parent reference v (sound-remove true child w s) (may_come_instead child n parent w s h c)))

replaced-laid : (parent : ℕ) (added removed : List ℕ) (w : World) → laid w ≡ laid (replaced_record parent added removed w)
replaced-laid parent [] [] w = refl
replaced-laid parent [] (r ∷ rs) w = refl
replaced-laid parent (a ∷ others) removed w = refl

pub leave-replace_all : (n : Option ℕ) (parent : ℕ) (w : World) → IsSound w → MayComeIn w.forest n parent → Leave (replace_all_edits n parent w) w (replace_all n parent w)
leave-replace_all n parent w s k =
    leave-alike (replace_all_edits n parent w) w w (insert_if_any n parent v) (replace_all n parent w) refl (replaced-laid parent (added_by w n) ns (insert_if_any n parent v))
    (leave-then (removals ns) (insert_edits_if_any n parent v) w v (insert_if_any n parent v) (leave-remove_all parent ns w s (λ m. child-once w.forest s.forest.once m parent) (λ m h. child-parent w.forest s.forest.once m parent h)) (go n k))
  where
    ns : List ℕ
    ns = children_of w.forest parent

    v : World
    v = remove_all (children_of w.forest parent) w

    go : (o : Option ℕ) → MayComeIn w.forest o parent → Leave (insert_edits_if_any o parent v) v (insert_if_any o parent v)
    go None i = leave-none v v refl
    go (Some m) i =
        leave-insert true m parent None v (sound-remove_all ns w s)
        (insertable-loosened w.forest v.forest m parent (loosened-remove_all ns w s (λ c h. child-there w.forest s.forest.once c parent h)) i)
