-- The edits of inserting a node into a live range leave what that leaves. DOM Standard, "Interface Range": insertNode.
use Rattle.std.proofs.Common.{◌≡◌, ℕ, ◌<◌, ◌≤◌, Bool, true, false, if◌then◌else◌, List, [], length, Option, Some, None, is_some, Ok, refl, ap, sym, ◌∙◌, subst, arith}
use Rattle.std.proofs.lemmas.Bool.{cond_both}
use Rattle.dom_model.specs.Definitions.{Forest, empty, node, occurs, one_at, with_node, parent_of, Content, Point, Range, World, check_insert, is_of_kind, remove, pre_insert, reference_child, node_document, made_node, named, with_text, is_collapsed, range_at, with_range, data_of, tail_of, replace_data, split_off, split, with_data, cut_count, spliced, for_range, Outcome, and_then, unless, is_text, reference_at, parent_at, check_start, split_at, reference_after, offset_past, end_if_collapsed, placed_at, inserted_at, insert_node, Trace, remove_edits, split_edits, pre_insert_edits, doing, doing_remove, doing_ends, doing_split_at, doing_pre_insert, doing_end_if_collapsed, doing_placed, doing_insert_at, doing_insert_node, insert_node_edits, IsBoundary, IsSound}
use Rattle.dom_model.specs.declared.{DomError.DomError, Kind.TheVariants.Text}
use Rattle.dom_model.proofs.Forests.{Totals.total-beside, Entries.occurs-HasNode}
use Rattle.dom_model.proofs.Worlds.SameShape.{with_node-alike, occurs-alike}
use Rattle.dom_model.proofs.MutationAlgorithms.{Extending.put_by_insert, Loosened.loosened-remove}
use Rattle.dom_model.proofs.Soundness.{SoundEditing.may_come_before, SoundEditing.sound-pre_insert, SoundPlacedNode.Gives, SoundInsertedNode.insert-next, SoundWorlds.sound-remove, SoundData.length-data, SoundSplitting.text_has_data, SoundSplitting.new_text, SoundSplitting.there-old, SoundSplitting.there-parted, SoundSplitting.forest_is, SoundSplitting.after_parting, SoundSplitting.split_off_is, SoundSplitting.sound-split}
use Rattle.dom_model.proofs.RangesAndContents.LiveRangesKept.{is_live, remove-live, pre_insert-live, split-live, with_range-live}
use Rattle.dom_model.proofs.TokenText.{EditsMade.EditsLeave.Leave, EditsMade.EditsLeave.leave-none, EditsMade.EditsLeave.Comes, EditsMade.EditsLeave.comes-then, EditsMade.EditsLeave.Follows, EditsMade.EditsLeave.follows-none, EditsMade.EditsLeave.follows-then, EditsMade.EditsLeave.follows-doing, EditsMade.EditsOfSteps.range-of_sound, EditsMade.EditsOfSteps.leave-remove, EditsMade.EditsOfTrees.leave-pre_insert, EditsMade.EditsOfSplitting.leave-split, EditsMade.EditsOfDeletedContents.follows-ends, EditsMade.EditsOfDrawnContents.sound-range}

-- Nodes are there once a Text is split.

there-with_data : (n : ℕ) (text : List ℕ) (m : ℕ) (f : Forest Content) → 0 < occurs m f → 0 < occurs m (with_node n (with_data text) f)
there-with_data n text m f h = subst (λ x. 0 < x) (sym (occurs-alike (with_node-alike (with_data text) (λ x. refl) n f) m)) h

there-split : (n offset : ℕ) (w : World) → IsSound w → 0 < occurs n w.forest → is_of_kind Text w.forest n ≡ true → offset ≤ length (data_of w n) → (m : ℕ) → 0 < occurs m w.forest → 0 < occurs m (split n offset w).forest
there-split n offset w s hn text within m h = go (parent_of w.forest n) refl
  where
    fresh : World
    fresh = made_node (node_document w n) (named Text []) (with_text (tail_of w n offset)) w

    go : (p : Option ℕ) → parent_of w.forest n ≡ p → 0 < occurs m (replace_data n offset (length (tail_of w n offset)) [] (split_off n offset w.made p fresh)).forest
    go None e = there-with_data n _ m fresh.forest (let t = total-beside (one_at m) w.forest (node (new_text n offset w) empty empty) in omega arith)
    go (Some parent) e =
        let v = after_parting n parent offset w s hn text e within in
        let k = there-parted n parent offset w s hn text e within m (there-old n parent offset w s hn text e within m h) in
        let k2 : 0 < occurs m v.forest = subst (λ (g : Forest Content). 0 < occurs m g) (sym (forest_is n parent offset w s hn text e within)) k in
        subst (λ (u : World). 0 < occurs m (replace_data n offset (length (tail_of w n offset)) [] u).forest) (sym (split_off_is n parent offset w s hn text e within))
        (there-with_data n (spliced offset (cut_count (length (data_of v n)) offset (length (tail_of w n offset))) [] (data_of v n)) m v.forest k2)

-- A Text is split at the start of a range, or the world stays as it is.

abbrev split_if : Bool → Point → World → World
split_if v p w = if v then split p.node p.offset w else w

record IsApart (v : Bool) (w : World) (p : Point) : Type 0 where
  live : (r : ℕ) → is_live r (split_if v p w) ≡ is_live r w
  sound : IsSound (split_if v p w)
  there : (m : ℕ) → 0 < occurs m w.forest → 0 < occurs m (split_if v p w).forest
  follows : Follows (λ t. if v then doing (split p.node p.offset) (split_edits p.node p.offset) t else t) w (split_if v p w)

apart-if : (v : Bool) (w : World) (p : Point) → IsSound w → IsBoundary w.forest p → is_text w p.node ≡ v → IsApart v w p
apart-if true w p s b t =
    let h = occurs-HasNode w.forest p.node b.there in
    let whole = length-data w.forest p.node (text_has_data w p.node t) in
    let i = b.within in
    let within : p.offset ≤ length (data_of w p.node) = omega arith in
    record {
      live = λ r. split-live r p.node p.offset w;
      sound = sound-split p.node p.offset w s h t within;
      there = there-split p.node p.offset w s h t within;
      follows = follows-doing w (split p.node p.offset) (split_edits p.node p.offset) (leave-split p.node p.offset w s h t within);
    }
apart-if false w p s b t = record { live = λ r. refl; sound = s; there = λ m h. h; follows = follows-none w }

-- An outcome that is not refused went through each step.

abbrev pub IsDone : Outcome → World → Type 0
IsDone o v = o ≡ Ok v

pub unrefused : (c : Option DomError) (w v : World) (step : World → Outcome) → IsDone (and_then (unless c w) step) v → (c ≡ None) × IsDone (step w) v
unrefused None w v step h = (refl, h)
unrefused (Some e) w v step h = absurd (cc h)

pub unrefused-step : (c : Option DomError) (w v : World) (f : (World → World)) (step : (World → Outcome)) → IsDone (and_then (and_then (unless c w) (λ x. Ok (f x))) step) v → (c ≡ None) × IsDone (step (f w)) v
unrefused-step None w v f step h = (refl, h)
unrefused-step (Some e) w v f step h = absurd (cc h)

-- The node leaves its parent and comes in, and the range goes around it where it is collapsed.

follows-end : (r : ℕ) (p : Point) (v : World) → IsSound v → IsSound (end_if_collapsed r p v) → Follows (doing_end_if_collapsed r p) v (end_if_collapsed r p v)
follows-end r p v s k = go (range_at v r) refl k
  where
    part : (range : Range) → range_at v r ≡ Some range → (b : Bool) → IsSound (if b then with_range r (record range { end = p }) v else v) → Follows (λ t. if b then doing_ends r (record range { end = p }) t else t) v (if b then with_range r (record range { end = p }) v else v)
    part range e true h = follows-ends r (record range { end = p }) v s (range-of_sound r range (record range { end = p }) v e h) (ap is_some e)
    part range e false h = follows-none v

    go : (o : Option Range) → range_at v r ≡ o → IsSound (for_range o v (λ range. if is_collapsed range then with_range r (record range { end = p }) v else v)) → Follows (λ t. for_range o t (λ range. if is_collapsed range then doing_ends r (record range { end = p }) t else t)) v (for_range o v (λ range. if is_collapsed range then with_range r (record range { end = p }) v else v))
    go None e h = follows-none v
    go (Some range) e h = part range e (is_collapsed range) h

end-forest : (r : ℕ) (p : Point) (v : World) → (end_if_collapsed r p v).forest ≡ v.forest
end-forest r p v = go (range_at v r)
  where
    go : (o : Option Range) → (for_range o v (λ range. if is_collapsed range then with_range r (record range { end = p }) v else v)).forest ≡ v.forest
    go None = refl
    go (Some range) = cond_both (is_collapsed range) (with_range r (record range { end = p }) v) v (λ (u : World). u.forest ≡ v.forest) (λ e. refl) (λ e. refl)

end-live : (r : ℕ) (p : Point) (v : World) → is_live r v ≡ true → is_live r (end_if_collapsed r p v) ≡ true
end-live r p v h = go (range_at v r)
  where
    go : (o : Option Range) → is_live r (for_range o v (λ range. if is_collapsed range then with_range r (record range { end = p }) v else v)) ≡ true
    go None = h
    go (Some range) =
        let set = record range { end = p } in
        cond_both (is_collapsed range) (with_range r set v) v (λ (u : World). is_live r u ≡ true) (λ e. with_range-live r set v h) (λ e. h)

pub done-same : (u v : World) → IsDone (Ok u) v → u ≡ v
done-same u v h = cc h

-- a node of the forest is placed, where the check of the insertion refuses nothing
module _ (r n parent : ℕ) (reference : Option ℕ) (w : World) (s : IsSound w) (hn : 0 < occurs n w.forest) where
  abbrev out : World
  out = remove false n w

  abbrev past_it : Point
  past_it = record { node = parent; offset = offset_past out parent reference n }

  checked-placed : (v : World) → IsDone (placed_at r n parent reference w) v → (check_insert out.forest parent n reference ≡ None) × (end_if_collapsed r past_it (pre_insert n parent reference out) ≡ v)
  checked-placed v h =
      let c = unrefused-step (check_insert out.forest parent n reference) out v (pre_insert n parent reference) (λ x. Ok (end_if_collapsed r past_it x)) h in
      (c.0, done-same (end_if_collapsed r past_it (pre_insert n parent reference out)) v c.1)

  there-out : (m : ℕ) → 0 < occurs m w.forest → 0 < occurs m out.forest
  there-out m h = let k = loosened-remove false n w s hn in subst (λ x. 0 < x) (sym (k.numbers m)) h

  follows-placed : (v : World) → IsDone (placed_at r n parent reference w) v → IsSound v → Follows (doing_placed r n parent reference) w v
  follows-placed v h sv =
      let c = checked-placed v h in
      let u = pre_insert n parent reference out in
      let first : Follows (doing_remove n) w out = follows-doing w (remove false n) (remove_edits n) (leave-remove false n w s) in
      let second : Follows (doing_pre_insert n parent reference) out u = follows-doing out (pre_insert n parent reference) (pre_insert_edits n parent reference) (leave-pre_insert n parent reference out (sound-remove false n w s) (there-out n hn) c.0) in
      subst (λ x. Follows (doing_placed r n parent reference) w x) c.1
      (λ a es l. follows-then w u (end_if_collapsed r past_it u) (λ t. doing_pre_insert n parent reference (doing_remove n t)) (doing_end_if_collapsed r past_it)
      (follows-then w out u (doing_remove n) (doing_pre_insert n parent reference) first second) (follows-end r past_it u (sound-pre_insert n parent reference out (sound-remove false n w s) (there-out n hn) c.0) (subst IsSound (sym c.1) sv)) a es l)

  -- what is there, and what is a live range, stays
  there-placed : (v : World) → IsDone (placed_at r n parent reference w) v → (m : ℕ) → 0 < occurs m w.forest → 0 < occurs m v.forest
  there-placed v h m k =
      let c = checked-placed v h in
      let u = pre_insert n parent reference out in
      let i = put_by_insert false n parent (reference_child out n reference) out (sound-remove false n w s) (may_come_before out (sound-remove false n w s) parent n reference (there-out n hn) c.0) in
      let there : 0 < occurs m u.forest = i.extends.there m (there-out m k) in
      let same_forest : (end_if_collapsed r past_it u).forest ≡ u.forest = end-forest r past_it u in
      subst (λ (x : World). 0 < occurs m x.forest) c.1 (subst (λ (g : Forest Content). 0 < occurs m g) (sym same_forest) there)

  live-placed : (v : World) → IsDone (placed_at r n parent reference w) v → is_live r w ≡ true → is_live r v ≡ true
  live-placed v h k =
      let c = checked-placed v h in
      let u = pre_insert n parent reference out in
      subst (λ (x : World). is_live r x ≡ true) c.1 (end-live r past_it u (pre_insert-live r n parent reference out ∙ remove-live r false n w ∙ k))

-- Insert node.

module _ (r n : ℕ) (p : Point) (w v : World) (s : IsSound w) (b : IsBoundary w.forest p) (hn : 0 < occurs n w.forest) (h : IsDone (inserted_at r n p w) v) where
  abbrev apart_world : World
  apart_world = split_at p w

  abbrev reference : Option ℕ
  reference = reference_child apart_world n (reference_after w p)

  done-placed : IsDone (placed_at r n (parent_at w p) reference apart_world) v
  done-placed =
      let first = unrefused (check_start w p n) w v (λ x. and_then (unless (check_insert x.forest (parent_at x p) n (reference_at x p)) x) (λ y. placed_at r n (parent_at y p) (reference_child (split_at p y) n (reference_after y p)) (split_at p y))) h in
      (unrefused (check_insert w.forest (parent_at w p) n (reference_at w p)) w v (λ y. placed_at r n (parent_at y p) (reference_child (split_at p y) n (reference_after y p)) (split_at p y)) first.1).1

  is_apart : IsApart (is_text w p.node) w p
  is_apart = apart-if (is_text w p.node) w p s b refl

  follows-inserted : IsSound v → Follows (doing_insert_at r n p) w v
  follows-inserted sv a es l =
      let t : Trace = record { world = w; edits = es } in
      let k = is_apart in
      let c = k.follows a es l in
      let placed = comes-then a (doing_split_at p t) apart_world v (doing_placed r n (parent_at w p) reference) (follows-placed r n (parent_at w p) reference apart_world k.sound (k.there n hn) v done-placed sv) c in
      subst (λ (x : World). Comes a (doing_placed r n (parent_at w p) (reference_child x n (reference_after w p)) (doing_split_at p t)) v) (sym c.there) placed

  there-inserted : (m : ℕ) → 0 < occurs m w.forest → 0 < occurs m v.forest
  there-inserted m i = let k = is_apart in there-placed r n (parent_at w p) reference apart_world k.sound (k.there n hn) v done-placed m (k.there m i)

  live-inserted : is_live r w ≡ true → is_live r v ≡ true
  live-inserted i = let k = is_apart in live-placed r n (parent_at w p) reference apart_world k.sound (k.there n hn) v done-placed (k.live r ∙ i)

-- what is there, and what is a live range, stays
pub record AreKept (r : ℕ) (w v : World) : Type 0 where
  pub there : (m : ℕ) → 0 < occurs m w.forest → 0 < occurs m v.forest
  pub live : is_live r w ≡ true → is_live r v ≡ true

pub kept-insert_node : (r n : ℕ) (w v : World) → IsSound w → 0 < occurs n w.forest → IsDone (insert_node r n w) v → AreKept r w v
kept-insert_node r n w v s hn h = go (range_at w r) refl h
  where
    go : (o : Option Range) → range_at w r ≡ o → IsDone (for_range o (Ok w) (λ range. inserted_at r n range.start w)) v → AreKept r w v
    go None e i = subst (λ x. AreKept r w x) (done-same w v i) (record { there = λ m k. k; live = λ k. k })
    go (Some range) e i =
        let k = sound-range w r range s e in
        record { there = there-inserted r n range.start w v s k.starts hn i; live = live-inserted r n range.start w v s k.starts hn i }

-- inserting a node leaves a sound world
pub sound-inserted : (r n : ℕ) (w v : World) → IsSound w → 0 < occurs n w.forest → IsDone (insert_node r n w) v → IsSound v
sound-inserted r n w v s hn h = (subst (Gives w) h (insert-next r n w s hn)).sound

pub follows-insert_node : (r n : ℕ) (w v : World) → IsSound w → 0 < occurs n w.forest → IsDone (insert_node r n w) v → Follows (doing_insert_node r n) w v
follows-insert_node r n w v s hn h = go (range_at w r) refl h
  where
    go : (o : Option Range) → range_at w r ≡ o → IsDone (for_range o (Ok w) (λ range. inserted_at r n range.start w)) v → Follows (λ t. for_range o t (λ range. doing_insert_at r n range.start t)) w v
    go None e i = subst (λ x. Follows (λ t. t) w x) (done-same w v i) (follows-none w)
    go (Some range) e i = let k = sound-range w r range s e in follows-inserted r n range.start w v s k.starts hn i (sound-inserted r n w v s hn h)

pub leave-insert_node : (r n : ℕ) (w v : World) → IsSound w → 0 < occurs n w.forest → IsDone (insert_node r n w) v → Leave (insert_node_edits r n w) w v
leave-insert_node r n w v s hn h = let k = follows-insert_node r n w v s hn h w [] (leave-none w w refl) in k.left
