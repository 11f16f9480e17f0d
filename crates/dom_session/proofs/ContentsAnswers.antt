-- The answers of the commands on the contents of ranges, where the objects are there and numbers are left.
use Rattle.std.proofs.Common.{◌≡◌, ℕ, ◌+◌, ◌*◌, ◌≤◌, nat_lt, Bool, true, false, List, [], ◌∷◌, Option, Some, None, Ok, Err, refl, sym, ap, ◌∙◌, arith, is_some, IfSome}
use Rattle.std.proofs.lemmas.Bool.Decides.{nat_tests}
use Rattle.dom_model.specs.declared.DomError.{DomError}
use Rattle.dom_model.specs.Definitions.{Forest, size, entry_in, Content, Range, range_at, range_text, delete_contents, check_extract, extract, clone_contents, Outcome, insert_node, surround, refusal_in, check_whole_surround, RangeText, DeleteContents, ExtractContents, CloneContents, InsertNode, SurroundContents, Bounds, Step, guarded, refused, answer, no_node, no_room, no_room_for_copies, answers, does, checked, no_range, on_range, done_or_refused}
use Rattle.dom_model.specs.Worlds.World as model
use Rattle.dom_model.specs.Commands.Reply as model_reply
use Rattle.dom_model.proofs.Counting.{CountsOfExtraction.IsGrownTo, CountsOfExtraction.extract-grown, CountsOfExtraction.surround-to, CopiesOfContents.clone_contents-grown, NumbersKept.in_order}
use Rattle.dom_ranges.specs.Tables.{range_in}
use Rattle.dom_edit.specs.{declared.world.World.World, Whole.IsWhole, Whole.Keeps, Whole.Shows, Whole.unwatched}
use Rattle.dom_edit.proofs.RemoveLemmas.{sound-unwatched}
use Rattle.dom_wrap.specs.Outcomes.{world_after_outcome}
use Rattle.dom_session.proofs.{GuardedLemmas.guarded-none, TreeEdits.not-none, NodeData.guarded-past_node, NodeData.guarded-past_room, UnobservedLemmas.Beside, UnobservedLemmas.beside, UnobservedLemmas.insert_node-refusal, UnobservedLemmas.surround-refusal}

-- Numbers that are left.

-- where enough numbers are left for copies, what takes no more than twice the nodes in use and four has room
room-within : (numbers made size taken most : ℕ) → numbers ≤ 4294967295 → nat_lt numbers (made + (2 * size + 8)) ≡ false → most ≤ made + (2 * size + taken) → taken ≤ 8 → most ≤ 4294967295
room-within numbers made size taken most limit room grown few =
    let r : made + (2 * size + 8) ≤ numbers = grind (arith, nat_tests) in
    omega (arith, grown, r, limit, few)

module _ (v : World) (numbers : ℕ) (limit : numbers ≤ 4294967295) (room : nat_lt numbers (v.tree.made + (2 * size v.tree.forest + 8)) ≡ false) (r : ℕ) where
  pub room-extract : (extract r (unwatched v)).made ≤ 4294967295
  room-extract = room-within numbers v.tree.made (size v.tree.forest) 3 (extract r (unwatched v)).made limit room (extract-grown r (unwatched v)).most (omega arith)

  pub room-clone_contents : IsWhole v → (clone_contents r (unwatched v)).made ≤ 4294967295
  room-clone_contents whole =
      let g = clone_contents-grown r (unwatched v) (in_order (unwatched v) (sound-unwatched v whole)) in
      room-within numbers v.tree.made (size v.tree.forest) 3 (clone_contents r (unwatched v)).made limit room g.most (omega arith)

  pub room-surround : (n : ℕ) → (world_after_outcome (surround r n (unwatched v)) (unwatched v)).made ≤ 4294967295
  room-surround n =
      room-within numbers v.tree.made (size v.tree.forest) 4 (world_after_outcome (surround r n (unwatched v)) (unwatched v)).made limit room
      (left-grown (surround r n (unwatched v)) (surround-to r n (unwatched v))) (omega arith)
    where
      left-grown : (o : Outcome) → IsGrownTo (2 * size v.tree.forest + 4) (unwatched v) o → (world_after_outcome o (unwatched v)).made ≤ v.tree.made + (2 * size v.tree.forest + 4)
      left-grown (Ok w) g = g.most
      left-grown (Err e) g = omega arith

-- Steps that may refuse.

done-of : (o : Outcome) (w : model.World) → refusal_in o ≡ None → done_or_refused o w ≡ does (world_after_outcome o w)
done-of (Ok x) w h = refl
done-of (Err e) w h = absurd (cc h)

refused-of : (o : Outcome) (w : model.World) (e : DomError) → refusal_in o ≡ Some e → done_or_refused o w ≡ refused (model_reply.Dom e) w
refused-of (Ok x) w e h = absurd (cc h)
refused-of (Err d) w e h = let same : d ≡ e = cc h in ap (λ x. refused (model_reply.Dom x) w) same

-- the second world is the one in which nobody observes, with an observing part
beside-unwatched : (v : World) (w : model.World) → Keeps v w → Beside (unwatched v) w
beside-unwatched v w k = go
  where
    go : Beside (unwatched v) (record { forest = w.forest; made = w.made; ranges = w.ranges; iterators = w.iterators; walkers = w.walkers; observing = w.observing; static_ranges = w.static_ranges })
    go = rw (k.forest, k.made, k.ranges, k.iterators, k.walkers, k.static_ranges) (beside w.observing)

module _ (v : World) (b : Bounds) (w : model.World) (shown : Shows v w) (r : ℕ) where
  guarded-past_range : (cs : List (Bool × model_reply.Reply)) (s : Step) → is_some (range_in v.ranges r) ≡ true → guarded (no_range r w ∷ cs) w s ≡ guarded cs w s
  guarded-past_range cs s live = guarded-none (no_range r w ∷ []) cs w s (rw (shown.keeps.ranges, not-none (range_in v.ranges r) live) refl)

  guarded-past_copies : (s : Step) → nat_lt b.numbers (v.tree.made + (2 * size v.tree.forest + 8)) ≡ false → guarded (no_room_for_copies b w ∷ []) w s ≡ s
  guarded-past_copies s room = guarded-none (no_room_for_copies b w ∷ []) [] w s (rw (shown.keeps.made, shown.keeps.forest, room) refl)

  -- The text, and deletion.

  text-same : (range : Range) → range_text w range ≡ range_text (unwatched v) range
  text-same range = ap (λ (f : Forest Content). range_text (record (unwatched v) { forest = f }) range) shown.keeps.forest

  pub answer-range_text : (text : List ℕ) → is_some (range_in v.ranges r) ≡ true → IfSome (range_in v.ranges r) (λ range. text ≡ range_text (unwatched v) range) → answer b w (RangeText r) ≡ answers (model_reply.Units text) w
  answer-range_text text live is = guarded-past_range [] (on_range (range_at w r) w step) live ∙ ap (λ (o : Option Range). on_range o w step) there ∙ at (range_in v.ranges r) live is
    where
      step : Range → Step
      step range = answers (model_reply.Units (range_text w range)) w

      there : range_at w r ≡ range_in v.ranges r
      there = rw shown.keeps.ranges refl

      at : (o : Option Range) → is_some o ≡ true → IfSome o (λ range. text ≡ range_text (unwatched v) range) → on_range o w step ≡ answers (model_reply.Units text) w
      at None h i = absurd (cc h)
      at (Some range) h i = ap (λ (t : List ℕ). answers (model_reply.Units t) w) (text-same range ∙ sym i)

  pub answer-delete_contents : is_some (range_in v.ranges r) ≡ true → answer b w (DeleteContents r) ≡ does (delete_contents r w)
  answer-delete_contents live = guarded-past_range [] (does (delete_contents r w)) live

  -- What goes into a fragment.

  check-same : check_extract r w ≡ check_extract r (unwatched v)
  check-same =
      ap (λ (f : Forest Content). check_extract r (record w { forest = f })) shown.keeps.forest
      ∙ ap (λ (rs : List (Option Range)). check_extract r (record (unwatched v) { ranges = rs })) shown.keeps.ranges

  module _ (live : is_some (range_in v.ranges r) ≡ true) (room : nat_lt b.numbers (v.tree.made + (2 * size v.tree.forest + 8)) ≡ false) (o : Option DomError) (is : check_extract r (unwatched v) ≡ o) where
    drawn-so : (next : model.World) →
        guarded (no_range r w ∷ no_room_for_copies b w ∷ []) w (checked (check_extract r w) w (record { reply = model_reply.Done (model_reply.Number w.made); world = next }))
        ≡ checked o w (record { reply = model_reply.Done (model_reply.Number v.tree.made); world = next })
    drawn-so next =
        let step : ℕ → Step = λ m. record { reply = model_reply.Done (model_reply.Number m); world = next } in
        guarded-past_range (no_room_for_copies b w ∷ []) (checked (check_extract r w) w (step w.made)) live
        ∙ guarded-past_copies (checked (check_extract r w) w (step w.made)) room
        ∙ ap (λ (c : Option DomError). checked c w (step w.made)) (check-same ∙ is)
        ∙ ap (λ (m : ℕ). checked o w (step m)) shown.keeps.made

    pub answer-extract_contents : answer b w (ExtractContents r) ≡ checked o w (record { reply = model_reply.Done (model_reply.Number v.tree.made); world = extract r w })
    answer-extract_contents = drawn-so (extract r w)

    pub answer-clone_contents : answer b w (CloneContents r) ≡ checked o w (record { reply = model_reply.Done (model_reply.Number v.tree.made); world = clone_contents r w })
    answer-clone_contents = drawn-so (clone_contents r w)

  -- What is put in or around.

  module _ (n : ℕ) (live : is_some (range_in v.ranges r) ≡ true) (held : is_some (entry_in v.tree.forest n) ≡ true) where
    insert-past : nat_lt b.numbers (v.tree.made + 1) ≡ false → answer b w (InsertNode r n) ≡ done_or_refused (insert_node r n w) w
    insert-past room =
        let s = done_or_refused (insert_node r n w) w in
        guarded-past_range (no_node n w ∷ no_room b w.made 1 ∷ []) s live ∙ guarded-past_node v b w shown n (no_room b w.made 1 ∷ []) s held ∙ guarded-past_room v b w shown [] s room

    insert-same : refusal_in (insert_node r n w) ≡ refusal_in (insert_node r n (unwatched v))
    insert-same = insert_node-refusal r n (unwatched v) w (beside-unwatched v w shown.keeps)

    pub answer-insert_node : nat_lt b.numbers (v.tree.made + 1) ≡ false → refusal_in (insert_node r n (unwatched v)) ≡ None → answer b w (InsertNode r n) ≡ does (world_after_outcome (insert_node r n w) w)
    answer-insert_node room allowed = insert-past room ∙ done-of (insert_node r n w) w (insert-same ∙ allowed)

    pub refused-insert_node : (e : DomError) → nat_lt b.numbers (v.tree.made + 1) ≡ false → refusal_in (insert_node r n (unwatched v)) ≡ Some e → answer b w (InsertNode r n) ≡ refused (model_reply.Dom e) w
    refused-insert_node e room check = insert-past room ∙ refused-of (insert_node r n w) w e (insert-same ∙ check)

    surround-past : nat_lt b.numbers (v.tree.made + (2 * size v.tree.forest + 8)) ≡ false → answer b w (SurroundContents r n) ≡ done_or_refused (surround r n w) w
    surround-past room =
        let s = done_or_refused (surround r n w) w in
        guarded-past_range (no_node n w ∷ no_room_for_copies b w ∷ []) s live ∙ guarded-past_node v b w shown n (no_room_for_copies b w ∷ []) s held ∙ guarded-past_copies s room

    surround-same : check_whole_surround r n w ≡ check_whole_surround r n (unwatched v)
    surround-same = surround-refusal r n (unwatched v) w (beside-unwatched v w shown.keeps)

    pub answer-surround : nat_lt b.numbers (v.tree.made + (2 * size v.tree.forest + 8)) ≡ false → check_whole_surround r n (unwatched v) ≡ None → answer b w (SurroundContents r n) ≡ does (world_after_outcome (surround r n w) w)
    answer-surround room allowed = surround-past room ∙ done-of (surround r n w) w (surround-same ∙ allowed)

    pub refused-surround : (e : DomError) → nat_lt b.numbers (v.tree.made + (2 * size v.tree.forest + 8)) ≡ false → check_whole_surround r n (unwatched v) ≡ Some e → answer b w (SurroundContents r n) ≡ refused (model_reply.Dom e) w
    refused-surround e room check = surround-past room ∙ refused-of (surround r n w) w e (surround-same ∙ check)
