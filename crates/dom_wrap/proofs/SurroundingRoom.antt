-- The room that surrounding the contents of a live range needs is room for each of its steps. DOM Standard, "Interface Range" (surroundContents).
use Rattle.std.proofs.Common.{◌≡◌, ℕ, ◌+◌, ◌<◌, ◌≤◌, Bool, true, false, if◌then◌else◌, List, [], Option, Some, None, is_some, slice_index_or, Ok, Err, refl, ap, sym, ◌∙◌, subst, arith}
use Rattle.std.proofs.lemmas.Bool.{cond-true}
use Rattle.dom_model.specs.declared.{Kind.TheVariants.Text, DomError.DomError}
use Rattle.dom_model.specs.Definitions.{Forest, parent_of, next_of, Content, Point, Range, made_node, named, with_text, check_insert, remove, pre_insert, replace_all, reference_child, node_document, tail_of, split_off, split, is_collapsed, around, range_at, with_range, for_range, check_extract, extract, Outcome, and_then, unless, is_text, try_pre_insert, check_start, parent_at, reference_at, reference_after, split_at, offset_past, end_if_collapsed, placed_at, inserted_at, insert_node, check_surround, try_extract, selected, try_select, surrounded, surround, refusal_in, check_whole_surround}
use Rattle.dom_model.specs.Worlds.World as model
use Rattle.dom_model.proofs.Counting.{CountsKept.remove-kept, CountsKept.insert-kept, CountsKept.pre_insert-kept, CountsKept.replace_all-kept, CountsOfExtraction.IsGrownTo, CountsOfExtraction.insert_node-to}
use Rattle.dom_model.proofs.RangesAndContents.LiveRangesKept.{live-there}
use Rattle.dom_edit.specs.{declared.world.World.World, Whole.Keeps, Whole.unwatched}
use Rattle.dom_wrap.specs.Outcomes.{world_after_outcome, HasNumberForSplit, put_around}
use Rattle.dom_wrap.proofs.InsertedNode.{unless-none, unless-allows}

-- Steps that make so many nodes or more, where they are not refused.

abbrev LeastBy : ℕ → model.World → Outcome → Type 0
LeastBy more w (Ok v) = w.made + more ≤ v.made
LeastBy more w (Err e) = Unit {0}

least-left : (more : ℕ) (w : model.World) (o : Outcome) → LeastBy more w o → refusal_in o ≡ None → (x : model.World) → w.made + more ≤ (world_after_outcome o x).made
least-left more w (Ok v) l i x = l
least-left more w (Err e) l i x = absurd (cc i)

least-after : (more : ℕ) (w v : model.World) (o : Outcome) → w.made + more ≤ v.made → LeastBy 0 v o → LeastBy more w o
least-after more w v (Ok x) k l = omega arith
least-after more w v (Err e) k l = tt

least-then : (more : ℕ) (w : model.World) (o : Outcome) (step : model.World → Outcome) → LeastBy more w o → ((v : model.World) → LeastBy 0 v (step v)) → LeastBy more w (and_then o step)
least-then more w (Ok v) step l k = least-after more w v (step v) l (k v)
least-then more w (Err e) step l k = tt

least-unless : (more : ℕ) (c : Option DomError) (w : model.World) (step : model.World → Outcome) → LeastBy more w (step w) → LeastBy more w (and_then (unless c w) step)
least-unless more None w step l = l
least-unless more (Some e) w step l = tt

pre_insert-least : (n parent : ℕ) (child : Option ℕ) (w : model.World) → LeastBy 0 w (try_pre_insert n parent child w)
pre_insert-least n parent child w =
    least-unless 0 (check_insert w.forest parent n child) w (λ v. Ok (pre_insert n parent child v)) (let k = pre_insert-kept n parent child w in let l = k.least in omega arith)

select-least : (r n : ℕ) (w : model.World) → LeastBy 0 w (try_select r n w)
select-least r n w = go (around w.forest n)
  where
    go : (o : Option Range) → LeastBy 0 w (selected r o w)
    go None = tt
    go (Some ends) = omega arith

end_if_collapsed-least : (r : ℕ) (p : Point) (w : model.World) → w.made + 0 ≤ (end_if_collapsed r p w).made
end_if_collapsed-least r p w = go (range_at w r)
  where
    part : (range : Range) (t : Bool) → w.made + 0 ≤ (if t then with_range r (record range { end = p }) w else w).made
    part range true = omega arith
    part range false = omega arith

    go : (o : Option Range) → w.made + 0 ≤ (for_range o w (λ range. if is_collapsed range then with_range r (record range { end = p }) w else w)).made
    go None = omega arith
    go (Some range) = part range (is_collapsed range)

placed_at-least : (r n parent : ℕ) (reference : Option ℕ) (w : model.World) → LeastBy 0 w (placed_at r n parent reference w)
placed_at-least r n parent reference w =
    let out = remove false n w in
    let p : Point = record { node = parent; offset = offset_past out parent reference n } in
    let k = remove-kept false n w in
    let l = k.least in
    least-after 0 w out (and_then (try_pre_insert n parent reference out) (λ v. Ok (end_if_collapsed r p v))) (omega arith)
    (least-then 0 out (try_pre_insert n parent reference out) (λ v. Ok (end_if_collapsed r p v)) (pre_insert-least n parent reference out) (λ v. end_if_collapsed-least r p v))

-- a Text that is split makes one
split-least : (n offset : ℕ) (w : model.World) → w.made + 1 ≤ (split n offset w).made
split-least n offset w = go (parent_of w.forest n)
  where
    go : (p : Option ℕ) → w.made + 1 ≤ (split_off n offset w.made p (made_node (node_document w n) (named Text []) (with_text (tail_of w n offset)) w)).made
    go None = omega arith
    go (Some parent) =
        let first = made_node (node_document w n) (named Text []) (with_text (tail_of w n offset)) w in
        let k = insert-kept false w.made parent (next_of first.forest n) first in
        k.least

inserted_at-least : (r n : ℕ) (p : Point) (w : model.World) → is_text w p.node ≡ true → LeastBy 1 w (inserted_at r n p w)
inserted_at-least r n p w t =
    let apart = split_at p w in
    let reference = reference_child apart n (reference_after w p) in
    let more : w.made + 1 ≤ apart.made = subst (λ (v : model.World). w.made + 1 ≤ v.made) (sym (cond-true (is_text w p.node) (split p.node p.offset w) w t)) (split-least p.node p.offset w) in
    least-unless 1 (check_start w p n) w _
    (least-unless 1 (check_insert w.forest (parent_at w p) n (reference_at w p)) w _
    (least-after 1 w apart (placed_at r n (parent_at w p) reference apart) more (placed_at-least r n (parent_at w p) reference apart)))

insert_node-least : (r n : ℕ) (w : model.World) → LeastBy 0 w (insert_node r n w)
insert_node-least r n w = go (insert_node r n w) (insert_node-to r n w)
  where
    go : (o : Outcome) → IsGrownTo 1 w o → LeastBy 0 w o
    go (Ok v) g = let l = g.least in omega arith
    go (Err e) g = tt

-- where the range starts in a Text
insert_text-least : (r n : ℕ) (range : Range) (w : model.World) → range_at w r ≡ Some range → is_text w range.start.node ≡ true → LeastBy 1 w (insert_node r n w)
insert_text-least r n range w e t =
    subst (λ (o : Option Range). LeastBy 1 w (for_range o (Ok w) (λ range. inserted_at r n range.start w))) (sym e) (inserted_at-least r n range.start w t)

put_around-least : (more r n fragment : ℕ) (w : model.World) → LeastBy more w (insert_node r n w) → LeastBy more w (put_around r n fragment w)
put_around-least more r n fragment w l =
    least-then more w (insert_node r n w) (λ v. and_then (try_pre_insert fragment n None v) (λ v. try_select r n v)) l
    (λ v. least-then 0 v (try_pre_insert fragment n None v) (λ v. try_select r n v) (pre_insert-least fragment n None v) (λ x. select-least r n x))

-- The steps of a surrounding that is allowed.

module _ (r n : ℕ) (w : model.World) (live : is_some (range_at w r) ≡ true) (allowed : check_whole_surround r n w ≡ None) (room : (world_after_outcome (surround r n w) w).made ≤ 4294967295) where
  abbrev emptied : model.World
  emptied = replace_all None n (extract r w)

  abbrev rest : model.World → Outcome
  rest v = put_around r n w.made (replace_all None n v)

  range_there : (range : Range) × (range_at w r ≡ Some range)
  range_there = live-there r w live

  same_range : surround r n w ≡ surrounded r n range_there.0 w
  same_range = ap (λ (o : Option Range). for_range o (Ok w) (λ range. surrounded r n range w)) range_there.1

  checked : (check_surround w range_there.0 n ≡ None) × (refusal_in (and_then (try_extract r w) rest) ≡ None)
  checked = unless-allows (check_surround w range_there.0 n) w (λ v. and_then (try_extract r v) rest) (sym (ap refusal_in same_range) ∙ allowed)

  extract-allowed : check_extract r w ≡ None
  extract-allowed = go (check_extract r w) checked.1
    where
      go : (c : Option DomError) → refusal_in (and_then (and_then (unless c w) (λ v. Ok (extract r v))) rest) ≡ None → c ≡ None
      go None i = refl
      go (Some e) i = absurd (cc i)

  surround-is : surround r n w ≡ put_around r n w.made emptied
  surround-is =
      same_range ∙ unless-none (check_surround w range_there.0 n) w (λ v. and_then (try_extract r v) rest) checked.0
      ∙ ap (λ (o : Outcome). and_then o rest) (unless-none (check_extract r w) w (λ v. Ok (extract r v)) extract-allowed)

  least-emptied : (more : ℕ) → LeastBy more emptied (insert_node r n emptied) → emptied.made + more ≤ 4294967295
  least-emptied more l =
      let i : refusal_in (put_around r n w.made emptied) ≡ None = sym (ap refusal_in surround-is) ∙ allowed in
      let k = least-left more emptied (put_around r n w.made emptied) (put_around-least more r n w.made emptied l) i w in
      let made : (world_after_outcome (surround r n w) w).made ≡ (world_after_outcome (put_around r n w.made emptied) w).made = ap (λ (o : Outcome). (world_after_outcome o w).made) surround-is in
      omega arith

  pub room-extract : (extract r w).made ≤ 4294967295
  room-extract =
      let k = replace_all-kept None n (extract r w) in
      let l = k.least in
      let m = least-emptied 0 (insert_node-least r n emptied) in
      omega arith

  room-text : (range : Range) → range_at emptied r ≡ Some range → is_text emptied range.start.node ≡ true → emptied.made < 4294967295
  room-text range e t = let m = least-emptied 1 (insert_text-least r n range emptied e t) in omega arith

  pub room-emptied : (c : World) → Keeps c emptied → HasNumberForSplit c r
  room-emptied c k range e t =
      subst (λ (m : ℕ). m < 4294967295) k.made
      (room-text range (ap (λ (rs : List (Option Range)). slice_index_or rs r None) k.ranges ∙ e) (ap (λ (g : Forest Content). is_text (record (unwatched c) { forest = g }) range.start.node) k.forest ∙ t))
