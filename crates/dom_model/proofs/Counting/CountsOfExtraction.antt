-- How many numbers an extraction, an insertion into a range and a surrounding take. DOM Standard, "Interface Range".
use Rattle.std.proofs.Common.{◌≡◌, ℕ, ◌+◌, ◌*◌, ◌-◌, ◌≤◌, ◌||◌, true, false, length, Option, Some, None, refl, arith, Ok, Err}
use Rattle.dom_model.specs.Definitions.{size, Point, Range, World, check_insert, remove, pre_insert, replace_all, reference_child, node_document, is_collapsed, collapsed_at, around, range_at, for_range, is_in_one_data, new_place, new_fragment, children_into, tail_into, path_below, common_of, contained_children, parts_into, contents_drawn, check_extract, extracted, extract, Outcome, and_then, unless, try_pre_insert, is_text, check_start, parent_at, reference_at, reference_after, split_at, offset_past, end_if_collapsed, placed_at, inserted_at, insert_node, check_surround, try_extract, selected, try_select, surrounded, surround}
use Rattle.dom_model.specs.declared.DomError.{DomError}
use Rattle.dom_model.proofs.Forests.Totals.{total-beside}
use Rattle.dom_model.proofs.RangesAndContents.PathsApart.{paths-apart}
use Rattle.dom_model.proofs.Counting.{NumbersGone.IsLiveAt, NumbersGone.live-of, CountsKept.IsGrown, CountsKept.grown-then, CountsKept.grown-more, CountsKept.grown-if, CountsKept.kept-same, CountsKept.kept-if, CountsKept.remove-kept, CountsKept.pre_insert-kept, CountsKept.replace_all-kept, CountsOfData.split-grown, CountsOfContents.new_fragment-grown, CountsOfContents.units_into-grown, CountsOfContents.children_moved-kept, CountsOfContents.tail_moved-grown, CountsOfContents.head_moved-grown, CountsOfContents.with_range-kept, CountsOfContents.live-then, CountsOfContents.for_range-grown}

pub size-new_fragment : (document : ℕ) (w : World) → size (new_fragment document w).forest ≡ size w.forest + 1
size-new_fragment document w = total-beside (λ _. 1) w.forest _

pub parts_moved-grown : (into : ℕ) (r : Range) (w : World) → IsGrown (2 * size w.forest) w (parts_into true into r w)
parts_moved-grown into r w =
    let first = path_below w.forest (common_of w r) r.start.node in
    let last = path_below w.forest (common_of w r) r.end.node in
    let tailed = tail_into true into r.start.offset first w in
    let filled = children_into true into (contained_children w r) tailed in
    grown-more (2 * length first + 0 + 2 * length last) (2 * size w.forest) (omega (arith, paths-apart r.start.node r.end.node w.forest))
    (grown-then (2 * length first + 0) (2 * length last)
    (grown-then (2 * length first) 0 (tail_moved-grown into r.start.offset first w) (children_moved-kept into (contained_children w r) tailed))
    (head_moved-grown into r.end.offset last filled))

extracted_part-grown : (r : Range) (w : World) → IsGrown (2 * size w.forest + 3) w (contents_drawn true r w)
extracted_part-grown r w =
    let made = new_fragment (node_document w r.start.node) w in
    let g = new_fragment-grown (node_document w r.start.node) w in
    grown-if (2 * size w.forest + 3) (is_collapsed r) w made _ (grown-more 1 (2 * size w.forest + 3) (omega arith) g)
    (grown-if (2 * size w.forest + 3) (is_in_one_data w r) w _ _
    (grown-more 2 (2 * size w.forest + 3) (omega arith) (grown-then 1 1 g (units_into-grown true w.made r.start.node r.start.offset (r.end.offset - r.start.offset) made)))
    (grown-more (1 + 2 * size made.forest) (2 * size w.forest + 3) (omega (arith, size-new_fragment (node_document w r.start.node) w))
    (grown-then 1 (2 * size made.forest) g (parts_moved-grown w.made r made))))

extracted-grown : (r : ℕ) (range : Range) (w : World) → IsLiveAt w.ranges r → IsGrown (2 * size w.forest + 3) w (extracted r range w)
extracted-grown r range w live =
    let drawn = contents_drawn true range w in
    let g = extracted_part-grown range w in
    grown-if (2 * size w.forest + 3) (is_collapsed range || is_in_one_data w range) w drawn _ g
    (grown-more (2 * size w.forest + 3 + 0) (2 * size w.forest + 3) (omega arith)
    (grown-then (2 * size w.forest + 3) 0 g (with_range-kept r (collapsed_at (new_place w.forest range)) drawn (live-then (2 * size w.forest + 3) r g live))))

-- an extraction takes at most twice the nodes in use, and three
pub extract-grown : (r : ℕ) (w : World) → IsGrown (2 * size w.forest + 3) w (extract r w)
extract-grown r w = for_range-grown (2 * size w.forest + 3) (range_at w r) w (λ range. extracted r range w) (λ range e. extracted-grown r range w (live-of (range_at w r) range e))

-- where a step is not refused
abbrev pub IsGrownTo : ℕ → World → Outcome → Type 0
IsGrownTo more w (Ok v) = IsGrown more w v
IsGrownTo more w (Err e) = Unit {0}

to-then : (j k : ℕ) (u v : World) (o : Outcome) → IsGrown j u v → IsGrownTo k v o → IsGrownTo (j + k) u o
to-then j k u v (Ok w) g h = grown-then j k g h
to-then j k u v (Err e) g h = tt

to-more : (j k : ℕ) (u : World) (o : Outcome) → j ≤ k → IsGrownTo j u o → IsGrownTo k u o
to-more j k u (Ok w) l g = grown-more j k l g
to-more j k u (Err e) l g = tt

then-to : (j k : ℕ) (w : World) (o : Outcome) (step : World → Outcome) → IsGrownTo j w o → ((v : World) → IsGrown j w v → IsGrownTo k v (step v)) → IsGrownTo (j + k) w (and_then o step)
then-to j k w (Ok v) step g h = to-then j k w v (step v) g (h v g)
then-to j k w (Err e) step g h = tt

unless-to : (k : ℕ) (c : Option DomError) (w : World) (step : World → Outcome) → IsGrownTo k w (step w) → IsGrownTo k w (and_then (unless c w) step)
unless-to k None w step h = h
unless-to k (Some e) w step h = tt

try_pre_insert-to : (n parent : ℕ) (child : Option ℕ) (w : World) → IsGrownTo 0 w (try_pre_insert n parent child w)
try_pre_insert-to n parent child w =
    unless-to 0 (check_insert w.forest parent n child) w (λ v. Ok (pre_insert n parent child v)) (pre_insert-kept n parent child w)

end_if_collapsed-kept : (r : ℕ) (p : Point) (w : World) → IsGrown 0 w (end_if_collapsed r p w)
end_if_collapsed-kept r p w =
    for_range-grown 0 (range_at w r) w _ (λ range e. kept-if (is_collapsed range) w _ w (with_range-kept r (record range { end = p }) w (live-of (range_at w r) range e)) (kept-same w))

placed_at-to : (r n parent : ℕ) (reference : Option ℕ) (w : World) → IsGrownTo 0 w (placed_at r n parent reference w)
placed_at-to r n parent reference w =
    let out = remove false n w in
    let p : Point = record { node = parent; offset = offset_past out parent reference n } in
    to-then 0 0 w out _ (remove-kept false n w)
    (then-to 0 0 out (try_pre_insert n parent reference out) (λ v. Ok (end_if_collapsed r p v)) (try_pre_insert-to n parent reference out) (λ v g. end_if_collapsed-kept r p v))

split_at-grown : (p : Point) (w : World) → IsGrown 1 w (split_at p w)
split_at-grown p w = grown-if 1 (is_text w p.node) w _ w (split-grown p.node p.offset w) (grown-more 0 1 (omega arith) (kept-same w))

inserted_at-to : (r n : ℕ) (p : Point) (w : World) → IsGrownTo 1 w (inserted_at r n p w)
inserted_at-to r n p w =
    unless-to 1 (check_start w p n) w _
    (unless-to 1 (check_insert w.forest (parent_at w p) n (reference_at w p)) w _
    (to-then 1 0 w (split_at p w) _ (split_at-grown p w) (placed_at-to r n (parent_at w p) (reference_child (split_at p w) n (reference_after w p)) (split_at p w))))

for_range-to : (k : ℕ) (range : Option Range) (w : World) (step : Range → Outcome) → ((x : Range) → range ≡ Some x → IsGrownTo k w (step x)) → IsGrownTo k w (for_range range (Ok w) step)
for_range-to k None w step h = grown-more 0 k (omega arith) (kept-same w)
for_range-to k (Some x) w step h = h x refl

-- an insertion takes at most one number, for the second part of a Text
pub insert_node-to : (r n : ℕ) (w : World) → IsGrownTo 1 w (insert_node r n w)
insert_node-to r n w = for_range-to 1 (range_at w r) w (λ range. inserted_at r n range.start w) (λ range e. inserted_at-to r n range.start w)

try_extract-to : (r : ℕ) (w : World) → IsGrownTo (2 * size w.forest + 3) w (try_extract r w)
try_extract-to r w = unless-to (2 * size w.forest + 3) (check_extract r w) w (λ v. Ok (extract r v)) (extract-grown r w)

try_select-to : (r n : ℕ) (w : World) → IsLiveAt w.ranges r → IsGrownTo 0 w (try_select r n w)
try_select-to r n w live = go (around w.forest n)
  where
    go : (ends : Option Range) → IsGrownTo 0 w (selected r ends w)
    go None = tt
    go (Some ends) = with_range-kept r ends w live

surrounded-to : (r n : ℕ) (range : Range) (w : World) → IsLiveAt w.ranges r → IsGrownTo (2 * size w.forest + 4) w (surrounded r n range w)
surrounded-to r n range w live =
    unless-to (2 * size w.forest + 4) (check_surround w range n) w _
    (to-more (2 * size w.forest + 3 + 1) (2 * size w.forest + 4) w _ (omega arith)
    (then-to (2 * size w.forest + 3) 1 w (try_extract r w) _ (try_extract-to r w) (λ v g. after v (live-then (2 * size w.forest + 3) r g live))))
  where
    selected_then : (v : World) → IsLiveAt v.ranges r → IsGrownTo 0 v (and_then (try_pre_insert w.made n None v) (λ v. try_select r n v))
    selected_then v k = then-to 0 0 v (try_pre_insert w.made n None v) (λ v. try_select r n v) (try_pre_insert-to w.made n None v) (λ u g. try_select-to r n u (live-then 0 r g k))

    after : (v : World) → IsLiveAt v.ranges r → IsGrownTo 1 v (and_then (insert_node r n (replace_all None n v)) (λ v. and_then (try_pre_insert w.made n None v) (λ v. try_select r n v)))
    after v k =
        let emptied = replace_all-kept None n v in
        to-then 0 1 v (replace_all None n v) _ emptied
        (then-to 1 0 (replace_all None n v) (insert_node r n (replace_all None n v)) _ (insert_node-to r n (replace_all None n v)) (λ u g. selected_then u (live-then 1 r g (live-then 0 r emptied k))))

-- a surrounding takes at most twice the nodes in use, and four
pub surround-to : (r n : ℕ) (w : World) → IsGrownTo (2 * size w.forest + 4) w (surround r n w)
surround-to r n w = for_range-to (2 * size w.forest + 4) (range_at w r) w (λ range. surrounded r n range w) (λ range e. surrounded-to r n range w (live-of (range_at w r) range e))
