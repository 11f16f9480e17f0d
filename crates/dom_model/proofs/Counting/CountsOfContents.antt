-- How many numbers copies and the contents of a range take.
use Rattle.std.proofs.Common.{◌≡◌, ℕ, ◌+◌, ◌*◌, ◌-◌, ◌≤◌, Bool, true, false, List, [], ◌∷◌, length, take, drop, Option, Some, None, refl, ◌∙◌, arith, rules}
use Rattle.std.proofs.lemmas.List.{length-set}
use Rattle.dom_model.specs.Definitions.{is_character_data, Node, Forest, empty, node, size, map_nodes, children_of, tree_at, substring, Content, Range, World, no_content, past, up_to, kind_passes, append, node_document, with_range, collapsed_at, is_collapsed, range_at, data_of, with_data, remove_each, alone_of, original, renumbered, with_copies, document_of_clone, clone_node, import_node, for_range, is_in_one_data, cut_from, cut_up_to, contained_tops, new_place, deleted_between, deleted, delete_contents, new_fragment, clone_with, cut_if, units_into, children_into, copy_into, tail_into, head_into}
use Rattle.dom_model.proofs.Counting.{CountsKept.IsGrown, CountsKept.grown-then, CountsKept.grown-more, CountsKept.kept-then, CountsKept.kept-same, CountsKept.grown-if, CountsKept.kept-if, CountsKept.ranges-kept, CountsKept.append-kept, CountsOfData.made_node-grown, CountsOfData.replace_data-kept, CountsOfData.remove_each-kept, NumbersGone.IsLiveAt, NumbersGone.none-beside, NumbersGone.live-of, NumbersGone.live-set}
use Rattle.dom_model.proofs.Forests.Totals.{total-tree_at}
use Rattle.dom_model.proofs.Soundness.SoundMaking.{once-renumbered}

pub with_copies-grown : (document : ℕ) (copied : Forest Content) (w : World) → IsGrown (size copied) w (with_copies document copied w)
with_copies-grown document copied w =
    let gone = none-beside w.made w.forest (renumbered document w.made copied) (λ n l. (once-renumbered document w.made copied n).1 l) in
    search rules

module _ {X : Type 0} where
  pub size-alone : (f : Forest X) → size (alone_of f) ≤ 1
  size-alone empty = omega arith
  size-alone (node x kids rest) = omega arith

  pub size-tree_at : (n : ℕ) (f : Forest X) → size (tree_at n f) ≤ size f
  size-tree_at n f = omega (arith, total-tree_at (λ _. 1) n f)

  -- a copy of one node has one number
  pub size-original : (deep : Bool) (n : ℕ) (f : Forest X) → size (original deep n f) ≤ 1 + size f
  size-original true n f = omega (arith, size-tree_at n f)
  size-original false n f = omega (arith, size-alone (tree_at n f))

  pub size-map_nodes : (h : Node X → Node X) (f : Forest X) → size (map_nodes h f) ≡ size f
  size-map_nodes h empty = refl
  size-map_nodes h (node x kids rest) = omega (arith, size-map_nodes h kids, size-map_nodes h rest)

-- a copy of a node, with its descendants or without, takes at most one number more than there are nodes
pub clone-grown : (deep : Bool) (n : ℕ) (w : World) → IsGrown (1 + size w.forest) w (clone_node deep n w)
clone-grown deep n w = grown-more _ (1 + size w.forest) (size-original deep n w.forest) (with_copies-grown (document_of_clone w n) (original deep n w.forest) w)

pub import-grown : (document : ℕ) (deep : Bool) (n : ℕ) (w : World) → IsGrown (1 + size w.forest) w (import_node document deep n w)
import-grown document deep n w = grown-more _ (1 + size w.forest) (size-original deep n w.forest) (with_copies-grown document (original deep n w.forest) w)

pub clone_alone-grown : (n : ℕ) (w : World) → IsGrown 1 w (clone_node false n w)
clone_alone-grown n w = grown-more _ 1 (size-alone (tree_at n w.forest)) (with_copies-grown (document_of_clone w n) (original false n w.forest) w)

clone_with-grown : (units : List ℕ) (n : ℕ) (w : World) → IsGrown 1 w (clone_with units n w)
clone_with-grown units n w =
    grown-more _ 1 (omega (arith, size-map_nodes (with_data units) (original false n w.forest), size-alone (tree_at n w.forest)))
    (with_copies-grown (node_document w n) (map_nodes (with_data units) (original false n w.forest)) w)

-- Deleting makes no node. DOM Standard, "Interface Range".

-- a live range is set
pub with_range-kept : (r : ℕ) (range : Range) (w : World) → IsLiveAt w.ranges r → IsGrown 0 w (with_range r range w)
with_range-kept r range w live = ranges-kept w _ (length-set w.ranges r (Some range)) (live-set w.ranges r range live)

-- it stays one
pub live-then : {w v : World} (more r : ℕ) → IsGrown more w v → IsLiveAt w.ranges r → IsLiveAt v.ranges r
live-then more r g live = g.live.ranges r ∙ live

cut_from-kept : (n offset : ℕ) (w : World) → IsGrown 0 w (cut_from n offset w)
cut_from-kept n offset w = kept-if (kind_passes is_character_data w.forest n) w _ w (replace_data-kept n offset (length (data_of w n) - offset) [] w) (kept-same w)

cut_up_to-kept : (n offset : ℕ) (w : World) → IsGrown 0 w (cut_up_to n offset w)
cut_up_to-kept n offset w = kept-if (kind_passes is_character_data w.forest n) w _ w (replace_data-kept n 0 offset [] w) (kept-same w)

deleted_between-kept : (r : ℕ) (range : Range) (w : World) → IsLiveAt w.ranges r → IsGrown 0 w (deleted_between r range w)
deleted_between-kept r range w live =
    let first = cut_from range.start.node range.start.offset w in
    let middle = remove_each (contained_tops w range) first in
    let last = cut_up_to range.end.node range.end.offset middle in
    let cut : IsGrown 0 w last = kept-then (cut_from-kept range.start.node range.start.offset w) (kept-then (remove_each-kept (contained_tops w range) first) (cut_up_to-kept range.end.node range.end.offset middle)) in
    kept-then cut (with_range-kept r (collapsed_at (new_place w.forest range)) last (live-then 0 r cut live))

deleted-kept : (r : ℕ) (range : Range) (w : World) → IsLiveAt w.ranges r → IsGrown 0 w (deleted r range w)
deleted-kept r range w live =
    kept-if (is_collapsed range) w w _ (kept-same w)
    (kept-if (is_in_one_data w range) w _ _ (replace_data-kept range.start.node range.start.offset (range.end.offset - range.start.offset) [] w)
    (deleted_between-kept r range w live))

pub for_range-grown : (more : ℕ) (range : Option Range) (w : World) (step : Range → World) → ((x : Range) → range ≡ Some x → IsGrown more w (step x)) → IsGrown more w (for_range range w step)
for_range-grown more None w step h = grown-more 0 more (omega arith) (kept-same w)
for_range-grown more (Some x) w step h = h x refl

pub delete_contents-kept : (r : ℕ) (w : World) → IsGrown 0 w (delete_contents r w)
delete_contents-kept r w = for_range-grown 0 (range_at w r) w (λ range. deleted r range w) (λ range e. deleted-kept r range w (live-of (range_at w r) range e))

-- The parts that are moved or copied.

pub new_fragment-grown : (document : ℕ) (w : World) → IsGrown 1 w (new_fragment document w)
new_fragment-grown document w = made_node-grown document _ no_content w

cut_if-kept : (moves : Bool) (n offset count : ℕ) (w : World) → IsGrown 0 w (cut_if moves n offset count w)
cut_if-kept false n offset count w = kept-same w
cut_if-kept true n offset count w = replace_data-kept n offset count [] w

pub units_into-grown : (moves : Bool) (into n offset count : ℕ) (w : World) → IsGrown 1 w (units_into moves into n offset count w)
units_into-grown moves into n offset count w =
    let copied = clone_with (substring offset count (data_of w n)) n w in
    grown-then 1 0 (clone_with-grown (substring offset count (data_of w n)) n w)
    (kept-then (append-kept w.made into copied) (cut_if-kept moves n offset count (append w.made into copied)))

-- a copy and a further fragment, and what fills it
pub copy_into-grown : (more : ℕ) (into n : ℕ) (fill : ℕ → World → World) (w : World) → ((inner : ℕ) (v : World) → IsGrown more v (fill inner v)) → IsGrown (2 + more) w (copy_into into n fill w)
copy_into-grown more into n fill w h =
    let held = append w.made into (clone_node false n w) in
    let begun = new_fragment (node_document w n) held in
    let g : IsGrown 2 w begun = grown-then 1 1 (clone_alone-grown n w) (grown-then 0 1 (append-kept w.made into (clone_node false n w)) (new_fragment-grown (node_document w n) held)) in
    grown-more (2 + more + 0) (2 + more) (omega arith)
    (grown-then (2 + more) 0 (grown-then 2 more g (h held.made begun)) (append-kept held.made w.made (fill held.made begun)))

pub children_moved-kept : (into : ℕ) (ns : List ℕ) (w : World) → IsGrown 0 w (children_into true into ns w)
children_moved-kept into [] w = kept-same w
children_moved-kept into (n ∷ ns) w = kept-then (append-kept n into w) (children_moved-kept into ns (append n into w))

-- of each node on the path a copy and a fragment
pub tail_moved-grown : (into offset : ℕ) (path : List ℕ) (w : World) → IsGrown (2 * length path) w (tail_into true into offset path w)
tail_moved-grown into offset [] w = kept-same w
tail_moved-grown into offset (n ∷ []) w =
    grown-if 2 (kind_passes is_character_data w.forest n) w _ _
    (grown-more 1 2 (omega arith) (units_into-grown true into n offset (length (data_of w n) - offset) w))
    (copy_into-grown 0 into n _ w (λ inner v. children_moved-kept inner (drop offset (children_of w.forest n)) v))
tail_moved-grown into offset (n ∷ m ∷ path) w =
    grown-more (2 + 2 * length (m ∷ path)) (2 * length (n ∷ m ∷ path)) (omega arith)
    (copy_into-grown (2 * length (m ∷ path)) into n _ w
    (λ inner v. grown-more (2 * length (m ∷ path) + 0) (2 * length (m ∷ path)) (omega arith)
    (grown-then (2 * length (m ∷ path)) 0 (tail_moved-grown inner offset (m ∷ path) v)
    (children_moved-kept inner (past m (children_of w.forest n)) (tail_into true inner offset (m ∷ path) v)))))

pub head_moved-grown : (into offset : ℕ) (path : List ℕ) (w : World) → IsGrown (2 * length path) w (head_into true into offset path w)
head_moved-grown into offset [] w = kept-same w
head_moved-grown into offset (n ∷ []) w =
    grown-if 2 (kind_passes is_character_data w.forest n) w _ _
    (grown-more 1 2 (omega arith) (units_into-grown true into n 0 offset w))
    (copy_into-grown 0 into n _ w (λ inner v. children_moved-kept inner (take offset (children_of w.forest n)) v))
head_moved-grown into offset (n ∷ m ∷ path) w =
    grown-more (2 + 2 * length (m ∷ path)) (2 * length (n ∷ m ∷ path)) (omega arith)
    (copy_into-grown (2 * length (m ∷ path)) into n _ w
    (λ inner v. grown-more (0 + 2 * length (m ∷ path)) (2 * length (m ∷ path)) (omega arith)
    (grown-then 0 (2 * length (m ∷ path)) (children_moved-kept inner (up_to m (children_of w.forest n)) v)
    (head_moved-grown inner offset (m ∷ path) (children_into true inner (up_to m (children_of w.forest n)) v)))))
