-- How many numbers the steps on a world give out, and that none comes back.
use Rattle.std.proofs.Common.{◌≡◌, ℕ, ◌+◌, ◌<◌, ◌≤◌, Bool, true, false, if◌then◌else◌, List, [], ◌∷◌, length, Option, Some, None, refl, arith, rules, option_map}
use Rattle.std.proofs.lemmas.List.{length-map}
use Rattle.dom_model.specs.Definitions.{Forest, occurs, parent_of, children_of, Content, Point, Range, Observing, World, map_ranges, moved_range, tree_record_unless, taken_out, transients_made, removed_from, remove, remove_all, freed, emptied_fragment, is_fragment, put_in, put_all, gap_before, insert_all, insert_nodes, insert, pre_insert, append, replace, insert_if_any, replaced_record, replace_all, adopt, nodes_of, node_document, reference_child, added_by}
use Rattle.dom_model.proofs.Counting.NumbersGone.{NoneComes, none-cut, none-placed, none-adopted, AreLiveAlike, live-mapped, live-map}

-- of each kind but nodes, the same ones are there
pub record AreThereAlike (w v : World) : Type 0 where
  pub ranges : AreLiveAlike w.ranges v.ranges
  pub iterators : AreLiveAlike w.iterators v.iterators
  pub walkers : AreLiveAlike w.walkers v.walkers
  pub observers : AreLiveAlike w.observing.places v.observing.places
  pub static_ranges : AreLiveAlike w.static_ranges v.static_ranges

-- v has at most `more` node numbers more than w, and as many of every other kind; a node that is gone stays so, and of every other kind
-- the same ones are there
pub record IsGrown (more : ℕ) (w v : World) : Type 0 where
  pub least : w.made ≤ v.made
  pub most : v.made ≤ w.made + more
  pub ranges : length v.ranges ≡ length w.ranges
  pub iterators : length v.iterators ≡ length w.iterators
  pub walkers : length v.walkers ≡ length w.walkers
  pub observers : length v.observing.places ≡ length w.observing.places
  pub static_ranges : length v.static_ranges ≡ length w.static_ranges
  pub gone : (n : ℕ) → n < w.made → occurs n w.forest ≡ 0 → occurs n v.forest ≡ 0
  pub live : AreThereAlike w v

pub grown-then : {u v w : World} (j k : ℕ) → IsGrown j u v → IsGrown k v w → IsGrown (j + k) u w
grown-then j k g h = grind arith

pub grown-more : {u v : World} (j k : ℕ) → j ≤ k → IsGrown j u v → IsGrown k u v
grown-more j k l g = grind arith

pub kept-then : {u v w : World} → IsGrown 0 u v → IsGrown 0 v w → IsGrown 0 u w
kept-then g h = grown-then 0 0 g h

pub kept-same : (w : World) → IsGrown 0 w w
kept-same w = search rules

pub length-map_ranges : (move : Point → Point) (rs : List (Option Range)) → length (map_ranges move rs) ≡ length rs
length-map_ranges move rs = length-map rs (λ (r : Option Range). option_map (moved_range move) r)

pub grown-if : (more : ℕ) (b : Bool) (w u v : World) → IsGrown more w u → IsGrown more w v → IsGrown more w (if b then u else v)
grown-if more true w u v g h = g
grown-if more false w u v g h = h

pub kept-if : (b : Bool) (w u v : World) → IsGrown 0 w u → IsGrown 0 w v → IsGrown 0 w (if b then u else v)
kept-if b w u v g h = grown-if 0 b w u v g h

-- DOM Standard, "Mutation algorithms".

-- another observing part with as many observers, of which the same ones are there
pub observing-kept : (w : World) (x : Observing) → length x.places ≡ length w.observing.places → AreLiveAlike w.observing.places x.places → IsGrown 0 w (record w { observing = x })
observing-kept w x e live = search rules

-- a forest without further numbers
pub forest-kept : (w : World) (f : Forest Content) → NoneComes w.forest f → IsGrown 0 w (record w { forest = f })
forest-kept w f none = search rules

-- as many ranges, and the same ones live
pub ranges-kept : (w : World) (rs : List (Option Range)) → length rs ≡ length w.ranges → AreLiveAlike w.ranges rs → IsGrown 0 w (record w { ranges = rs })
ranges-kept w rs e live = search rules

pub moved-kept : (w : World) (move : Point → Point) → IsGrown 0 w (record w { ranges = map_ranges move w.ranges })
moved-kept w move = ranges-kept w _ (length-map_ranges move w.ranges) (live-map move w.ranges)

tree_record-kept : (b : Bool) (n : ℕ) (xs ys : List ℕ) (p q : Option ℕ) (w : World) → IsGrown 0 w (tree_record_unless b n xs ys p q w)
tree_record-kept true n xs ys p q w = kept-same w
tree_record-kept false n xs ys p q w = observing-kept w _ refl (λ r. refl)

taken_out-kept : (n parent : ℕ) (w : World) → IsGrown 0 w (taken_out n parent w)
taken_out-kept n parent w = search (rules, length-map, none-cut, live-map, live-mapped)

transients-kept : (n parent : ℕ) (w : World) → IsGrown 0 w (transients_made n parent w)
transients-kept n parent w = observing-kept w _ refl (λ r. refl)

removed_from-kept : (b : Bool) (n : ℕ) (p : Option ℕ) (w : World) → IsGrown 0 w (removed_from b n p w)
removed_from-kept b n None w = kept-same w
removed_from-kept b n (Some p) w =
    kept-then (kept-then (taken_out-kept n p w) (transients-kept n p (taken_out n p w)))
    (tree_record-kept b p [] (n ∷ []) _ _ (transients_made n p (taken_out n p w)))

pub remove-kept : (b : Bool) (n : ℕ) (w : World) → IsGrown 0 w (remove b n w)
remove-kept b n w = removed_from-kept b n (parent_of w.forest n) w

pub remove_all-kept : (ns : List ℕ) (w : World) → IsGrown 0 w (remove_all ns w)
remove_all-kept [] w = kept-same w
remove_all-kept (n ∷ ns) w = kept-then (remove-kept true n w) (remove_all-kept ns (remove true n w))

freed-kept : (n : ℕ) (nodes : List ℕ) (w : World) → IsGrown 0 w (freed n nodes w)
freed-kept n nodes w =
    kept-if (is_fragment w n) w (emptied_fragment n nodes w) (remove false n w)
    (kept-then (remove_all-kept nodes w) (observing-kept (remove_all nodes w) _ refl (λ r. refl)))
    (remove-kept false n w)

put_in-kept : (parent : ℕ) (child : Option ℕ) (n : ℕ) (w : World) → IsGrown 0 w (put_in parent child n w)
put_in-kept parent child n w = forest-kept w _ (none-placed parent n (node_document w parent) child w.forest)

put_all-kept : (parent : ℕ) (child : Option ℕ) (ns : List ℕ) (w : World) → IsGrown 0 w (put_all parent child ns w)
put_all-kept parent child [] w = kept-same w
put_all-kept parent child (n ∷ ns) w = kept-then (put_in-kept parent child n w) (put_all-kept parent child ns (put_in parent child n w))

gap_before-kept : (parent : ℕ) (child : Option ℕ) (count : ℕ) (w : World) → IsGrown 0 w (gap_before parent child count w)
gap_before-kept parent None count w = kept-same w
gap_before-kept parent (Some c) count w = moved-kept w _

insert_all-kept : (b : Bool) (parent : ℕ) (child : Option ℕ) (ns : List ℕ) (w : World) → IsGrown 0 w (insert_all b parent child ns w)
insert_all-kept b parent child ns w =
    let gapped = gap_before parent child (length ns) w in
    kept-then (gap_before-kept parent child (length ns) w) (kept-then (put_all-kept parent child ns gapped)
    (tree_record-kept b parent ns [] _ child (put_all parent child ns gapped)))

insert_nodes-kept : (b : Bool) (n parent : ℕ) (child : Option ℕ) (ns : List ℕ) (w : World) → IsGrown 0 w (insert_nodes b n parent child ns w)
insert_nodes-kept b n parent child [] w = kept-same w
insert_nodes-kept b n parent child (m ∷ ms) w =
    kept-then (freed-kept n (m ∷ ms) w) (insert_all-kept b parent child (m ∷ ms) (freed n (m ∷ ms) w))

pub insert-kept : (b : Bool) (n parent : ℕ) (child : Option ℕ) (w : World) → IsGrown 0 w (insert b n parent child w)
insert-kept b n parent child w = insert_nodes-kept b n parent child (nodes_of w n) w

pub pre_insert-kept : (n parent : ℕ) (child : Option ℕ) (w : World) → IsGrown 0 w (pre_insert n parent child w)
pre_insert-kept n parent child w = insert-kept false n parent (reference_child w n child) w

pub append-kept : (n parent : ℕ) (w : World) → IsGrown 0 w (append n parent w)
append-kept n parent w = pre_insert-kept n parent None w

pub replace-kept : (child n parent : ℕ) (w : World) → IsGrown 0 w (replace child n parent w)
replace-kept child n parent w =
    let out = remove true child w in
    kept-then (remove-kept true child w) (kept-then (insert-kept true n parent _ out) (observing-kept _ _ refl (λ r. refl)))

insert_if_any-kept : (n : Option ℕ) (parent : ℕ) (w : World) → IsGrown 0 w (insert_if_any n parent w)
insert_if_any-kept None parent w = kept-same w
insert_if_any-kept (Some n) parent w = insert-kept true n parent None w

replaced_record-kept : (parent : ℕ) (added removed : List ℕ) (w : World) → IsGrown 0 w (replaced_record parent added removed w)
replaced_record-kept parent [] [] w = kept-same w
replaced_record-kept parent [] (r ∷ rs) w = observing-kept w _ refl (λ r. refl)
replaced_record-kept parent (a ∷ others) removed w = observing-kept w _ refl (λ r. refl)

pub replace_all-kept : (n : Option ℕ) (parent : ℕ) (w : World) → IsGrown 0 w (replace_all n parent w)
replace_all-kept n parent w =
    let gone = children_of w.forest parent in
    kept-then (remove_all-kept gone w) (kept-then (insert_if_any-kept n parent (remove_all gone w))
    (replaced_record-kept parent (added_by w n) gone (insert_if_any n parent (remove_all gone w))))

pub adopt-kept : (n document : ℕ) (w : World) → IsGrown 0 w (adopt n document w)
adopt-kept n document w = let out = remove false n w in kept-then (remove-kept false n w) (forest-kept out _ (none-adopted n document out.forest))
