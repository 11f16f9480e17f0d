-- How many numbers a copy of a range's contents takes: at most twice the nodes in use, and two.
use Rattle.std.proofs.Common.{◌≡◌, ℕ, ◌+◌, ◌*◌, ◌-◌, ◌<◌, ◌≤◌, Bool, false, List, [], ◌∷◌, reverse, Option, Some, None, refl, ap, sym, ◌∙◌, arith, filter, unwrap_or}
use Rattle.std.proofs.lemmas.{Bool.false≢true, Bool.cond_both, Bool.Decides.nat_tests}
use Rattle.dom_model.specs.Definitions.{hits, among, head_of, up_to, Forest, empty, node, occurs, one_at, size, tree_at, children_of, ancestors, root_of, HasNode, KindsFit, IsForest, Content, Range, World, no_content, named, node_document, unit_count, node_length, length_in, is_collapsed, common_ancestor, range_at, for_range, is_in_one_data, contained_in, new_fragment, children_into, tail_into, path_below, common_of, contained_children, parts_into, contents_drawn, clone_contents, IsWay}
use Rattle.dom_model.specs.declared.Kind.TheVariants.{DocumentFragment}
use Rattle.dom_model.proofs.Forests.{Totals.IsOnce, Totals.beside-empty, Totals.total-beside, Climbing.hits-first, Climbing.hits-among, Entries.occurs-HasNode, Indices.child-listed, OneMoreRoot.more-once, OneMoreRoot.root-kinds, ForestsBeside.AreUnder, ForestsBeside.IsBelow, ForestsBeside.absent-from, ForestsBeside.ancestors-older, ForestsBeside.entry-older}
use Rattle.dom_model.proofs.RangesAndContents.{PathsApart.along, WaysBelow.way-above, WaysBelow.IsFork, WaysBelow.fork, ContainedAside.start-not_contained, ContainedAside.end-not_contained}
use Rattle.dom_model.proofs.DataAndCopies.CopiesBeside.{StandsBeside, made-beside}
use Rattle.dom_model.proofs.Counting.{CopiesCounted.tree_sizes, CopiesCounted.tail_cost, CopiesCounted.head_cost, CopiesCounted.IsCopied, CopiesCounted.copied-then, CopiesCounted.kids-same, CopiesCounted.kids-under, CopiesCounted.children-copied, CopiesCounted.tail-copied, CopiesCounted.head-copied, TreesOfChildren.kids-within, TreesOfChildren.tail-within, TreesOfChildren.head-within, CountsKept.IsGrown, CountsKept.grown-then, CountsKept.grown-more, CountsKept.grown-if, CountsKept.kept-same, CountsOfContents.size-tree_at, CountsOfContents.new_fragment-grown, CountsOfContents.units_into-grown}

-- a range as live ranges are: both ends in one tree, and the end within its node
pub record HasEnds (f : Forest Content) (r : Range) : Type 0 where
  pub start : HasNode f r.start.node
  pub end : HasNode f r.end.node
  pub one_root : root_of f r.start.node ≡ root_of f r.end.node
  pub within : r.end.offset ≤ node_length unit_count f r.end.node

-- each number stands once, below the next one, and the live ranges are in order: what a copy of contents needs, to take no more than is asked
pub record IsInOrder (w : World) : Type 0 where
  pub forest : IsForest (record { forest = w.forest; made = w.made })
  pub ends : (r : ℕ) (range : Range) → range_at w r ≡ Some range → HasEnds w.forest range

-- What a filter lets through, with some that it does not, weighs no more than the whole.

module _ (weight : ℕ → ℕ) (q : ℕ → Bool) where
  none_out : (xs : List ℕ) → along weight (filter q xs) ≤ along weight xs
  none_out [] = omega arith
  none_out (x ∷ xs) = grind (arith, none_out xs)

  one_out : (xs : List ℕ) (t : ℕ) → 0 < hits t xs → q t ≡ false → along weight (filter q xs) + weight t ≤ along weight xs
  one_out [] t h e = absurd (omega arith)
  one_out (x ∷ xs) t h e = grind (arith, nat_tests, none_out xs, one_out xs t)

  two_out : (xs : List ℕ) (t u : ℕ) → (t ≡ u → ⊥) → 0 < hits t xs → 0 < hits u xs → q t ≡ false → q u ≡ false → along weight (filter q xs) + weight t + weight u ≤ along weight xs
  two_out [] t u ne h k e d = absurd (omega arith)
  two_out (x ∷ xs) t u ne h k e d = grind (arith, nat_tests, one_out xs t, one_out xs u, two_out xs t u)

module _ (f : Forest Content) (o : IsOnce f) (n m a : ℕ) (hn : 0 < occurs n f) (hm : 0 < occurs m f) (ha : 0 < occurs a f) (q : ℕ → Bool) (above_first : (x : ℕ) → 0 < hits x (ancestors n f) → q x ≡ false) (above_second : (x : ℕ) → 0 < hits x (ancestors m f) → q x ≡ false) where
  kids-size : tree_sizes f (children_of f a) ≤ size f
  kids-size = omega (arith, kids-within f o a ha, size-tree_at a f)

  -- the parts together take at most twice the nodes
  cost-within : (x y : ℕ) (first second : List ℕ) → IsWay f a first n → IsWay f a second m → ((z : ℕ) → 0 < hits z first → among z (ancestors m f) ≡ false) →
      tail_cost f x first + tree_sizes f (filter q (children_of f a)) + head_cost f y second ≤ 2 * size f
  cost-within x y [] [] v w off = omega (arith, kids-size, none_out (λ z. size (tree_at z f)) q (children_of f a))
  cost-within x y (t ∷ first) [] v w off =
      let out = above_first t (way-above f o t first n v.0 hn v.2) in
      omega (arith, kids-size, tail-within f o x a t n first v, one_out (λ z. size (tree_at z f)) q (children_of f a) t (child-listed f o t a v.0 v.1) out)
  cost-within x y [] (u ∷ second) v w off =
      let out = above_second u (way-above f o u second m w.0 hm w.2) in
      omega (arith, kids-size, head-within f o y a u m second w, one_out (λ z. size (tree_at z f)) q (children_of f a) u (child-listed f o u a w.0 w.1) out)
  cost-within x y (t ∷ first) (u ∷ second) v w off =
      let out = above_first t (way-above f o t first n v.0 hn v.2) in
      let on = way-above f o u second m w.0 hm w.2 in
      let out2 = above_second u on in
      let ne : t ≡ u → ⊥ = λ d. false≢true (sym (off t (hits-first t first)) ∙ ap (λ z. among z (ancestors m f)) d ∙ hits-among u (ancestors m f) on) in
      omega (arith, kids-size, tail-within f o x a t n first v, head-within f o y a u m second w, two_out (λ z. size (tree_at z f)) q (children_of f a) t u ne (child-listed f o t a v.0 v.1) (child-listed f o u a w.0 w.1) out out2)

module _ (w : World) (in_order : IsInOrder w) (r : Range) (ends : HasEnds w.forest r) where
  abbrev low : ℕ
  low = w.made

  abbrev f : Forest Content
  f = w.forest

  once : IsOnce f
  once = in_order.forest.once

  below : IsBelow low f
  below = in_order.forest.small

  abbrev made : World
  made = new_fragment (node_document w r.start.node) w

  start_there : 0 < occurs r.start.node f
  start_there = occurs-HasNode f r.start.node ends.start

  end_there : 0 < occurs r.end.node f
  end_there = occurs-HasNode f r.end.node ends.end

  begun : StandsBeside f low made
  begun =
      made-beside f low below (node_document w r.start.node) _ _ w
      (record { others = empty; spelled = sym (beside-empty f); from = tt; made = omega arith })

  under : (n : ℕ) → 0 < occurs n f → n < low
  under n h = grind (arith, below n)

  same_ancestors : (n : ℕ) → 0 < occurs n f → ancestors n made.forest ≡ ancestors n f
  same_ancestors n h = ap (ancestors n) begun.spelled ∙ ancestors-older n f begun.others (absent-from low n begun.others begun.from (under n h))

  same_length : node_length unit_count made.forest r.end.node ≡ node_length unit_count f r.end.node
  same_length =
      ap (λ (g : Forest Content). node_length unit_count g r.end.node) begun.spelled
      ∙ ap (length_in unit_count) (entry-older r.end.node f begun.others (absent-from low r.end.node begun.others begun.from (under r.end.node end_there)))

  made_once : IsOnce made.forest
  made_once = more-once f once _ (below w.made (omega arith))

  made_kinds : KindsFit None made.forest
  made_kinds = root-kinds None f _ refl in_order.forest.kinds

  made_there : (n : ℕ) → 0 < occurs n f → 0 < occurs n made.forest
  made_there n h = omega (arith, total-beside (one_at n) f (node (record { number = w.made; document = node_document w r.start.node; label = named DocumentFragment []; body = no_content }) empty empty))

  abbrev common : ℕ
  common = common_of made r

  abbrev first : List ℕ
  first = path_below made.forest common r.start.node

  abbrev second : List ℕ
  second = path_below made.forest common r.end.node

  same_common : common ≡ common_ancestor f r.start.node r.end.node
  same_common =
      ap (λ ns. unwrap_or (head_of (filter (λ a. among a ns) (ancestors r.start.node made.forest))) r.start.node) (same_ancestors r.end.node end_there)
      ∙ ap (λ ns. unwrap_or (head_of (filter (λ a. among a (ancestors r.end.node f)) ns)) r.start.node) (same_ancestors r.start.node start_there)

  fork_there : IsFork f once r.start.node r.end.node common
  fork_there = rw same_common (fork f once r.start.node r.end.node start_there end_there ends.one_root)

  same_first : first ≡ path_below f common r.start.node
  same_first = ap (λ ns. reverse (up_to common ns)) (same_ancestors r.start.node start_there)

  same_second : second ≡ path_below f common r.end.node
  same_second = ap (λ ns. reverse (up_to common ns)) (same_ancestors r.end.node end_there)

  first_way : IsWay f common first r.start.node
  first_way = rw same_first fork_there.first

  second_way : IsWay f common second r.end.node
  second_way = rw same_second fork_there.second

  way-under : (u : ℕ) (ns : List ℕ) (n : ℕ) → IsWay f u ns n → AreUnder low ns
  way-under u [] n v = tt
  way-under u (m ∷ ns) n v = (under m v.0, way-under m ns n v.2)

  not_above : (n : ℕ) → 0 < hits n (ancestors r.start.node f) → contained_in made r n ≡ false
  not_above n h = start-not_contained made.forest made_once unit_count r n (made_there r.start.node start_there) (rw (same_ancestors r.start.node start_there) h)

  not_above_end : (n : ℕ) → 0 < hits n (ancestors r.end.node f) → contained_in made r n ≡ false
  not_above_end n h =
      end-not_contained made.forest made_once unit_count made_kinds r n (made_there r.end.node end_there) (rw same_length ends.within)
      (rw (same_ancestors r.end.node end_there) h)

  each-filter : (q : ℕ → Bool) (ns : List ℕ) → AreUnder low ns → AreUnder low (filter q ns)
  each-filter q [] h = tt
  each-filter q (n ∷ ns) h = cond_both (q n) _ _ (AreUnder low) (λ _. (h.0, each-filter q ns h.1)) (λ _. each-filter q ns h.1)

  abbrev parts-cost : ℕ
  parts-cost = tail_cost f r.start.offset first + tree_sizes f (filter (contained_in made r) (children_of f common)) + head_cost f r.end.offset second

  parts-within : parts-cost ≤ 2 * size f
  parts-within =
      cost-within f once r.start.node r.end.node common start_there end_there fork_there.there (contained_in made r) not_above not_above_end
      r.start.offset r.end.offset first second first_way second_way (λ z h. fork_there.off z (rw (← same_first) h))

  middle-copied : (v : World) → StandsBeside f low v → IsCopied f low below (tree_sizes f (filter (contained_in made r) (children_of f common))) v (children_into false w.made (contained_children made r) v)
  middle-copied v s =
      let e = ap (filter (contained_in made r)) (kids-same f low below common made (under common fork_there.there) begun) in
      rw e (children-copied f low below w.made (filter (contained_in made r) (children_of f common)) v (omega arith) (each-filter (contained_in made r) (children_of f common) (kids-under f low below common)) s)

  parts-copied : IsGrown parts-cost made (parts_into false w.made r made)
  parts-copied =
      let middle = tree_sizes f (filter (contained_in made r) (children_of f common)) in
      let tail = tail_cost f r.start.offset first in
      let head = head_cost f r.end.offset second in
      (copied-then f low below (tail + middle) head
      (copied-then f low below tail middle (tail-copied f low below w.made r.start.offset first made (omega arith) (way-under common first r.start.node first_way) begun)
      (λ s. middle-copied (tail_into false w.made r.start.offset first made) s))
      (λ s. head-copied f low below w.made r.end.offset second _ (omega arith) (way-under common second r.end.node second_way) s)).grown

  drawn-grown : IsGrown (2 * size f + 3) w (contents_drawn false r w)
  drawn-grown =
      let g = new_fragment-grown (node_document w r.start.node) w in
      grown-if (2 * size f + 3) (is_collapsed r) w made _ (grown-more 1 (2 * size f + 3) (omega arith) g)
      (grown-if (2 * size f + 3) (is_in_one_data w r) w _ _
      (grown-more 2 (2 * size f + 3) (omega arith) (grown-then 1 1 g (units_into-grown false w.made r.start.node r.start.offset (r.end.offset - r.start.offset) made)))
      (grown-more (1 + parts-cost) (2 * size f + 3) (omega (arith, parts-within)) (grown-then 1 parts-cost g parts-copied)))

-- a copy of contents takes at most twice the nodes in use, and three
pub clone_contents-grown : (r : ℕ) (w : World) → IsInOrder w → IsGrown (2 * size w.forest + 3) w (clone_contents r w)
clone_contents-grown r w o = go (range_at w r) refl
  where
    go : (range : Option Range) → range_at w r ≡ range → IsGrown (2 * size w.forest + 3) w (for_range range w (λ x. contents_drawn false x w))
    go None e = grown-more 0 (2 * size w.forest + 3) (omega arith) (kept-same w)
    go (Some x) e = drawn-grown w o x (o.ends r x e)
