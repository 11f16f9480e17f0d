-- Trees are equal where two walks in step meet like nodes in like places.
use Rattle.std.proofs.Common.{◌≡◌, ℕ, ◌<◌, ◌≤◌, Bool, true, false, not, ◌&&◌, List, [], ◌∷◌, ◌++◌, map, drop, length, Option, Some, None, is_some, refl, ap, sym, ◌∙◌, arith, append_assoc}
use Rattle.std.proofs.lemmas.{Bool.true≢false, Bool.false≢true, List.append-nil, List.map-append}
use Rattle.dom_model.specs.Definitions.{among, hits, head_of, after, from_first, is_kind, Forest, empty, node, Grove, IsForest, ancestors, one_at, occurs, tops, numbers, tree_at, entry_in, HasNode, inclusive_descendants, Content, agree, are_equal, is_equal}
use Rattle.dom_model.proofs.PlainLists.{Numbers.same_or, Numbers.same, Numbers.apart, FromFirst.from-after, FromFirst.from-last}
use Rattle.dom_model.proofs.Forests.{Totals.IsOnce, Totals.total-tree_at, Entries.occurs-HasNode, Entries.HasNode-occurs, Climbing.hits-ancestors, Climbing.hits-among, TreeOrder.Flattened.hits-numbers, TreeOrder.Stepping.after-inside, Standing.Stands, Standing.Tree, Standing.tree_of}
use Rattle.dom_clone.specs.EqualWalks.{Met, met, are_both, are_alike}

abbrev pub all_alike : List Met → List Met → Bool
all_alike [] [] = true
all_alike [] (q ∷ qs) = false
all_alike (p ∷ ps) [] = false
all_alike (p ∷ ps) (q ∷ qs) = are_alike p q && all_alike ps qs

abbrev pub has_trees : Forest Content → Bool
has_trees empty = false
has_trees (node x kids rest) = true

-- what a walk over trees meets
abbrev pub flat : Forest Content → List Met
flat empty = []
flat (node x kids rest) = record { value = Some x; has_child = has_trees kids; has_next = has_trees rest } ∷ (flat kids ++ flat rest)

-- lists of trees of which one is empty are not equal
uneven : (f g : Forest Content) → are_both (has_trees f) (has_trees g) ≡ false → are_equal f g ≡ false
uneven empty empty h = absurd (true≢false h)
uneven empty (node y others more) h = refl
uneven (node x kids rest) empty h = refl
uneven (node x kids rest) (node y others more) h = absurd (true≢false h)

joined : (a b c k r t l : Bool) → (b ≡ false → k ≡ false) → (c ≡ false → r ≡ false) → (b ≡ true → c ≡ true → l ≡ (k && (r && t))) → ((a && (b && c)) && l) ≡ ((a && (k && r)) && t)
joined false b c k r t l u v w = refl
joined true false c k r t l u v w = rw (u refl) refl
joined true true false k r t l u v w = rw (v refl) (both k)
  where
    both : (k : Bool) → false ≡ ((k && false) && t)
    both true = refl
    both false = refl
joined true true true k r t l u v w = w refl refl ∙ turned k
  where
    turned : (k : Bool) → (k && (r && t)) ≡ ((k && r) && t)
    turned true = refl
    turned false = refl

equal-flat : (f g : Forest Content) (fs gs : List Met) → are_both (has_trees f) (has_trees g) ≡ true → all_alike (flat f ++ fs) (flat g ++ gs) ≡ (are_equal f g && all_alike fs gs)
equal-flat empty empty fs gs h = refl
equal-flat empty (node y others more) fs gs h = absurd (false≢true h)
equal-flat (node x kids rest) empty fs gs h = absurd (false≢true h)
equal-flat (node x kids rest) (node y others more) fs gs h =
    joined (is_kind x.label.kind y.label.kind && agree x.label.kind x y) (are_both (has_trees kids) (has_trees others)) (are_both (has_trees rest) (has_trees more)) (are_equal kids others) (are_equal rest more) (all_alike fs gs)
    (all_alike ((flat kids ++ flat rest) ++ fs) ((flat others ++ flat more) ++ gs))
    (uneven kids others) (uneven rest more)
    (λ b c.
    ap (λ ps. all_alike ps ((flat others ++ flat more) ++ gs)) (append_assoc (flat kids) (flat rest) fs)
    ∙ ap (λ qs. all_alike (flat kids ++ (flat rest ++ fs)) qs) (append_assoc (flat others) (flat more) gs)
    ∙ equal-flat kids others (flat rest ++ fs) (flat more ++ gs) b
    ∙ ap (λ t. are_equal kids others && t) (equal-flat rest more fs gs c))

some_top : (f : Forest Content) → is_some (head_of (tops f)) ≡ has_trees f
some_top empty = refl
some_top (node x kids rest) = refl

-- the nodes of trees inside, as the walk meets them
met-flat : (f : Forest Content) (top p : ℕ) (passed : Option ℕ) (g : Forest Content) → Stands (entry_in f) p passed g → occurs top g ≡ 0 → map (met f top) (numbers g) ≡ flat g
met-flat f top p passed empty s z = refl
met-flat f top p passed (node x kids rest) s z =
    elim (same_or x.number top) [
      | same e t ↦ absurd (let k = rw t at z in omega arith)
      | apart ne t ↦
          let k = rw t at z in
          let below = met-flat f top x.number None kids s.3 (omega arith) in
          let later = met-flat f top p (Some x.number) rest s.4 (omega arith) in
          let here : met f top x.number ≡ record { value = Some x; has_child = has_trees kids; has_next = has_trees rest } =
          rw (s.1, s.0, t, some_top kids, some_top rest) refl in
          ap (λ m. m ∷ map (met f top) (numbers kids ++ numbers rest)) here
          ∙ ap (λ ms. record { value = Some x; has_child = has_trees kids; has_next = has_trees rest } ∷ ms) (map-append (met f top) (numbers kids) (numbers rest) ∙ ap (λ ms. ms ++ map (met f top) (numbers rest)) below ∙ ap (λ ms. flat kids ++ ms) later)
    ]

-- and of the tree that is walked
met-tree : (f : Forest Content) → IsOnce f → (n : ℕ) → HasNode f n → map (met f n) (inclusive_descendants f n) ≡ flat (tree_at n f)
met-tree f o n held =
    ap (λ (g : Forest Content). map (met f n) (numbers g)) t.tree ∙ whole ∙ sym (ap flat t.tree)
  where
    t : Tree f n
    t = tree_of f o n (occurs-HasNode f n held)

    none : occurs n t.kids ≡ 0
    none =
        let a = total-tree_at (one_at n) n f in
        let b = rw t.tree at a in
        let c = o n in
        elim (same_or t.top.number n) [ same e v ↦ (let d = rw v at b in omega arith) | apart ne v ↦ absurd (ne t.is_top) ]

    at_top : met f n n ≡ record { value = Some t.top; has_child = has_trees t.kids; has_next = false }
    at_top = elim (same_or n n) [ same e v ↦ rw (t.entry, v, some_top t.kids) refl | apart ne v ↦ absurd (ne refl) ]

    whole : map (met f n) (numbers (node t.top t.kids empty)) ≡ flat (node t.top t.kids empty)
    whole =
        ap (λ (m : ℕ). met f n m ∷ map (met f n) (numbers t.kids ++ [])) t.is_top
        ∙ ap (λ m. m ∷ map (met f n) (numbers t.kids ++ [])) at_top
        ∙ ap (λ ms. record { value = Some t.top; has_child = has_trees t.kids; has_next = false } ∷ ms) (map-append (met f n) (numbers t.kids) [] ∙ ap (λ ms. ms ++ []) (met-flat f n n None t.kids t.stands none))

-- two trees are equal where the walks meet alike
pub equal-walks : (f : Forest Content) → IsOnce f → (n m : ℕ) → HasNode f n → HasNode f m → is_equal f n m ≡ all_alike (map (met f n) (inclusive_descendants f n)) (map (met f m) (inclusive_descendants f m))
equal-walks f o n m hn hm =
    sym
    (ap (λ ps. all_alike ps (map (met f m) (inclusive_descendants f m))) (met-tree f o n hn)
    ∙ ap (λ qs. all_alike (flat (tree_at n f)) qs) (met-tree f o m hm)
    ∙ ap (λ ps. all_alike ps (flat (tree_at m f))) (sym (append-nil (flat (tree_at n f))))
    ∙ ap (λ qs. all_alike (flat (tree_at n f) ++ []) qs) (sym (append-nil (flat (tree_at m f))))
    ∙ equal-flat (tree_at n f) (tree_at m f) [] [] even
    ∙ and_true (are_equal (tree_at n f) (tree_at m f)))
  where
    there : (k : ℕ) → HasNode f k → has_trees (tree_at k f) ≡ true
    there k h = let t = tree_of f o k (occurs-HasNode f k h) in ap has_trees t.tree

    even : are_both (has_trees (tree_at n f)) (has_trees (tree_at m f)) ≡ true
    even = ap (λ b. are_both b (has_trees (tree_at m f))) (there n hn) ∙ there m hm

    and_true : (b : Bool) → (b && true) ≡ b
    and_true true = refl
    and_true false = refl

-- The walk itself: what is still to be met, from a number on.

-- a list from a number of it on
pub from_first-head : (n : ℕ) (ns : List ℕ) → 0 < hits n ns → from_first n ns ≡ n ∷ drop 1 (from_first n ns)
from_first-head n [] h = absurd (omega arith)
from_first-head n (x ∷ xs) h =
    elim (same_or x n) [
      | same e t ↦ rw t (ap (λ m. m ∷ xs) e)
      | apart ne t ↦ (let k = rw t at h in rw t (from_first-head n xs (omega arith)))
    ]

pub other_way : (b c : Bool) → c ≡ not b → b ≡ not c
other_way true c e = sym (ap not e)
other_way false c e = sym (ap not e)

-- two walks in step have come to these two nodes: what is still to be met decides
pub record AreWalking (f : Forest Content) (n m left right : ℕ) : Type 0 where
  pub left_inside : 0 < occurs left (tree_at n f)
  pub right_inside : 0 < occurs right (tree_at m f)
  pub verdict : is_equal f n m ≡ all_alike (map (met f n) (from_first left (inclusive_descendants f n))) (map (met f m) (from_first right (inclusive_descendants f m)))

module _ (g : Grove Content) (sound : IsForest g) where
  inside-tree : (n k : ℕ) → 0 < occurs k (tree_at n g.forest) → 0 < hits k (inclusive_descendants g.forest n)
  inside-tree n k h = rw (hits-numbers k (tree_at n g.forest)) h

  tree-once : (n k : ℕ) → hits k (inclusive_descendants g.forest n) ≤ 1
  tree-once n k = let a = total-tree_at (one_at k) n g.forest in let b = sound.once k in let c = hits-numbers k (tree_at n g.forest) in omega arith

  pub walked-held : (n k : ℕ) → 0 < occurs k (tree_at n g.forest) → HasNode g.forest k
  walked-held n k h = HasNode-occurs g.forest k (let a = total-tree_at (one_at k) n g.forest in omega arith)

  pub walked-under : (n k : ℕ) → 0 < occurs k (tree_at n g.forest) → among n (ancestors k g.forest) ≡ true
  walked-under n k h = hits-among n (ancestors k g.forest) (let a = hits-ancestors n k g.forest sound.once in omega arith)

  own-inside : (n : ℕ) → HasNode g.forest n → 0 < occurs n (tree_at n g.forest)
  own-inside n h =
      let t = tree_of g.forest sound.once n (occurs-HasNode g.forest n h) in
      rw t.tree (elim (same_or t.top.number n) [ same e v ↦ rw v (omega arith) | apart ne v ↦ absurd (ne t.is_top) ])

  from-top : (n : ℕ) → HasNode g.forest n → from_first n (inclusive_descendants g.forest n) ≡ inclusive_descendants g.forest n
  from-top n h =
      let t = tree_of g.forest sound.once n (occurs-HasNode g.forest n h) in
      rw t.tree (elim (same_or t.top.number n) [ same e v ↦ rw v refl | apart ne v ↦ absurd (ne t.is_top) ])

  pub walk-starts : (n m : ℕ) → HasNode g.forest n → HasNode g.forest m → AreWalking g.forest n m n m
  walk-starts n m hn hm = record {
    left_inside = own-inside n hn;
    right_inside = own-inside m hm;
    verdict = equal-walks g.forest sound.once n m hn hm
        ∙ ap (λ ns. all_alike (map (met g.forest n) ns) (map (met g.forest m) (inclusive_descendants g.forest m))) (sym (from-top n hn))
        ∙ ap (λ ms. all_alike (map (met g.forest n) (from_first n (inclusive_descendants g.forest n))) (map (met g.forest m) ms)) (sym (from-top m hm));
  }

  module _ (n m left right : ℕ) (w : AreWalking g.forest n m left right) where
    -- what is still to be met, where the rest of the lists is known
    opened : (xs ys : List ℕ) → from_first left (inclusive_descendants g.forest n) ≡ left ∷ xs → from_first right (inclusive_descendants g.forest m) ≡ right ∷ ys → is_equal g.forest n m ≡ (are_alike (met g.forest n left) (met g.forest m right) && all_alike (map (met g.forest n) xs) (map (met g.forest m) ys))
    opened xs ys a b =
        w.verdict
        ∙ ap (λ ns. all_alike (map (met g.forest n) ns) (map (met g.forest m) (from_first right (inclusive_descendants g.forest m)))) a
        ∙ ap (λ ms. all_alike (map (met g.forest n) (left ∷ xs)) (map (met g.forest m) ms)) b

    more : (top k c : ℕ) → after k (inclusive_descendants g.forest top) ≡ Some c → from_first k (inclusive_descendants g.forest top) ≡ k ∷ from_first c (inclusive_descendants g.forest top)
    more top k c e = from-after k c (inclusive_descendants g.forest top) (tree-once top c) e

    last : (top k : ℕ) → 0 < occurs k (tree_at top g.forest) → after k (inclusive_descendants g.forest top) ≡ None → from_first k (inclusive_descendants g.forest top) ≡ k ∷ []
    last top k h e = from-last k (inclusive_descendants g.forest top) (inside-tree top k h) e

    pub nodes_differ : are_alike (met g.forest n left) (met g.forest m right) ≡ false → false ≡ is_equal g.forest n m
    nodes_differ e =
        let ns = inclusive_descendants g.forest n in
        let ms = inclusive_descendants g.forest m in
        let o = opened (drop 1 (from_first left ns)) (drop 1 (from_first right ms)) (from_first-head left ns (inside-tree n left w.left_inside)) (from_first-head right ms (inside-tree m right w.right_inside)) in
        sym (rw e at o)

    module _ (alike : are_alike (met g.forest n left) (met g.forest m right) ≡ true) where
      both : (xs ys : List ℕ) → from_first left (inclusive_descendants g.forest n) ≡ left ∷ xs → from_first right (inclusive_descendants g.forest m) ≡ right ∷ ys → is_equal g.forest n m ≡ all_alike (map (met g.forest n) xs) (map (met g.forest m) ys)
      both xs ys a b = opened xs ys a b ∙ ap (λ t. t && all_alike (map (met g.forest n) xs) (map (met g.forest m) ys)) alike

      pub walk-goes_on : (l r : ℕ) → after left (inclusive_descendants g.forest n) ≡ Some l → after right (inclusive_descendants g.forest m) ≡ Some r → AreWalking g.forest n m l r
      walk-goes_on l r a b = record {
        left_inside = after-inside sound n left l a;
        right_inside = after-inside sound m right r b;
        verdict = both (from_first l (inclusive_descendants g.forest n)) (from_first r (inclusive_descendants g.forest m)) (more n left l a) (more m right r b);
      }

      -- the left walk has ended: both must have
      pub walk-ends : (o : Option ℕ) → after left (inclusive_descendants g.forest n) ≡ None → after right (inclusive_descendants g.forest m) ≡ o → not (is_some o) ≡ is_equal g.forest n m
      walk-ends None a b = sym (both [] [] (last n left w.left_inside a) (last m right w.right_inside b))
      walk-ends (Some r) a b =
          let ms = inclusive_descendants g.forest m in
          let there : 0 < hits r ms = inside-tree m r (after-inside sound m right r b) in
          sym (both [] (r ∷ drop 1 (from_first r ms)) (last n left w.left_inside a) (more m right r b ∙ ap (λ ks. right ∷ ks) (from_first-head r ms there)))

      -- the right walk has ended, and the left one has not
      pub walk-differs : (l : ℕ) → after left (inclusive_descendants g.forest n) ≡ Some l → after right (inclusive_descendants g.forest m) ≡ None → false ≡ is_equal g.forest n m
      walk-differs l a b =
          let ns = inclusive_descendants g.forest n in
          let there : 0 < hits l ns = inside-tree n l (after-inside sound n left l a) in
          sym (both (l ∷ drop 1 (from_first l ns)) [] (more n left l a ∙ ap (λ ks. left ∷ ks) (from_first-head l ns there)) (last m right w.right_inside b))

    -- what is still to be met grows less
    pub walk-shorter : (l : ℕ) → after left (inclusive_descendants g.forest n) ≡ Some l → length (from_first l (inclusive_descendants g.forest n)) < length (from_first left (inclusive_descendants g.forest n))
    walk-shorter l a = omega (arith, ap (λ (ks : List ℕ). length ks) (more n left l a))
