-- The lists of a tree walker's moves, told along the trees of its root and its current node.
use Rattle.std.proofs.Common.{◌≡◌, ℕ, suc, ◌+◌, ◌<◌, ◌≤◌, ◌==◌, Bool, true, false, not, if◌then◌else◌, List, [], ◌∷◌, ◌++◌, drop, reverse, Some, None, refl, ap, sym, ◌∙◌, arith, append_assoc, append-nil, filter}
use Rattle.std.proofs.lemmas.List.Elements.{filter-append}
use Rattle.dom_model.specs.Definitions.{among, Node, Forest, empty, node, occurs, rows, tree_at, inclusive_descendants, Filter, rejects, rows_past, rows_up_to, unhidden, without_under, outside, following_list, preceding_list, ancestor_list, child_list, sibling_list_under}
use Rattle.dom_model.specs.Forests.Forest.{Row}
use Rattle.dom_model.proofs.Forests.{Totals.IsOnce, Totals.tree_at-absent, Totals.beside-empty, TreeOrder.Flattened.hits-numbers, Climbing.hits-first, Climbing.hits-not_among, Climbing.hits-among, Climbing.hits-ancestors, Below.Below, Below.path_below, Below.path_in_tree, Standing.Tree}
use Rattle.dom_model.proofs.Traversal.Shown.{shown, shown_after, shown_before, above, rows_after, rows_before, depth_in, IsLow, IsLow-after, unhidden-rows, unhidden-after, unhidden-before, shown_before-same, hits-above}

module _ {X : Type 0} where
  rows_past-absent : (n d : ℕ) (g : Forest X) (rs : List (Row X)) → occurs n g ≡ 0 → rows_past n (rows d g ++ rs) ≡ rows_past n rs
  rows_past-absent n d empty rs h = refl
  rows_past-absent n d (node x kids rest) rs h =
      grind (arith, append_assoc (rows (suc d) kids) (rows d rest) rs, rows_past-absent n (suc d) kids (rows d rest ++ rs), rows_past-absent n d rest rs)

  rows_past-in : (n d : ℕ) (g : Forest X) (rs : List (Row X)) (y : Node X) (under : Forest X) → occurs n g ≡ 1 → tree_at n g ≡ node y under empty → rows_past n (rows d g ++ rs) ≡ rows (suc (depth_in d n g)) under ++ (rows_after d n g ++ rs)
  rows_past-in n d empty rs y under h i = absurd (omega arith)
  rows_past-in n d (node x kids rest) rs y under h i =
      grind (
        arith,
        tree_at-absent {X = X},
        append_assoc,
        beside-empty {X = X},
        rows_past-in n (suc d) kids (rows d rest ++ rs) y under,
        rows_past-absent n,
        rows_past-in n d rest rs y under,
      )

  rows_up_to-absent : (n d : ℕ) (g : Forest X) (rs : List (Row X)) → occurs n g ≡ 0 → rows_up_to n (rows d g ++ rs) ≡ rows d g ++ rows_up_to n rs
  rows_up_to-absent n d empty rs h = refl
  rows_up_to-absent n d (node x kids rest) rs h =
      grind (arith, append_assoc, rows_up_to-absent n (suc d) kids (rows d rest ++ rs), rows_up_to-absent n d rest rs)

  rows_up_to-in : (n d : ℕ) (g : Forest X) (rs : List (Row X)) → occurs n g ≡ 1 → rows_up_to n (rows d g ++ rs) ≡ rows_before d n g
  rows_up_to-in n d empty rs h = absurd (omega arith)
  rows_up_to-in n d (node x kids rest) rs h =
      grind (arith, append_assoc, rows_up_to-in n (suc d) kids (rows d rest ++ rs), rows_up_to-absent n, rows_up_to-in n d rest rs)

  -- how often a number stands in the rows
  abbrev pub row_hits : ℕ → List (Row X) → ℕ
  row_hits n [] = 0
  row_hits n (r ∷ rs) = (if r.at.number == n then 1 else 0) + row_hits n rs

  row_hits-append : (n : ℕ) (rs qs : List (Row X)) → row_hits n (rs ++ qs) ≡ row_hits n rs + row_hits n qs
  row_hits-append n [] qs = omega arith
  row_hits-append n (r ∷ rs) qs = omega (arith, row_hits-append n rs qs)

  row_hits-rows : (n d : ℕ) (g : Forest X) → row_hits n (rows d g) ≡ occurs n g
  row_hits-rows n d empty = refl
  row_hits-rows n d (node x kids rest) = omega (arith, row_hits-append n (rows (suc d) kids) (rows d rest), row_hits-rows n (suc d) kids, row_hits-rows n d rest)

  row_hits-after : (m n d : ℕ) (g : Forest X) → occurs n g ≡ 1 → row_hits m (rows_after d n g) + occurs m (tree_at n g) ≤ occurs m g
  row_hits-after m n d empty h = absurd (omega arith)
  row_hits-after m n d (node x kids rest) h =
      grind (
        arith,
        tree_at-absent {X = X},
        row_hits-rows m,
        beside-empty {X = X},
        row_hits-append m,
        row_hits-after m n (suc d) kids,
        row_hits-after m n d rest,
      )

  all_kept : (keep : (ℕ → Bool)) (rs : List (Row X)) → ((m : ℕ) → 0 < row_hits m rs → keep m ≡ true) → filter (λ (r : Row X). keep r.at.number) rs ≡ rs
  all_kept keep [] h = refl
  all_kept keep (r ∷ rs) h = rw (h r.at.number (let k = hits-first r.at.number [] in omega arith)) (ap (λ (qs : List (Row X)). r ∷ qs) (all_kept keep rs (λ m k. h m (omega arith))))

  none_kept : (keep : (ℕ → Bool)) (rs : List (Row X)) → ((m : ℕ) → 0 < row_hits m rs → keep m ≡ false) → filter (λ (r : Row X). keep r.at.number) rs ≡ []
  none_kept keep [] h = refl
  none_kept keep (r ∷ rs) h = rw (h r.at.number (let k = hits-first r.at.number [] in omega arith)) (none_kept keep rs (λ m k. h m (omega arith)))

  IsLow-more : (d e : ℕ) (rs : List (Row X)) → d ≤ e → IsLow d rs → IsLow e rs
  IsLow-more d e [] h l = tt
  IsLow-more d e (r ∷ rs) h l = let k : r.depth ≤ d = l in omega arith

  -- firstChild
  pub child_list-tree : (f : Forest X) (filter : Filter) (n : ℕ) (t : Tree f n) → child_list f filter n ≡ shown (rejects f filter) t.kids
  child_list-tree f filter n t =
      rw t.tree (unhidden-rows (rejects f filter) None 1 t.kids [] refl tt ∙ append-nil (shown (rejects f filter) t.kids))

  -- nextNode, where the walker stands at its root
  pub following_list-root : (f : Forest X) (filter : Filter) (n : ℕ) (t : Tree f n) → following_list f filter n n ≡ shown (rejects f filter) t.kids
  following_list-root f filter n t = grind (arith, unhidden-rows (rejects f filter) None 1 t.kids, append-nil (shown (rejects f filter) t.kids))

  -- the top of the whole is not the node below it
  pub top_apart : (f : Forest X) (c n : ℕ) (b : Below f c n) → (b.whole.top.number == n) ≡ false
  top_apart f c n b = grind arith

  -- the rows of the whole that follow n: those below it, then those after it
  rows_past-below : (f : Forest X) (c n : ℕ) (b : Below f c n) → rows_past n (rows 0 (tree_at c f)) ≡ rows (suc (depth_in 1 n b.whole.kids)) b.part.kids ++ (rows_after 1 n b.whole.kids ++ [])
  rows_past-below f c n b = rw b.whole.tree (rw (top_apart f c n b) (rows_past-in n 1 b.whole.kids [] b.part.top b.part.kids b.once b.tree))

  -- nextNode below the root
  pub following_list-below : (f : Forest X) (filter : Filter) (c n : ℕ) (b : Below f c n) → following_list f filter c n ≡ shown (rejects f filter) b.part.kids ++ shown_after (rejects f filter) n b.whole.kids
  following_list-below f filter c n b =
      ap (unhidden (rejects f filter) None) (rows_past-below f c n b)
      ∙ unhidden-rows (rejects f filter) None (suc d) b.part.kids (rows_after 1 n b.whole.kids ++ []) refl (IsLow-more d (suc d) (rows_after 1 n b.whole.kids ++ []) (omega arith) (IsLow-after n 1 b.whole.kids [] b.once tt))
      ∙ ap (λ ns. shown (rejects f filter) b.part.kids ++ ns) (unhidden-after (rejects f filter) n 1 b.whole.kids [] b.once tt ∙ append-nil (shown_after (rejects f filter) n b.whole.kids))
    where
      d : ℕ
      d = depth_in 1 n b.whole.kids

  -- nextSibling, once it is known how far up it looks
  pub sibling_list-below : (f : Forest X) (filter : Filter) (c n : ℕ) (b : Below f c n) → sibling_list_under f filter n (Some c) ≡ shown_after (rejects f filter) n b.whole.kids
  sibling_list-below f filter c n b =
      ap (λ (rs : List (Row X)). without_under (rejects f filter) (outside f n rs)) (rows_past-below f c n b)
      ∙ ap (without_under (rejects f filter)) (filter-append (λ (r : Row X). keep r.at.number) (rows (suc (depth_in 1 n b.whole.kids)) b.part.kids) (rows_after 1 n b.whole.kids ++ []) ∙ ap (λ (rs : List (Row X)). rs ++ outside f n (rows_after 1 n b.whole.kids ++ [])) none ∙ all)
      ∙ unhidden-after (rejects f filter) n 1 b.whole.kids [] b.once tt
      ∙ append-nil (shown_after (rejects f filter) n b.whole.kids)
    where
      keep : ℕ → Bool
      keep m = not (among m (inclusive_descendants f n))

      none : outside f n (rows (suc (depth_in 1 n b.whole.kids)) b.part.kids) ≡ []
      none = none_kept keep (rows (suc (depth_in 1 n b.whole.kids)) b.part.kids) (λ m h. ap not (within m (let k = row_hits-rows m (suc (depth_in 1 n b.whole.kids)) b.part.kids in omega arith)))
        where
          within : (m : ℕ) → 0 < occurs m b.part.kids → among m (inclusive_descendants f n) ≡ true
          within m h = hits-among m (inclusive_descendants f n) (let k = hits-numbers m (tree_at n f) in let l = rw b.part.tree at k in rw b.part.tree (omega arith))

      all : outside f n (rows_after 1 n b.whole.kids ++ []) ≡ rows_after 1 n b.whole.kids ++ []
      all =
          all_kept keep (rows_after 1 n b.whole.kids ++ []) (λ m h.
          let i = row_hits-append m (rows_after 1 n b.whole.kids) [] in
          ap not (without m (let j = row_hits-after m n 1 b.whole.kids b.once in let k = b.kids_once m in let l : occurs m (tree_at n f) ≡ occurs m (tree_at n b.whole.kids) = ap (occurs m) (b.part.tree ∙ sym b.tree) in omega arith)))
        where
          without : (m : ℕ) → occurs m (tree_at n f) ≡ 0 → among m (inclusive_descendants f n) ≡ false
          without m h = hits-not_among m (inclusive_descendants f n) (hits-numbers m (tree_at n f) ∙ h)

  -- parentNode
  pub ancestor_list-root : (f : Forest X) (n : ℕ) (t : Tree f n) → ancestor_list f n n ≡ []
  ancestor_list-root f n t = grind arith

  pub ancestor_list-below : (f : Forest X) (c n : ℕ) (b : Below f c n) → ancestor_list f c n ≡ above n b.whole.kids ++ c ∷ []
  ancestor_list-below f c n b = ap (drop 1) (path_in_tree f c n b)

  -- previousNode
  pub preceding_list-root : (f : Forest X) (filter : Filter) (n : ℕ) (t : Tree f n) → preceding_list f filter n n ≡ []
  preceding_list-root f filter n t = grind arith

  pub preceding_list-below : (f : Forest X) → IsOnce f → (filter : Filter) (c n : ℕ) (b : Below f c n) → preceding_list f filter c n ≡ reverse (c ∷ shown_before (rejects f filter) n b.whole.kids)
  preceding_list-below f o filter c n b =
      grind (arith, unhidden-before, shown_before-same, rows_up_to-in n, hits-among, hits-ancestors c n f, path_below f o c, hits-above, hits-not_among)
