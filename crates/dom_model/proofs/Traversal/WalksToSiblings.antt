-- The steps of a tree walker to the next sibling find the first accepted node of the move's list, where its root is an inclusive ancestor of its current node.
use Rattle.std.proofs.Common.{◌≡◌, ℕ, ◌+◌, ◌*◌, ◌<◌, ◌≤◌, ◌==◌, Bool, true, false, ◌||◌, if◌then◌else◌, List, [], ◌∷◌, ◌++◌, Option, Some, None, refl, ap, sym, ◌∙◌, subst, arith, ⊎_elim}
use Rattle.std.specs.{Prelude.find, Option.option_or}
use Rattle.std.proofs.lemmas.{Bool.Decides.nat_tests, Bool.false≢true, Bool.cases_Bool, List.Folds.find-append}
use Rattle.dom_model.specs.Definitions.{hits, among, Forest, empty, node, occurs, size, tree_at, ancestors, entry_in, Filter, verdict_on, accepts, rejects, leaving, ended, walked, moves_allowed, next_sibling_arrived, past_sibling, next_sibling_step, next_sibling_by_steps, sibling_list, sibling_list_under}
use Rattle.dom_model.proofs.Forests.{Totals.IsOnce, Totals.beside-empty, Changes.seen, Changes.nothing, Changes.just, Climbing.hits-append, Climbing.hits-first, Climbing.hits-ancestors, Standing.or_none, Below.Below, Below.below, Below.occurs-tree, Below.size-tree, Below.path_through_tree, Below.kids_total, Below.is_apart_from, Below.at_itself}
use Rattle.dom_model.proofs.Traversal.{IteratorsStay.tree_at-inside, Shown.shown_after, Shown.above, Shown.hits-above, Shown.ancestors-above, ListsOfWalks.top_apart, ListsOfWalks.ancestor_list-below, ListsOfWalks.sibling_list-below, WalksForward.Finds, WalksForward.Finds-ended, WalksForward.Finds-same, WalksForward.IsForward, WalksForward.Passes, WalksForward.on_from, WalksFound.allowed, WalksFound.root_tree, WalksFound.from_root}

-- what is found passes the test and stands in the list
pub find-holds : (test : ℕ → Bool) (ns : List ℕ) (t : ℕ) → find test ns ≡ Some t → (test t ≡ true) × (0 < hits t ns)
find-holds test [] t e = absurd (cc e)
find-holds test (n ∷ ns) t e =
    ⊎_elim
    (λ (i : test n ≡ true).
    let k = rw i at e in
    let d : n ≡ t = cc k in
    (subst (λ m. test m ≡ true) d i, subst (λ m. 0 < hits m (n ∷ ns)) d (hits-first n ns)))
    (λ (i : test n ≡ false).
    let k = rw i at e in
    let w = find-holds test ns t k in
    (w.0, let j = w.1 in omega arith))
    (cases_Bool (test n))

-- where nothing is found, nothing passes
pub find-none : (test : ℕ → Bool) (ns : List ℕ) (m : ℕ) → find test ns ≡ None → 0 < hits m ns → test m ≡ false
find-none test [] m e h = absurd (omega arith)
find-none test (n ∷ ns) m e h = grind (arith, find-none test ns m)

-- nothing is found ahead of what is found
find-ahead : (test : ℕ → Bool) (ns ms : List ℕ) (t : ℕ) → find test (ns ++ t ∷ ms) ≡ Some t → hits t ns ≡ 0 → find test ns ≡ None
find-ahead test ns ms t e z =
    elim (seen (find test ns)) [
      | nothing i ↦ i
      | just u i ↦
          let k = rw (find-append test ns (t ∷ ms), i) at e in
          let d : u ≡ t = cc k in
          let w = find-holds test ns u i in
          absurd (let j = subst (λ m. 0 < hits m ns) d w.1 in omega arith)
    ]

module _ {X : Type 0} (f : Forest X) (o : IsOnce f) (filter : Filter) (root current : ℕ) (within : among root (ancestors current f) ≡ true) where
  -- a walk to a sibling goes up no further than to such a node
  abbrev stops : ℕ → Bool
  stops n = (n == root) || accepts f filter n

  sibling-forward : IsForward (entry_in f) (verdict_on f filter) (next_sibling_step f filter root current) (next_sibling_arrived f filter root current) (past_sibling f filter root current)
  sibling-forward = record { comes = λ n. refl; leaves = λ n. refl }

  sibling-passes : (g : Forest X) → occurs root g ≡ 0 → (n : ℕ) → 0 < occurs n g → Passes (entry_in f) (verdict_on f filter) (next_sibling_step f filter root current) (next_sibling_arrived f filter root current) (past_sibling f filter root current) n
  sibling-passes g z n k = record { on = refl; up = λ e. rw (is_apart_from root n g z k, e) refl }

  -- the walk up to a node where it stops, and no sooner
  up_to_stop : (t : ℕ) (b : Below f t current) → stops t ≡ true → ((m : ℕ) → 0 < hits m (above current b.whole.kids) → stops m ≡ false) → occurs root b.whole.kids ≡ 0 → 2 * size b.whole.kids ≤ moves_allowed f filter root current → walked (next_sibling_step f filter root current) (moves_allowed f filter root current) (leaving current) ≡ find (accepts f filter) (sibling_list_under f filter current (Some t))
  up_to_stop t b s free z h =
      on.by (moves_allowed f filter root current) (omega arith)
      ∙ or_none (find (accepts f filter) (shown_after (rejects f filter) current b.whole.kids))
      ∙ sym (ap (find (accepts f filter)) (sibling_list-below f filter t current b))
    where
      on : Finds (next_sibling_step f filter root current) (leaving current) (0 + 2 * size b.whole.kids) (option_or (find (accepts f filter) (shown_after (rejects f filter) current b.whole.kids)) None)
      on =
          on_from (entry_in f) (verdict_on f filter) (next_sibling_step f filter root current) (next_sibling_arrived f filter root current) (past_sibling f filter root current)
          sibling-forward current t None b.whole.kids 0 None b.whole.stands b.once (sibling-passes b.whole.kids z)
          (λ m k. ap (λ (v : Bool). if v then ended None else leaving m) (free m k))
          (Finds-same (ap (λ (v : Bool). if v then ended None else leaving t) s) (Finds-ended (next_sibling_step f filter root current) 0 None))

  -- the tree of the root
  module _ (b : Below f root current) where
    abbrev tree : Forest X
    tree = node b.whole.top b.whole.kids empty

    above_tree : above current tree ≡ above current b.whole.kids ++ root ∷ []
    above_tree = rw (top_apart f root current b, b.once) (ap (λ m. above current b.whole.kids ++ m ∷ []) b.whole.is_top)

    current_once : occurs current tree ≡ 1
    current_once = let i = b.once in let j = kids_total f o root b.whole current in omega arith

    tree_in : (t : ℕ) → 0 < hits t (above current tree) → tree_at t tree ≡ tree_at t f
    tree_in t h =
        let i = hits-above t current tree current_once in
        let j : 0 < occurs t (tree_at root f) = rw b.whole.tree (omega arith) in
        let k = tree_at-inside t root f o j in
        rw b.whole.tree at k

    path : (t : ℕ) → hits t (current ∷ above current tree) ≡ occurs current (tree_at t tree)
    path t = ap (hits t) (sym (ancestors-above current tree current_once)) ∙ hits-ancestors t current tree (kids_total f o root b.whole)

    -- an ancestor in it, and the current node below that
    below_ancestor : (t : ℕ) → 0 < hits t (above current tree) → Below f t current
    below_ancestor t h =
        below f o t current
        (rw (sym (tree_in t h)) (let i = path t in omega arith))
        (λ e. let i = path current in let j = occurs-tree current current tree in let k = current_once in let l = subst (λ m. 0 < hits m (above current tree)) e h in let m = rw (at_itself current) at i in omega arith)

    part_size : (t : ℕ) → (h : 0 < hits t (above current tree)) → size (below_ancestor t h).whole.kids ≤ size tree
    part_size t h = let i = size-tree t tree in let j = rw (tree_in t h, (below_ancestor t h).whole.tree) at i in omega arith

    part_root : (t : ℕ) → (h : 0 < hits t (above current tree)) → occurs root (below_ancestor t h).whole.kids ≡ 0
    part_root t h = grind (arith, beside-empty (tree_at t b.whole.kids), tree_in t h, occurs-tree root t b.whole.kids)

    part_free : (t : ℕ) → (h : 0 < hits t (above current tree)) → find stops (above current tree) ≡ Some t → (m : ℕ) → 0 < hits m (above current (below_ancestor t h).whole.kids) → stops m ≡ false
    part_free t h e m k =
        find-none stops (above current c.whole.kids) m
        (find-ahead stops (above current c.whole.kids) through.0 t (ap (find stops) (sym through.1) ∙ e) (let i = hits-above t current c.whole.kids c.once in let j = c.no_top in omega arith))
        k
      where
        c : Below f t current
        c = below_ancestor t h

        through : (ms : List ℕ) × (above current tree ≡ above current c.whole.kids ++ t ∷ ms)
        through = path_through_tree current t tree c.whole.top c.whole.kids (kids_total f o root b.whole) current_once (tree_in t h ∙ c.whole.tree) c.once

    sibling-found_below : walked (next_sibling_step f filter root current) (moves_allowed f filter root current) (leaving current) ≡ find (accepts f filter) (sibling_list f filter root current)
    sibling-found_below =
        elim (seen (find stops (above current tree))) [
          | nothing e ↦
              let i = hits-append root (above current b.whole.kids) (root ∷ []) in
              let j = hits-first root [] in
              let k : 0 < hits root (above current tree) = rw above_tree (omega arith) in
              let l = rw (at_itself root) at (find-none stops (above current tree) root e k) in
              absurd (false≢true (sym l))
          | just t e ↦
              let w = find-holds stops (above current tree) t e in
              up_to_stop t (below_ancestor t w.1) w.0 (part_free t w.1 e) (part_root t w.1) (let i = part_size t w.1 in let j = allowed f o filter root current within b.whole in omega arith)
              ∙ sym (ap (λ (m : Option ℕ). find (accepts f filter) (sibling_list_under f filter current m)) (ap (find stops) (ancestor_list-below f root current b ∙ sym above_tree) ∙ e))
        ]

  pub next_sibling-found : next_sibling_by_steps f filter root current ≡ find (accepts f filter) (sibling_list f filter root current)
  next_sibling-found = grind (arith, nat_tests, root_tree f o filter root current within, sibling-found_below, from_root f o filter root current within)
