-- Each node that a walk lists, or comes to step by step, is a node of the forest. DOM Standard, "Interface TreeWalker".
use Rattle.std.proofs.Common.{◌≡◌, ℕ, suc, ◌<◌, ◌≤◌, ◌==◌, Bool, true, false, ◌||◌, if◌then◌else◌, List, [], ◌∷◌, map, filter, find, drop, Option, Some, None, refl, arith, zero, IfSome, sym, subst}
use Rattle.std.proofs.lemmas.List.{map-append}
use Rattle.dom_model.specs.Definitions.{hits, head_of, last_of, after, before, before_from, Forest, empty, node, total, occurs, one_at, rows, tree_at, ancestors, entry_in, parent_of, children_of, next_of, previous_of, Content, Filter, accepts, rejects, verdict_on, mirrored, rows_past, rows_up_to, unhidden, following_list, preceding_list, ancestor_list, child_list, sibling_list_under, walk_list, found_by_steps, list_under, Stand, at, leaving, ended, at_or, come_to, come_back_to, up_to_parent, walked, parent_arrived, parent_step, first_child_arrived, past_child, first_child_step, next_sibling_arrived, past_sibling, next_sibling_step, past_node, next_step, previous_arrived, back_past_node, previous_step, moves_allowed, next_sibling_by_steps, previous_by_steps}
use Rattle.dom_model.specs.declared.{Move.Move, Move.TheVariants.ParentNode, Move.TheVariants.FirstChild, Move.TheVariants.LastChild, Move.TheVariants.PreviousSibling, Move.TheVariants.NextSibling, Move.TheVariants.PreviousNode, Move.TheVariants.NextNode, Verdict.Verdict, Verdict.TheVariants.Accept, Verdict.TheVariants.Skip, Verdict.TheVariants.Reject}
use Rattle.dom_model.specs.Forests.Forest.{Row}
use Rattle.dom_model.proofs.PlainLists.{Numbers.same_or, Numbers.same, Numbers.apart, Members.hits-last_of}
use Rattle.dom_model.proofs.Forests.{Totals.total-beside, Totals.total-tree_at, Climbing.hits-append, Climbing.hits-reverse, PutBack.hits-head_of, PutBack.hits-after, Indices.child-there, Paths.parent-path}
use Rattle.dom_model.proofs.Worlds.Parts.{path-there, hits-dropped}
use Rattle.dom_model.proofs.Soundness.SoundWorlds.{child_there}

-- how often a number stands in rows
abbrev row_numbers : List (Row Content) → List ℕ
row_numbers rs = map (λ (r : Row Content). r.at.number) rs

rows-occurs : (x d : ℕ) (f : Forest Content) → hits x (row_numbers (rows d f)) ≡ occurs x f
rows-occurs x d empty = refl
rows-occurs x d (node y kids rest) =
    grind (arith, map-append, hits-append x (row_numbers (rows (suc d) kids)) (row_numbers (rows d rest)), rows-occurs x (suc d) kids, rows-occurs x d rest)

unhidden-rows : (x : ℕ) (shut : ℕ → Bool) (hidden : Option ℕ) (rs : List (Row Content)) → hits x (unhidden shut hidden rs) ≤ hits x (row_numbers rs)
unhidden-rows x shut hidden [] = omega arith
unhidden-rows x shut hidden (r ∷ rs) =
    grind (arith, unhidden-rows x shut hidden rs, unhidden-rows x shut (if shut r.at.number then Some r.depth else None) rs)

past-rows : (x n : ℕ) (rs : List (Row Content)) → hits x (row_numbers (rows_past n rs)) ≤ hits x (row_numbers rs)
past-rows x n [] = omega arith
past-rows x n (r ∷ rs) = grind (arith, past-rows x n rs)

up_to-rows : (x n : ℕ) (rs : List (Row Content)) → hits x (row_numbers (rows_up_to n rs)) ≤ hits x (row_numbers rs)
up_to-rows x n [] = omega arith
up_to-rows x n (r ∷ rs) = grind (arith, up_to-rows x n rs)

filter-rows : (x : ℕ) (p : Row Content → Bool) (rs : List (Row Content)) → hits x (row_numbers (filter p rs)) ≤ hits x (row_numbers rs)
filter-rows x p [] = omega arith
filter-rows x p (r ∷ rs) = grind (arith, filter-rows x p rs)

pub total-mirrored : (weight : ℕ → ℕ) (f : Forest Content) → total weight (mirrored f) ≡ total weight f
total-mirrored weight empty = refl
total-mirrored weight (node y kids rest) =
    grind (arith, total-beside weight (mirrored rest) (node y (mirrored kids) empty), total-mirrored weight kids, total-mirrored weight rest)

-- Each list is part of the forest.

module _ (f : Forest Content) (o : (m : ℕ) → occurs m f ≤ 1) (filter : Filter) where
  in_tree : (x n : ℕ) → hits x (row_numbers (rows 0 (tree_at n f))) ≤ occurs x f
  in_tree x n = let i = rows-occurs x 0 (tree_at n f) in let t = total-tree_at (one_at x) n f in omega arith

  ancestors_there : (x root current : ℕ) → 0 < hits x (ancestor_list f root current) → 0 < occurs x f
  ancestors_there x root current h =
      let t = total-tree_at (one_at x) root f in
      let k = path-there (tree_at root f) (λ m. let i = o m in let u = total-tree_at (one_at m) root f in omega arith) current x (let i = hits-dropped x (ancestors current (tree_at root f)) in omega arith) in
      omega arith

  children_there : (x current : ℕ) → 0 < hits x (child_list f filter current) → 0 < occurs x f
  children_there x current h = grind (arith, unhidden-rows x (rejects f filter) None (drop 1 (rows 0 (tree_at current f))), in_tree x current)

  siblings_there : (x current : ℕ) (top : Option ℕ) → 0 < hits x (sibling_list_under f filter current top) → 0 < occurs x f
  siblings_there x current None h = absurd (omega arith)
  siblings_there x current (Some top) h = grind (arith, unhidden-rows x, filter-rows, past-rows, in_tree)

  preceding_there : (x root current : ℕ) → 0 < hits x (preceding_list f filter root current) → 0 < occurs x f
  preceding_there x root current h = grind (arith, hits-reverse x, unhidden-rows x, up_to-rows x current (rows 0 (tree_at root f)), in_tree x root)

  following_there : (x root current : ℕ) → 0 < hits x (following_list f filter root current) → 0 < occurs x f
  following_there x root current h = grind (arith, unhidden-rows x, past-rows, in_tree)

pub listed_there : (move : Move) (f : Forest Content) → ((m : ℕ) → occurs m f ≤ 1) → (filter : Filter) (root current x : ℕ) → 0 < hits x (walk_list move f filter root current) → 0 < occurs x f
listed_there ParentNode f o filter root current x h = ancestors_there f o filter x root current h
listed_there FirstChild f o filter root current x h = children_there f o filter x current h
listed_there LastChild f o filter root current x h = grind (arith, children_there (mirrored f), total-mirrored)
listed_there PreviousSibling f o filter root current x h = grind (arith, siblings_there, total-mirrored)
listed_there NextSibling f o filter root current x h = siblings_there f o filter x current (find (λ n. (n == root) || accepts f filter n) (ancestor_list f root current)) h
listed_there PreviousNode f o filter root current x h = preceding_there f o filter x root current h
listed_there NextNode f o filter root current x h = following_there f o filter x root current h

hits-before : (passed : Option ℕ) (c : ℕ) (ns : List ℕ) (b : ℕ) → before_from passed c ns ≡ Some b → IfSome passed (λ p. 0 < hits b ns → 0 < hits b ns) → (passed ≡ Some b → ⊥) → 0 < hits b ns
hits-before passed c [] b e t ne = absurd (cc e)
hits-before passed c (n ∷ ns) b e t ne =
    elim (same_or n c) [
      | same d u ↦ (let k = rw u at e in absurd (ne k))
      | apart nc u ↦
          let k = rw u at e in
          elim (same_or n b) [
            | same d v ↦ rw v (omega arith)
            | apart nb v ↦ (let i = hits-before (Some n) c ns b k (λ h. h) (λ p. nb (cc p)) in omega arith)
          ]
    ]

module _ (f : Forest Content) (o : (m : ℕ) → occurs m f ≤ 1) where
  abbrev pub IsThere : Option ℕ → Type 0
  IsThere found = IfSome found (λ n. 0 < occurs n f)

  -- where a walk stands, or what it found
  abbrev Stands : Stand → Type 0
  Stands (at n) = 0 < occurs n f
  Stands (leaving n) = 0 < occurs n f
  Stands (ended found) = IsThere found

  parent_there : (n : ℕ) → IsThere (parent_of f n)
  parent_there n = go (parent_of f n) refl
    where
      go : (p : Option ℕ) → parent_of f n ≡ p → IsThere p
      go None e = tt
      go (Some p) e = (parent-path f o n p (child_there f n p e) e).0

  -- what is found among children is there
  among_children : (q : Option ℕ) (found : List ℕ → Option ℕ) → ((ns : List ℕ) (x : ℕ) → found ns ≡ Some x → 0 < hits x ns) → found [] ≡ None → IsThere (found (list_under (entry_in f) q))
  among_children None found listed none = subst IsThere (sym none) tt
  among_children (Some q) found listed none = go (found (children_of f q)) refl
    where
      go : (x : Option ℕ) → found (children_of f q) ≡ x → IsThere x
      go None e = tt
      go (Some x) e = child-there f o x q (listed (children_of f q) x e)

  next_there : (n : ℕ) → IsThere (next_of f n)
  next_there n = among_children (parent_of f n) (after n) (λ ns x e. hits-after n ns x e) refl

  previous_there : (n : ℕ) → IsThere (previous_of f n)
  previous_there n = among_children (parent_of f n) (before n) (λ ns x e. hits-before None n ns x e tt (λ k. cc k)) refl

  head_there : (n : ℕ) → IsThere (head_of (children_of f n))
  head_there n = among_children (Some n) head_of (λ ns x e. hits-head_of ns x e) refl

  last_there : (n : ℕ) → IsThere (last_of (children_of f n))
  last_there n = among_children (Some n) last_of (λ ns x e. hits-last_of ns x e) refl

  at_or_stands : (x : Option ℕ) (other : Stand) → IsThere x → Stands other → Stands (at_or x other)
  at_or_stands None other h k = k
  at_or_stands (Some n) other h k = h

  come_to_stands : (v : Verdict) (n : ℕ) (inside : Option ℕ) (onwards : Stand) → 0 < occurs n f → IsThere inside → Stands onwards → Stands (come_to v n inside onwards)
  come_to_stands Accept n inside onwards h i k = h
  come_to_stands Skip n inside onwards h i k = at_or_stands inside onwards i k
  come_to_stands Reject n inside onwards h i k = k

  come_back_stands : (v : Verdict) (n : ℕ) (inside : Option ℕ) (onwards : Stand) → 0 < occurs n f → IsThere inside → Stands onwards → Stands (come_back_to v n inside onwards)
  come_back_stands Accept n inside onwards h i k = at_or_stands inside (ended (Some n)) i h
  come_back_stands Skip n inside onwards h i k = at_or_stands inside onwards i k
  come_back_stands Reject n inside onwards h i k = k

  up_stands : (arrive : ℕ → Stand) (p : Option ℕ) → ((n : ℕ) → 0 < occurs n f → Stands (arrive n)) → IsThere p → Stands (up_to_parent arrive p)
  up_stands arrive None k h = tt
  up_stands arrive (Some p) k h = k p h

  either : (v : Bool) (s t : Stand) → Stands s → Stands t → Stands (if v then s else t)
  either true s t h k = h
  either false s t h k = k

  -- a walk whose steps stand ends at a node of the forest, or at none
  walked_there : (step : Stand → Stand) → ((s : Stand) → Stands s → Stands (step s)) → (moves : ℕ) (s : Stand) → Stands s → IsThere (walked step moves s)
  walked_there step keeps zero (ended found) h = h
  walked_there step keeps (suc moves) (ended found) h = h
  walked_there step keeps zero (at n) h = tt
  walked_there step keeps zero (leaving n) h = tt
  walked_there step keeps (suc moves) (at n) h = walked_there step keeps moves (step (at n)) (keeps (at n) h)
  walked_there step keeps (suc moves) (leaving n) h = walked_there step keeps moves (step (leaving n)) (keeps (leaving n) h)

  module _ (filter : Filter) (root current : ℕ) where
    parent_keeps : (s : Stand) → Stands s → Stands (parent_step f filter root current s)
    parent_keeps (at n) h = tt
    parent_keeps (leaving n) h = either (n == root) (ended None) _ tt (up_stands (parent_arrived f filter root current) (parent_of f n) (λ p k. either (accepts f filter p) (ended (Some p)) (leaving p) k k) (parent_there n))
    parent_keeps (ended found) h = h

    past_child_stands : (n : ℕ) → Stands (past_child f filter root current n)
    past_child_stands n =
        at_or_stands (next_of f n) _ (next_there n)
        (up_stands (first_child_arrived f filter root current) (parent_of f n) (λ p k. either ((p == root) || (p == current)) (ended None) (leaving p) tt k) (parent_there n))

    first_child_keeps : (s : Stand) → Stands s → Stands (first_child_step f filter root current s)
    first_child_keeps (at n) h = come_to_stands (verdict_on f filter n) n (head_of (children_of f n)) (past_child f filter root current n) h (head_there n) (past_child_stands n)
    first_child_keeps (leaving n) h = past_child_stands n
    first_child_keeps (ended found) h = h

    past_sibling_stands : (n : ℕ) → Stands (past_sibling f filter root current n)
    past_sibling_stands n =
        at_or_stands (next_of f n) _ (next_there n)
        (up_stands (next_sibling_arrived f filter root current) (parent_of f n) (λ p k. either ((p == root) || accepts f filter p) (ended None) (leaving p) tt k) (parent_there n))

    next_sibling_keeps : (s : Stand) → Stands s → Stands (next_sibling_step f filter root current s)
    next_sibling_keeps (at n) h = come_to_stands (verdict_on f filter n) n (head_of (children_of f n)) (past_sibling f filter root current n) h (head_there n) (past_sibling_stands n)
    next_sibling_keeps (leaving n) h = past_sibling_stands n
    next_sibling_keeps (ended found) h = h

    past_node_stands : (n : ℕ) → Stands (past_node f filter root current n)
    past_node_stands n =
        either (n == root) (ended None) _ tt (at_or_stands (next_of f n) _ (next_there n) (up_stands leaving (parent_of f n) (λ p k. k) (parent_there n)))

    next_keeps : (s : Stand) → Stands s → Stands (next_step f filter root current s)
    next_keeps (at n) h = come_to_stands (verdict_on f filter n) n (head_of (children_of f n)) (past_node f filter root current n) h (head_there n) (past_node_stands n)
    next_keeps (leaving n) h = past_node_stands n
    next_keeps (ended found) h = h

    previous_arrived_stands : (p : ℕ) → 0 < occurs p f → Stands (previous_arrived f filter root current p)
    previous_arrived_stands p h = either (accepts f filter p) (ended (Some p)) _ h (either (p == root) (ended None) (leaving p) tt h)

    back_past_stands : (n : ℕ) → Stands (back_past_node f filter root current n)
    back_past_stands n =
        at_or_stands (previous_of f n) _ (previous_there n)
        (either (n == root) (ended None) _ tt (up_stands (previous_arrived f filter root current) (parent_of f n) previous_arrived_stands (parent_there n)))

    previous_keeps : (s : Stand) → Stands s → Stands (previous_step f filter root current s)
    previous_keeps (at n) h = come_back_stands (verdict_on f filter n) n (last_of (children_of f n)) (back_past_node f filter root current n) h (last_there n) (back_past_stands n)
    previous_keeps (leaving n) h = back_past_stands n
    previous_keeps (ended found) h = h

    first_child_found : 0 < occurs current f → IsThere (walked (first_child_step f filter root current) (moves_allowed f filter root current) (at_or (head_of (children_of f current)) (ended None)))
    first_child_found h = walked_there _ first_child_keeps (moves_allowed f filter root current) _ (at_or_stands (head_of (children_of f current)) (ended None) (head_there current) tt)

    -- at the root nothing is found
    unless_at_root : (at_root : Bool) (x : Option ℕ) → IsThere x → IsThere (if at_root then None else x)
    unless_at_root true x h = tt
    unless_at_root false x h = h

    next_sibling_found : 0 < occurs current f → IsThere (next_sibling_by_steps f filter root current)
    next_sibling_found h =
        unless_at_root (current == root) (walked (next_sibling_step f filter root current) (moves_allowed f filter root current) (leaving current)) (walked_there _ next_sibling_keeps (moves_allowed f filter root current) (leaving current) h)

    previous_found : 0 < occurs current f → IsThere (previous_by_steps f filter root current)
    previous_found h =
        unless_at_root (current == root) (walked (previous_step f filter root current) (moves_allowed f filter root current) (leaving current)) (walked_there _ previous_keeps (moves_allowed f filter root current) (leaving current) h)

found_in_mirror : (f : Forest Content) (x : Option ℕ) → IfSome x (λ n. 0 < occurs n (mirrored f)) → IfSome x (λ n. 0 < occurs n f)
found_in_mirror f None h = tt
found_in_mirror f (Some n) h = let e = total-mirrored (one_at n) f in omega arith

pub steps_there : (move : Move) (f : Forest Content) → ((m : ℕ) → occurs m f ≤ 1) → (filter : Filter) (root current : ℕ) → 0 < occurs current f → IfSome (found_by_steps move f filter root current) (λ n. 0 < occurs n f)
steps_there ParentNode f o filter root current h = walked_there f o _ (parent_keeps f o filter root current) (moves_allowed f filter root current) (leaving current) h
steps_there FirstChild f o filter root current h = first_child_found f o filter root current h
steps_there LastChild f o filter root current h =
    found_in_mirror f _ (first_child_found (mirrored f) (λ m. let i = o m in let e = total-mirrored (one_at m) f in omega arith) filter root current (let e = total-mirrored (one_at current) f in omega arith))
steps_there PreviousSibling f o filter root current h =
    found_in_mirror f _ (next_sibling_found (mirrored f) (λ m. let i = o m in let e = total-mirrored (one_at m) f in omega arith) filter root current (let e = total-mirrored (one_at current) f in omega arith))
steps_there NextSibling f o filter root current h = next_sibling_found f o filter root current h
steps_there PreviousNode f o filter root current h = previous_found f o filter root current h
steps_there NextNode f o filter root current h =
    walked_there f o _ (next_keeps f o filter root current) (moves_allowed f filter root current) _ (at_or_stands f o (head_of (children_of f current)) (leaving current) (head_there f o current) h)
