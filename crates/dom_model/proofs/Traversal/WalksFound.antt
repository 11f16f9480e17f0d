-- The steps of a tree walker find the first accepted node of their move's list, where its root is an inclusive ancestor of its current node:
-- to the parent, to the first child and to the next node. The moves that are allowed are enough.
use Rattle.std.proofs.Common.{◌≡◌, ℕ, suc, ◌+◌, ◌*◌, ◌<◌, ◌≤◌, ◌==◌, true, false, if◌then◌else◌, [], ◌∷◌, ◌++◌, Option, Some, None, refl, ap, sym, ◌∙◌, subst, arith}
use Rattle.std.specs.{Prelude.find, Option.option_or}
use Rattle.dom_model.specs.Definitions.{among, head_of, Entry, parent_in, children_in, Node, Forest, empty, node, occurs, size, tops, tree_at, ancestors, entry_in, Filter, verdict_on, accepts, rejects, leaving, ended, at_or, up_to_parent, walked, moves_allowed, parent_arrived, parent_step, parent_by_steps, first_child_arrived, past_child, first_child_step, first_child_by_steps, past_node, next_step, next_by_steps, child_list, following_list, ancestor_list}
use Rattle.dom_model.proofs.PlainLists.Numbers.{same_or, same, apart}
use Rattle.dom_model.proofs.Forests.{Totals.IsOnce, Climbing.among-hits, Climbing.hits-first, Climbing.hits-ancestors, Whereabouts.top, Whereabouts.inside, Whereabouts.beyond, Whereabouts.whereabouts, Standing.Stands, Standing.Tree, Standing.tree_of, Standing.or_none, Below.Below, Below.below, Below.occurs-tree, Below.tree-there, Below.size-ancestor, Below.no_top, Below.part_absent, Below.part_size, Below.is_apart_from, Below.at_itself}
use Rattle.dom_model.proofs.Traversal.{Shown.shown, Shown.shown_after, Shown.above, ListsOfWalks.child_list-tree, ListsOfWalks.following_list-root, ListsOfWalks.following_list-below, ListsOfWalks.ancestor_list-root, ListsOfWalks.ancestor_list-below, WalksForward.Finds, WalksForward.Finds-ended, WalksForward.Finds-more, WalksForward.Finds-leaving, WalksForward.Finds-found, WalksForward.joined, WalksForward.IsForward, WalksForward.Passes, WalksForward.through, WalksForward.on_from}

module _ {X : Type 0} (f : Forest X) (o : IsOnce f) (filter : Filter) (root current : ℕ) (within : among root (ancestors current f) ≡ true) where
  -- the current node is in the tree of the root
  pub in_tree : 0 < occurs current (tree_at root f)
  in_tree = let i = among-hits root (ancestors current f) within in let j = hits-ancestors root current f o in omega arith

  pub current_there : 0 < occurs current f
  current_there = let i = in_tree in let j = occurs-tree current root f in omega arith

  pub root_there : 0 < occurs root f
  root_there = tree-there current root f in_tree

  -- the moves are enough for the tree of the root
  pub allowed : (t : Tree f root) → 4 * (1 + size t.kids) ≤ moves_allowed f filter root current
  allowed t = grind (arith, size-ancestor filter root current root current f o, current_there, among-hits root (ancestors current f) within)

  pub allowed_there : current ≡ root → (t : Tree f current) → 4 * size t.kids ≤ moves_allowed f filter root current
  allowed_there e t = grind (arith, tree_of f o root root_there, allowed)

  pub is_apart : (n : ℕ) (g : Forest X) → occurs root g ≡ 0 → 0 < occurs n g → (n == root) ≡ false
  is_apart n g z h = is_apart_from root n g z h

  -- ParentNode
  to_parent : (p : ℕ) (passed : Option ℕ) (x : Node X) (kids rest : Forest X) → Stands (entry_in f) p passed (node x kids rest) → (x.number == root) ≡ false → parent_step f filter root current (leaving x.number) ≡ parent_arrived f filter root current p
  to_parent p passed x kids rest s t = rw t (ap (λ (e : Option (Entry (Node X))). up_to_parent (parent_arrived f filter root current) (parent_in e)) s.0)

  at_parent : (n moves : ℕ) (found : Option ℕ) → Finds (parent_step f filter root current) (leaving n) moves found → Finds (parent_step f filter root current) (parent_arrived f filter root current n) moves (option_or (find (accepts f filter) (n ∷ [])) found)
  at_parent n moves found i =
      elim (accepts f filter n) as (λ v. Finds (parent_step f filter root current) (if v then ended (Some n) else leaving n) moves (option_or (if v then Some n else None) found)) [
        | true ↦ Finds-ended (parent_step f filter root current) moves (Some n)
        | false ↦ i
      ]

  parents : (n p : ℕ) (passed : Option ℕ) (g : Forest X) (moves : ℕ) (found : Option ℕ) → Stands (entry_in f) p passed g → occurs n g ≡ 1 → occurs root g ≡ 0 → Finds (parent_step f filter root current) (parent_arrived f filter root current p) moves found → Finds (parent_step f filter root current) (leaving n) (moves + 2 * size g) (option_or (find (accepts f filter) (above n g)) found)
  parents n p passed empty moves found s h z up = absurd (omega arith)
  parents n p passed (node x kids rest) moves found s h z up =
      let far : (x.number == root) ≡ false = is_apart x.number (node x kids rest) z (let k = hits-first x.number [] in omega arith) in
      let left : Finds (parent_step f filter root current) (leaving x.number) (suc moves) found = Finds-leaving (to_parent p passed x kids rest s far) up in
      elim (whereabouts n x kids rest h) [
        | top e t zk zr ↦ rw t (Finds-more (subst (λ m. Finds (parent_step f filter root current) (leaving m) (suc moves) found) e left) (omega arith))
        | inside ne t ok zr ↦
            let zk : occurs root kids ≡ 0 = omega arith in
            let up_kids = parents n x.number None kids (suc moves) (option_or (find (accepts f filter) (x.number ∷ [])) found) s.3 ok zk (at_parent x.number (suc moves) found left) in
            let all : Finds (parent_step f filter root current) (leaving n) (moves + 2 * size (node x kids rest)) (option_or (find (accepts f filter) (above n kids)) (option_or (find (accepts f filter) (x.number ∷ [])) found)) = Finds-more up_kids (omega arith) in
            rw (t, ok) (Finds-found all (joined (accepts f filter) (above n kids) (x.number ∷ []) found))
        | beyond ne t zk or ↦
            let zr : occurs root rest ≡ 0 = omega arith in
            rw (t, zk) (Finds-more (parents n p (Some x.number) rest moves found s.4 or zr up) (omega arith))
      ]

  pub root_tree : Tree f root
  root_tree = tree_of f o root root_there

  pub from_root : (current ≡ root → ⊥) → Below f root current
  from_root ne = below f o root current in_tree (λ e. ne (sym e))

  pub parent-found : parent_by_steps f filter root current ≡ find (accepts f filter) (ancestor_list f root current)
  parent-found =
      elim (same_or current root) [
        | same e t ↦
            ap (λ n. walked (parent_step f filter root current) (moves_allowed f filter root current) (leaving n)) e
            ∙ ends.by (moves_allowed f filter root current) (let k = allowed root_tree in omega arith)
            ∙ sym (ap (find (accepts f filter)) (ap (ancestor_list f root) e ∙ ancestor_list-root f root root_tree))
        | apart ne t ↦
            let b = from_root ne in
            let i = parents current root None b.whole.kids 1 (option_or (find (accepts f filter) (root ∷ [])) None) b.whole.stands b.once b.no_top (at_parent root 1 None ends) in
            i.by (moves_allowed f filter root current) (let k = allowed b.whole in omega arith)
            ∙ joined (accepts f filter) (above current b.whole.kids) (root ∷ []) None
            ∙ or_none (find (accepts f filter) (above current b.whole.kids ++ root ∷ []))
            ∙ sym (ap (find (accepts f filter)) (ancestor_list-below f root current b))
      ]
    where
      ends : Finds (parent_step f filter root current) (leaving root) 1 None
      ends = Finds-leaving (rw (at_itself root) refl) (Finds-ended (parent_step f filter root current) 0 None)

  -- FirstChild
  first_child-forward : IsForward (entry_in f) (verdict_on f filter) (first_child_step f filter root current) (first_child_arrived f filter root current) (past_child f filter root current)
  first_child-forward = record { comes = λ n. refl; leaves = λ n. refl }

  child-found : (t : Tree f current) → occurs root t.kids ≡ 0 → 4 * size t.kids ≤ moves_allowed f filter root current → first_child_by_steps f filter root current ≡ find (accepts f filter) (child_list f filter current)
  child-found t z h =
      ap (λ (e : Option (Entry (Node X))). walked (first_child_step f filter root current) (moves_allowed f filter root current) (at_or (head_of (children_in e)) (ended None))) t.entry
      ∙ into.by (moves_allowed f filter root current) (omega arith)
      ∙ or_none (find (accepts f filter) (shown (rejects f filter) t.kids))
      ∙ sym (ap (find (accepts f filter)) (child_list-tree f filter current t))
    where
      passes : (n : ℕ) → 0 < occurs n t.kids → Passes (entry_in f) (verdict_on f filter) (first_child_step f filter root current) (first_child_arrived f filter root current) (past_child f filter root current) n
      passes n k = record { on = refl; up = λ e. rw (is_apart n t.kids z k, is_apart_from current n t.kids (no_top f o current t) k) refl }

      up : Finds (first_child_step f filter root current) (first_child_arrived f filter root current current) 0 None
      up =
          elim (same_or current root) [
            | same e v ↦ rw v (Finds-ended (first_child_step f filter root current) 0 None)
            | apart ne v ↦ rw (v, at_itself current) (Finds-ended (first_child_step f filter root current) 0 None)
          ]

      into : Finds (first_child_step f filter root current) (at_or (head_of (tops t.kids)) (ended None)) (0 + 2 * size t.kids) (option_or (find (accepts f filter) (shown (rejects f filter) t.kids)) None)
      into =
          through (entry_in f) (verdict_on f filter) (first_child_step f filter root current) (first_child_arrived f filter root current) (past_child f filter root current)
          first_child-forward current None t.kids (ended None) 0 None t.stands passes up (Finds-ended (first_child_step f filter root current) 0 None)

  pub first_child-found : first_child_by_steps f filter root current ≡ find (accepts f filter) (child_list f filter current)
  first_child-found =
      elim (same_or current root) [
        | same e t ↦
            let u = tree_of f o current current_there in
            child-found u (subst (λ n. occurs n u.kids ≡ 0) e (no_top f o current u)) (allowed_there e u)
        | apart ne t ↦
            let b = from_root ne in
            child-found b.part (part_absent f root current b) (let k = allowed b.whole in let l = part_size f root current b in omega arith)
      ]

  -- NextNode
  next-forward : IsForward (entry_in f) (verdict_on f filter) (next_step f filter root current) leaving (past_node f filter root current)
  next-forward = record { comes = λ n. refl; leaves = λ n. refl }

  next-passes : (g : Forest X) → occurs root g ≡ 0 → (n : ℕ) → 0 < occurs n g → Passes (entry_in f) (verdict_on f filter) (next_step f filter root current) leaving (past_node f filter root current) n
  next-passes g z n k = record { on = rw (is_apart n g z k) refl; up = λ e. refl }

  next-ends : Finds (next_step f filter root current) (leaving root) 1 None
  next-ends = Finds-leaving (rw (at_itself root) refl) (Finds-ended (next_step f filter root current) 0 None)

  -- into the children of the current node, and on from it
  next-into : (t : Tree f current) → occurs root t.kids ≡ 0 → (moves : ℕ) (found : Option ℕ) → Finds (next_step f filter root current) (leaving current) moves found → moves + 2 * size t.kids ≤ moves_allowed f filter root current → next_by_steps f filter root current ≡ option_or (find (accepts f filter) (shown (rejects f filter) t.kids)) found
  next-into t z moves found i h =
      ap (λ (e : Option (Entry (Node X))). walked (next_step f filter root current) (moves_allowed f filter root current) (at_or (head_of (children_in e)) (leaving current))) t.entry
      ∙ into.by (moves_allowed f filter root current) h
    where
      into : Finds (next_step f filter root current) (at_or (head_of (tops t.kids)) (leaving current)) (moves + 2 * size t.kids) (option_or (find (accepts f filter) (shown (rejects f filter) t.kids)) found)
      into =
          through (entry_in f) (verdict_on f filter) (next_step f filter root current) leaving (past_node f filter root current)
          next-forward current None t.kids (leaving current) moves found t.stands (next-passes t.kids z) i i

  pub next-found : next_by_steps f filter root current ≡ find (accepts f filter) (following_list f filter root current)
  next-found =
      elim (same_or current root) [
        | same e t ↦
            let u = tree_of f o current current_there in
            next-into u (subst (λ n. occurs n u.kids ≡ 0) e (no_top f o current u)) 1 None (subst (λ n. Finds (next_step f filter root current) (leaving n) 1 None) (sym e) next-ends) (let k = allowed_there e u in let l = allowed root_tree in omega arith)
            ∙ or_none (find (accepts f filter) (shown (rejects f filter) u.kids))
            ∙ sym (ap (find (accepts f filter)) (ap (λ n. following_list f filter n current) (sym e) ∙ following_list-root f filter current u))
        | apart ne t ↦
            let b = from_root ne in
            let i = on_from (entry_in f) (verdict_on f filter) (next_step f filter root current) leaving (past_node f filter root current)
            next-forward current root None b.whole.kids 1 None b.whole.stands b.once (next-passes b.whole.kids b.no_top) (λ m k. refl) next-ends in
            next-into b.part (part_absent f root current b) (1 + 2 * size b.whole.kids) (option_or (find (accepts f filter) (shown_after (rejects f filter) current b.whole.kids)) None) i (let k = allowed b.whole in let l = part_size f root current b in omega arith)
            ∙ joined (accepts f filter) (shown (rejects f filter) b.part.kids) (shown_after (rejects f filter) current b.whole.kids) None
            ∙ or_none (find (accepts f filter) (shown (rejects f filter) b.part.kids ++ shown_after (rejects f filter) current b.whole.kids))
            ∙ sym (ap (find (accepts f filter)) (following_list-below f filter root current b))
      ]
