-- Walks backwards: the steps in the mirrored forest are steps to last children and previous siblings in the forest itself.
use Rattle.std.proofs.Common.{arith, ◌≡◌, ℕ, zero, suc, ◌==◌, Bool, true, ◌||◌, if◌then◌else◌, List, [], ◌∷◌, Option, Some, None, refl, ap, ◌∙◌, find}
use Rattle.dom_model.specs.Definitions.{among, head_of, last_of, Forest, parent_of, children_of, previous_of, ancestors, Filter, Walker, is_accept, verdict_on, accepts, Stand, at, leaving, ended, at_or, come_to, up_to_parent, walked, moves_allowed, last_child, first_child_arrived, past_child, first_child_step, first_child_by_steps, next_sibling_arrived, past_sibling, next_sibling_step, next_sibling_by_steps, mirrored, child_list, sibling_list, walk_list, found_by_steps, walk_found}
use Rattle.dom_model.specs.declared.{Move.Move, Move.TheVariants.ParentNode, Move.TheVariants.FirstChild, Move.TheVariants.LastChild, Move.TheVariants.PreviousSibling, Move.TheVariants.NextSibling, Move.TheVariants.PreviousNode, Move.TheVariants.NextNode}
use Rattle.dom_model.proofs.Forests.{Totals.IsOnce, Mirrored.head_of-reverse, Mirrored.total-mirrored, Mirrored.IsOnce-mirrored, Mirrored.tree-mirrored, Mirrored.parent-mirrored, Mirrored.children-mirrored, Mirrored.verdict-mirrored, Mirrored.next-mirrored, Mirrored.ancestors-mirrored}
use Rattle.dom_model.proofs.Traversal.{WalksFound.parent-found, WalksFound.first_child-found, WalksFound.next-found, WalksToSiblings.next_sibling-found, WalksBackward.previous-found}

find-agree : (p q : ℕ → Bool) → ((n : ℕ) → p n ≡ q n) → (ns : List ℕ) → find p ns ≡ find q ns
find-agree p q e [] = refl
find-agree p q e (n ∷ ns) = rw (e n, find-agree p q e ns) refl

pub walked-agree : (s t : Stand → Stand) → ((stand : Stand) → s stand ≡ t stand) → (moves : ℕ) (stand : Stand) → walked s moves stand ≡ walked t moves stand
walked-agree s t e moves (ended found) = refl
walked-agree s t e zero (at n) = refl
walked-agree s t e zero (leaving n) = refl
walked-agree s t e (suc moves) (at n) = ap (walked s moves) (e (at n)) ∙ walked-agree s t e moves (t (at n))
walked-agree s t e (suc moves) (leaving n) = ap (walked s moves) (e (leaving n)) ∙ walked-agree s t e moves (t (leaving n))

up-agree : (a b : ℕ → Stand) → ((n : ℕ) → a n ≡ b n) → (p : Option ℕ) → up_to_parent a p ≡ up_to_parent b p
up-agree a b e None = refl
up-agree a b e (Some p) = e p

module _ {X : Type 0} (f : Forest X) (filter : Filter) (root current : ℕ) where
  -- lastChild: what is under the current node, from its end, until the walk comes up to it or to the root
  abbrev pub past_child_back : ℕ → Stand
  past_child_back n = at_or (previous_of f n) (up_to_parent (first_child_arrived f filter root current) (parent_of f n))

  abbrev pub last_child_step : Stand → Stand
  last_child_step (at n) = come_to (verdict_on f filter n) n (last_child f filter root current n) (past_child_back n)
  last_child_step (leaving n) = past_child_back n
  last_child_step (ended found) = ended found

  abbrev pub last_child_by_steps : Option ℕ
  last_child_by_steps = walked last_child_step (moves_allowed f filter root current) (at_or (last_child f filter root current current) (ended None))

  -- previousSibling: back to the siblings and into their ends, and up only through nodes that are not accepted
  abbrev pub past_sibling_back : ℕ → Stand
  past_sibling_back n = at_or (previous_of f n) (up_to_parent (next_sibling_arrived f filter root current) (parent_of f n))

  abbrev pub previous_sibling_step : Stand → Stand
  previous_sibling_step (at n) = come_to (verdict_on f filter n) n (last_child f filter root current n) (past_sibling_back n)
  previous_sibling_step (leaving n) = past_sibling_back n
  previous_sibling_step (ended found) = ended found

  abbrev pub previous_sibling_by_steps : Option ℕ
  previous_sibling_by_steps = if current == root then None else walked previous_sibling_step (moves_allowed f filter root current) (leaving current)

module _ {X : Type 0} (f : Forest X) (o : IsOnce f) (filter : Filter) where
  pub accepts-mirrored : (n : ℕ) → accepts (mirrored f) filter n ≡ accepts f filter n
  accepts-mirrored n = ap is_accept (verdict-mirrored f o filter n)

  pub first-mirrored : (n : ℕ) → head_of (children_of (mirrored f) n) ≡ last_of (children_of f n)
  first-mirrored n = ap head_of (children-mirrored f o n) ∙ head_of-reverse (children_of f n)

  module _ (root current : ℕ) where
    pub moves-mirrored : moves_allowed (mirrored f) filter root current ≡ moves_allowed f filter root current
    moves-mirrored = grind (arith, ancestors-mirrored current f o, tree-mirrored, total-mirrored)

    past_child-mirrored : (n : ℕ) → past_child (mirrored f) filter root current n ≡ past_child_back f filter root current n
    past_child-mirrored n = grind (arith, next-mirrored f o n, parent-mirrored f o n)

    pub child_step-mirrored : (stand : Stand) → first_child_step (mirrored f) filter root current stand ≡ last_child_step f filter root current stand
    child_step-mirrored (at n) = grind (arith, verdict-mirrored f o filter n, first-mirrored n, past_child-mirrored n)
    child_step-mirrored (leaving n) = past_child-mirrored n
    child_step-mirrored (ended found) = refl

    -- the steps to the first child, mirrored, are the steps to the last child
    pub child_steps-mirrored : first_child_by_steps (mirrored f) filter root current ≡ last_child_by_steps f filter root current
    child_steps-mirrored =
        walked-agree (first_child_step (mirrored f) filter root current) (last_child_step f filter root current) child_step-mirrored (moves_allowed (mirrored f) filter root current) (at_or (head_of (children_of (mirrored f) current)) (ended None))
        ∙ ap (λ (m : Option ℕ). walked (last_child_step f filter root current) (moves_allowed (mirrored f) filter root current) (at_or m (ended None))) (first-mirrored current)
        ∙ ap (λ k. walked (last_child_step f filter root current) k (at_or (last_of (children_of f current)) (ended None))) moves-mirrored

    arrived-mirrored : (n : ℕ) → next_sibling_arrived (mirrored f) filter root current n ≡ next_sibling_arrived f filter root current n
    arrived-mirrored n = ap (λ (v : Bool). if (n == root) || v then ended None else leaving n) (accepts-mirrored n)

    past_sibling-mirrored : (n : ℕ) → past_sibling (mirrored f) filter root current n ≡ past_sibling_back f filter root current n
    past_sibling-mirrored n =
        ap (λ (m : Option ℕ). at_or m (up_to_parent (next_sibling_arrived (mirrored f) filter root current) (parent_of (mirrored f) n))) (next-mirrored f o n)
        ∙ ap (λ (p : Option ℕ). at_or (previous_of f n) (up_to_parent (next_sibling_arrived (mirrored f) filter root current) p)) (parent-mirrored f o n)
        ∙ ap (at_or (previous_of f n)) (up-agree (next_sibling_arrived (mirrored f) filter root current) (next_sibling_arrived f filter root current) arrived-mirrored (parent_of f n))

    pub sibling_step-mirrored : (stand : Stand) → next_sibling_step (mirrored f) filter root current stand ≡ previous_sibling_step f filter root current stand
    sibling_step-mirrored (at n) = grind (arith, verdict-mirrored f o filter n, first-mirrored n, past_sibling-mirrored n)
    sibling_step-mirrored (leaving n) = past_sibling-mirrored n
    sibling_step-mirrored (ended found) = refl

    -- the steps to the next sibling, mirrored, are the steps to the previous sibling
    pub sibling_steps-mirrored : next_sibling_by_steps (mirrored f) filter root current ≡ previous_sibling_by_steps f filter root current
    sibling_steps-mirrored =
        ap (λ (r : Option ℕ). if current == root then None else r)
        (walked-agree (next_sibling_step (mirrored f) filter root current) (previous_sibling_step f filter root current) sibling_step-mirrored (moves_allowed (mirrored f) filter root current) (leaving current)
        ∙ ap (λ k. walked (previous_sibling_step f filter root current) k (leaving current)) moves-mirrored)

    module _ (within : among root (ancestors current f) ≡ true) where
      within-mirrored : among root (ancestors current (mirrored f)) ≡ true
      within-mirrored = ap (among root) (ancestors-mirrored current f o) ∙ within

      -- LastChild
      pub last_child-found : first_child_by_steps (mirrored f) filter root current ≡ find (accepts f filter) (child_list (mirrored f) filter current)
      last_child-found =
          first_child-found (mirrored f) (IsOnce-mirrored f o) filter root current within-mirrored
          ∙ find-agree (accepts (mirrored f) filter) (accepts f filter) accepts-mirrored (child_list (mirrored f) filter current)

      -- PreviousSibling
      pub previous_sibling-found : next_sibling_by_steps (mirrored f) filter root current ≡ find (accepts f filter) (sibling_list (mirrored f) filter root current)
      previous_sibling-found =
          next_sibling-found (mirrored f) (IsOnce-mirrored f o) filter root current within-mirrored
          ∙ find-agree (accepts (mirrored f) filter) (accepts f filter) accepts-mirrored (sibling_list (mirrored f) filter root current)

module _ {X : Type 0} (f : Forest X) (o : IsOnce f) where
  -- the steps of each move find the first accepted node of its list, where the root is an inclusive ancestor of the current node
  pub steps-found : (move : Move) (filter : Filter) (root current : ℕ) → among root (ancestors current f) ≡ true → found_by_steps move f filter root current ≡ find (accepts f filter) (walk_list move f filter root current)
  steps-found ParentNode filter root current within = parent-found f o filter root current within
  steps-found FirstChild filter root current within = first_child-found f o filter root current within
  steps-found LastChild filter root current within = last_child-found f o filter root current within
  steps-found PreviousSibling filter root current within = previous_sibling-found f o filter root current within
  steps-found NextSibling filter root current within = next_sibling-found f o filter root current within
  steps-found PreviousNode filter root current within = previous-found f o filter root current within
  steps-found NextNode filter root current within = next-found f o filter root current within

  -- so a walk is found by steps, whatever its root is
  pub walk-by_steps : (move : Move) (w : Walker) → walk_found move f w ≡ found_by_steps move f w.filter w.root w.current
  walk-by_steps move w = grind (arith, steps-found move w.filter w.root w.current)
