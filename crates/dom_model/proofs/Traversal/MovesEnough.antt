-- The moves that a walk by steps is allowed are always enough, whatever the walker's root is: it has ended then, and with more moves it finds the same.
use Rattle.std.proofs.Common.{◌≡◌, ℕ, ◌+◌, ◌*◌, ◌<◌, ◌≤◌, ◌==◌, Bool, true, false, ◌||◌, if◌then◌else◌, List, [], ◌∷◌, ◌++◌, Option, Some, None, refl, ap, sym, ◌∙◌, subst, arith, ◌⊎◌, inl, inr}
use Rattle.dom_model.specs.Definitions.{head_of, last_of, after, before, Entry, parent_in, children_in, list_under, next_in, previous_in, Node, Forest, empty, node, occurs, one_at, size, tops, tree_at, entry_in, children_of, parent_of, ancestors, root_of, Filter, verdict_on, accepts, Stand, leaving, ended, at_or, come_to, come_back_to, up_to_parent, walked, moves_allowed, parent_arrived, parent_step, first_child_arrived, past_child, first_child_step, next_sibling_arrived, past_sibling, next_sibling_step, past_node, next_step, previous_arrived, back_past_node, previous_step, parent_by_steps, first_child_by_steps, next_sibling_by_steps, next_by_steps, previous_by_steps, mirrored, Lies, HasEnded}
use Rattle.dom_model.specs.declared.{Verdict.Verdict, Verdict.TheVariants.Accept, Verdict.TheVariants.Skip, Verdict.TheVariants.Reject}
use Rattle.dom_model.proofs.PlainLists.Numbers.{same_or, same, apart}
use Rattle.dom_model.proofs.Forests.{Totals.IsOnce, Entries.Lies-entry_in, Whereabouts.top, Whereabouts.inside, Whereabouts.beyond, Whereabouts.whereabouts, Standing.Tree, Standing.tree_of, Below.Below, Below.below, Below.size-tree, Below.tree-there, Below.tree-top, Below.tree-beyond, Mirrored.IsOnce-mirrored, Mirrored.total-mirrored}
use Rattle.dom_model.proofs.Traversal.{IteratorsStay.tree_at-inside, Shown.above, Shown.ancestors-above, WalksForward.Finds, WalksForward.Finds-found, WalksMirrored.walked-agree, WalksMirrored.first-mirrored, WalksMirrored.moves-mirrored, WalksMirrored.child_step-mirrored, WalksMirrored.sibling_step-mirrored, WalksMirrored.child_steps-mirrored, WalksMirrored.sibling_steps-mirrored, WalksMirrored.last_child_step, WalksMirrored.last_child_by_steps, WalksMirrored.previous_sibling_step, WalksMirrored.previous_sibling_by_steps, EndingWalks.HasEnded-more, EndingWalks.HasEnded-agree, EndingWalks.Ends, EndingWalks.Ends-ended, EndingWalks.Ends-more, EndingWalks.Ends-leaving, EndingWalks.Ends-same, EndingWalks.EndsOr, EndingWalks.at_end, EndingWalks.goes_on, EndingWalks.Ends-or, EndingWalks.IsOnward, EndingWalks.through-ends, EndingWalks.on_from-ends, EndingWalks.Entered, EndingWalks.passed_over, EndingWalks.gone_into, EndingWalks.IsReturning, EndingWalks.back_from-ends, EndingWalks.IsClimbing, EndingWalks.climb-ends}
use Rattle.dom_model.proofs.BoundaryPoints.RootsKept.{last_of-behind}

-- a stand that a test may end
tested : (v : Bool) (found : Option ℕ) (stand : Stand) → EndsOr (if v then ended found else stand) stand
tested true found stand = at_end found refl
tested false found stand = goes_on refl

tested_back : (o : Option ℕ) (v : Bool) (stand : Stand) → EndsOr (at_or o (if v then ended None else stand)) (at_or o stand)
tested_back None true stand = at_end None refl
tested_back None false stand = goes_on refl
tested_back (Some n) v stand = goes_on refl

come : (v : Verdict) (n : ℕ) (within : Option ℕ) (onwards : Stand) → EndsOr (come_to v n within onwards) (at_or within onwards) ⊎ EndsOr (come_to v n within onwards) onwards
come Accept n within onwards = inl (at_end (Some n) refl)
come Skip n within onwards = inl (goes_on refl)
come Reject n within onwards = inr (goes_on refl)

come_back : (v : Verdict) (n : ℕ) (within : Option ℕ) (onwards : Stand) → Entered (come_back_to v n within onwards) within onwards
come_back Accept n within onwards = gone_into (ended (Some n)) (at_end (Some n) refl) refl
come_back Skip n within onwards = gone_into onwards (goes_on refl) refl
come_back Reject n within onwards = passed_over (goes_on refl)

-- the root of a node: it has no parent in the trees, and the node is in its tree
record TopOf {X : Type 0} (entry : ℕ → Option (Entry (Node X))) (up : Option ℕ) (n : ℕ) (g : Forest X) : Type 0 where
  root : ℕ
  is : root_of g n ≡ Some root
  parent : parent_in (entry root) ≡ up
  in_tree : 0 < occurs n (tree_at root g)

module _ {X : Type 0} where
  top_of : (entry : ℕ → Option (Entry (Node X))) (up : Option ℕ) (n : ℕ) (g : Forest X) → Lies entry up g → IsOnce g → occurs n g ≡ 1 → TopOf entry up n g
  top_of entry up n empty l o h = absurd (omega arith)
  top_of entry up n (node x kids rest) l o h =
      let path : (ns : List ℕ) → above n (node x kids rest) ≡ ns → ancestors n (node x kids rest) ≡ n ∷ ns = λ ns e. ancestors-above n (node x kids rest) h ∙ ap (λ ms. n ∷ ms) e in
      elim (whereabouts n x kids rest h) [
        | top e t zk zr ↦
            record {
              root = x.number;
              is = ap last_of (path [] (rw t refl)) ∙ ap (λ m. Some m) (sym e);
              parent = ap parent_in l.0;
              in_tree = rw (tree-top x.number x kids rest o refl) (rw t (omega arith));
            }
        | inside ne t ok zr ↦
            record {
              root = x.number;
              is = ap last_of (path (above n kids ++ x.number ∷ []) (rw (t, ok) refl)) ∙ last_of-behind (n ∷ above n kids) x.number [];
              parent = ap parent_in l.0;
              in_tree = rw (tree-top x.number x kids rest o refl) (omega arith);
            }
        | beyond ne t zk or ↦ further x kids rest o (ap last_of (path (above n rest) (rw (t, zk) refl) ∙ sym (ancestors-above n rest or))) (top_of entry up n rest l.2 (λ m. let i = o m in omega arith) or)
      ]
    where
      further : (x : Node X) (kids rest : Forest X) → IsOnce (node x kids rest) → root_of (node x kids rest) n ≡ root_of rest n → TopOf entry up n rest → TopOf entry up n (node x kids rest)
      further x kids rest o e r =
          record { root = r.root; is = e ∙ r.is; parent = r.parent; in_tree = rw (tree-beyond r.root x kids rest o (tree-there n r.root rest r.in_tree)) r.in_tree }

module _ {X : Type 0} (f : Forest X) (o : IsOnce f) (filter : Filter) (root current : ℕ) (there : 0 < occurs current f) where
  up_top : TopOf (entry_in f) None current f
  up_top = top_of (entry_in f) None current f (Lies-entry_in f o) o (let i = o current in omega arith)

  -- how many nodes the current node's tree has
  abbrev nodes : ℕ
  nodes = size (tree_at up_top.root f)

  enough : moves_allowed f filter root current ≡ 4 * nodes
  enough = rw up_top.is refl

  -- a walk that ends finds the same with more moves
  same_found : (step : Stand → Stand) (stand : Stand) → Ends step stand (4 * nodes) → Finds step stand (moves_allowed f filter root current) (walked step (moves_allowed f filter root current) stand)
  same_found step stand e = record { by = λ m k. let i = enough in e.finds.by m (omega arith) ∙ sym (e.finds.by (moves_allowed f filter root current) (omega arith)) }

  -- the current node is the root, or below it
  from_top : (step : Stand → Stand) → Ends step (leaving up_top.root) 1 → ((b : Below f up_top.root current) → Ends step (leaving current) (1 + 2 * size b.whole.kids)) → Ends step (leaving current) (2 * nodes)
  from_top step i j =
      elim (same_or up_top.root current) [
        | same e t ↦
            let k = ap size (tree_of f o up_top.root (tree-there current up_top.root f up_top.in_tree)).tree in
            Ends-more (subst (λ n. Ends step (leaving n) 1) e i) (omega arith)
        | apart ne t ↦
            let b = below f o up_top.root current up_top.in_tree ne in
            let k = ap size b.whole.tree in
            Ends-more (j b) (omega arith)
      ]

  current_tree : Tree f current
  current_tree = tree_of f o current there

  current_size : size current_tree.kids ≤ nodes
  current_size = grind (arith, tree_at-inside current up_top.root f o up_top.in_tree, size-tree current (tree_at up_top.root f))

  module _ (step : Stand → Stand) (arrive past : ℕ → Stand) where
    onward-leaving : IsOnward (entry_in f) step arrive past → Ends step (leaving current) (2 * nodes)
    onward-leaving w = from_top step at_top (λ b. on_from-ends (entry_in f) step arrive past w current up_top.root None b.whole.kids 1 b.whole.stands b.once (Ends-or (w.up up_top.root) at_top))
      where
        at_top : Ends step (leaving up_top.root) 1
        at_top = Ends-leaving (w.leaves up_top.root) (Ends-or (w.on up_top.root) (Ends-same (ap (λ (p : Option ℕ). at_or (after up_top.root (list_under (entry_in f) p)) (up_to_parent arrive p)) up_top.parent) (Ends-ended step 0 None)))

    -- into the children of the current node first
    onward-into : IsOnward (entry_in f) step arrive past → (other : Stand) → Ends step other (2 * nodes) → Ends step (at_or (head_of (children_of f current)) other) (4 * nodes)
    onward-into w other i =
        let c : head_of (children_of f current) ≡ head_of (tops current_tree.kids) = ap (λ (e : Option (Entry (Node X))). head_of (children_in e)) current_tree.entry in
        let j = through-ends (entry_in f) step arrive past w current None current_tree.kids other (2 * nodes) current_tree.stands (Ends-or (w.up current) (onward-leaving w)) i in
        let k = current_size in
        Ends-more (Ends-same (ap (λ (m : Option ℕ). at_or m other) c) j) (omega arith)

    returning-leaving : IsReturning (entry_in f) step arrive past → Ends step (leaving current) (2 * nodes)
    returning-leaving w = from_top step at_top (λ b. back_from-ends (entry_in f) step arrive past w current up_top.root None b.whole.kids 1 b.whole.stands b.once (Ends-or (w.up up_top.root) at_top))
      where
        at_top : Ends step (leaving up_top.root) 1
        at_top = Ends-leaving (w.leaves up_top.root) (Ends-or (w.back up_top.root) (Ends-same (ap (λ (p : Option ℕ). at_or (before up_top.root (list_under (entry_in f) p)) (up_to_parent arrive p)) up_top.parent) (Ends-ended step 0 None)))

  climbing-leaving : (step : Stand → Stand) (arrive : ℕ → Stand) → IsClimbing (entry_in f) step arrive → Ends step (leaving current) (2 * nodes)
  climbing-leaving step arrive w = from_top step at_top (λ b. climb-ends (entry_in f) step arrive w current up_top.root None b.whole.kids 1 b.whole.stands b.once (Ends-or (w.up up_top.root) at_top))
    where
      at_top : Ends step (leaving up_top.root) 1
      at_top = Ends-leaving refl (Ends-or (w.leaves up_top.root) (Ends-same (ap (up_to_parent arrive) up_top.parent) (Ends-ended step 0 None)))

  ended_allowed : (step : Stand → Stand) (stand : Stand) → Ends step stand (4 * nodes) → HasEnded step (moves_allowed f filter root current) stand
  ended_allowed step stand e = let i = enough in HasEnded-more step (4 * nodes) (moves_allowed f filter root current) stand e.ends (omega arith)

  parent-end : Ends (parent_step f filter root current) (leaving current) (4 * nodes)
  parent-end =
      Ends-more (climbing-leaving (parent_step f filter root current) (parent_arrived f filter root current)
      (record {
        leaves = λ n. tested (n == root) None (up_to_parent (parent_arrived f filter root current) (parent_of f n));
        up = λ n. tested (accepts f filter n) (Some n) (leaving n);
      })) (omega arith)

  pub parent-ends : HasEnded (parent_step f filter root current) (moves_allowed f filter root current) (leaving current)
  parent-ends = ended_allowed (parent_step f filter root current) (leaving current) parent-end

  pub parent-enough : Finds (parent_step f filter root current) (leaving current) (moves_allowed f filter root current) (parent_by_steps f filter root current)
  parent-enough = same_found (parent_step f filter root current) (leaving current) parent-end

  first_child-end : Ends (first_child_step f filter root current) (at_or (head_of (children_of f current)) (ended None)) (4 * nodes)
  first_child-end =
      onward-into (first_child_step f filter root current) (first_child_arrived f filter root current) (past_child f filter root current) (record {
        comes = λ n. come (verdict_on f filter n) n (head_of (children_of f n)) (past_child f filter root current n);
        leaves = λ n. refl;
        on = λ n. goes_on refl;
        up = λ n. tested ((n == root) || (n == current)) None (leaving n);
      }) (ended None) (Ends-ended (first_child_step f filter root current) (2 * nodes) None)

  pub first_child-ends : HasEnded (first_child_step f filter root current) (moves_allowed f filter root current) (at_or (head_of (children_of f current)) (ended None))
  first_child-ends = ended_allowed (first_child_step f filter root current) (at_or (head_of (children_of f current)) (ended None)) first_child-end

  pub first_child-enough : Finds (first_child_step f filter root current) (at_or (head_of (children_of f current)) (ended None)) (moves_allowed f filter root current) (first_child_by_steps f filter root current)
  first_child-enough = same_found (first_child_step f filter root current) (at_or (head_of (children_of f current)) (ended None)) first_child-end

  next_sibling-end : Ends (next_sibling_step f filter root current) (leaving current) (4 * nodes)
  next_sibling-end =
      Ends-more (onward-leaving (next_sibling_step f filter root current) (next_sibling_arrived f filter root current) (past_sibling f filter root current) (record {
        comes = λ n. come (verdict_on f filter n) n (head_of (children_of f n)) (past_sibling f filter root current n);
        leaves = λ n. refl;
        on = λ n. goes_on refl;
        up = λ n. tested ((n == root) || accepts f filter n) None (leaving n);
      })) (omega arith)

  pub next_sibling-ends : HasEnded (next_sibling_step f filter root current) (moves_allowed f filter root current) (leaving current)
  next_sibling-ends = ended_allowed (next_sibling_step f filter root current) (leaving current) next_sibling-end

  pub next_sibling-enough : (current == root) ≡ false → Finds (next_sibling_step f filter root current) (leaving current) (moves_allowed f filter root current) (next_sibling_by_steps f filter root current)
  next_sibling-enough off = rw off (same_found (next_sibling_step f filter root current) (leaving current) next_sibling-end)

  next-end : Ends (next_step f filter root current) (at_or (head_of (children_of f current)) (leaving current)) (4 * nodes)
  next-end =
      onward-into (next_step f filter root current) leaving (past_node f filter root current) onward (leaving current) (onward-leaving (next_step f filter root current) leaving (past_node f filter root current) onward)
    where
      onward : IsOnward (entry_in f) (next_step f filter root current) leaving (past_node f filter root current)
      onward =
          record {
            comes = λ n. come (verdict_on f filter n) n (head_of (children_of f n)) (past_node f filter root current n);
            leaves = λ n. refl;
            on = λ n. tested (n == root) None (at_or (next_in (entry_in f) n) (up_to_parent leaving (parent_of f n)));
            up = λ n. goes_on refl;
          }

  pub next-ends : HasEnded (next_step f filter root current) (moves_allowed f filter root current) (at_or (head_of (children_of f current)) (leaving current))
  next-ends = ended_allowed (next_step f filter root current) (at_or (head_of (children_of f current)) (leaving current)) next-end

  pub next-enough : Finds (next_step f filter root current) (at_or (head_of (children_of f current)) (leaving current)) (moves_allowed f filter root current) (next_by_steps f filter root current)
  next-enough = same_found (next_step f filter root current) (at_or (head_of (children_of f current)) (leaving current)) next-end

  previous-end : Ends (previous_step f filter root current) (leaving current) (4 * nodes)
  previous-end =
      Ends-more (returning-leaving (previous_step f filter root current) (previous_arrived f filter root current) (back_past_node f filter root current) (record {
        comes = λ n. come_back (verdict_on f filter n) n (last_of (children_of f n)) (back_past_node f filter root current n);
        leaves = λ n. refl;
        back = λ n. tested_back (previous_in (entry_in f) n) (n == root) (up_to_parent (previous_arrived f filter root current) (parent_of f n));
        up = λ n. arrived n (accepts f filter n);
      })) (omega arith)
    where
      arrived : (n : ℕ) (v : Bool) → EndsOr (if v then ended (Some n) else (if n == root then ended None else leaving n)) (leaving n)
      arrived n true = at_end (Some n) refl
      arrived n false = tested (n == root) None (leaving n)

  pub previous-ends : HasEnded (previous_step f filter root current) (moves_allowed f filter root current) (leaving current)
  previous-ends = ended_allowed (previous_step f filter root current) (leaving current) previous-end

  pub previous-enough : (current == root) ≡ false → Finds (previous_step f filter root current) (leaving current) (moves_allowed f filter root current) (previous_by_steps f filter root current)
  previous-enough off = rw off (same_found (previous_step f filter root current) (leaving current) previous-end)

-- the same walk by other steps that go the same way
other_steps : (s t : Stand → Stand) → ((stand : Stand) → s stand ≡ t stand) → (start other : Stand) → start ≡ other → (moves more : ℕ) → moves ≡ more → (found : Option ℕ) → Finds s start moves found → Finds t other more found
other_steps s t e start other d moves more k found i =
    record { by = λ m h. ap (walked t m) (sym d) ∙ sym (walked-agree s t e m start) ∙ i.by m (subst (λ l. l ≤ m) (sym k) h) }

module _ {X : Type 0} (f : Forest X) (o : IsOnce f) (filter : Filter) (root current : ℕ) (there : 0 < occurs current f) where
  there-mirrored : 0 < occurs current (mirrored f)
  there-mirrored = let i = total-mirrored (one_at current) f in omega arith

  pub last_child-enough : Finds (last_child_step f filter root current) (at_or (last_of (children_of f current)) (ended None)) (moves_allowed f filter root current) (last_child_by_steps f filter root current)
  last_child-enough =
      other_steps (first_child_step (mirrored f) filter root current) (last_child_step f filter root current) (child_step-mirrored f o filter root current)
      (at_or (head_of (children_of (mirrored f) current)) (ended None)) (at_or (last_of (children_of f current)) (ended None)) (ap (λ (m : Option ℕ). at_or m (ended None)) (first-mirrored f o filter current))
      (moves_allowed (mirrored f) filter root current) (moves_allowed f filter root current) (moves-mirrored f o filter root current)
      (last_child_by_steps f filter root current)
      (Finds-found (first_child-enough (mirrored f) (IsOnce-mirrored f o) filter root current there-mirrored) (child_steps-mirrored f o filter root current))

  pub previous_sibling-enough : (current == root) ≡ false → Finds (previous_sibling_step f filter root current) (leaving current) (moves_allowed f filter root current) (previous_sibling_by_steps f filter root current)
  previous_sibling-enough off =
      other_steps (next_sibling_step (mirrored f) filter root current) (previous_sibling_step f filter root current) (sibling_step-mirrored f o filter root current)
      (leaving current) (leaving current) refl
      (moves_allowed (mirrored f) filter root current) (moves_allowed f filter root current) (moves-mirrored f o filter root current)
      (previous_sibling_by_steps f filter root current)
      (Finds-found (next_sibling-enough (mirrored f) (IsOnce-mirrored f o) filter root current there-mirrored off) (sibling_steps-mirrored f o filter root current))

  pub last_child-ends : HasEnded (last_child_step f filter root current) (moves_allowed f filter root current) (at_or (last_of (children_of f current)) (ended None))
  last_child-ends =
      subst (λ moves. HasEnded (last_child_step f filter root current) moves (at_or (last_of (children_of f current)) (ended None))) (moves-mirrored f o filter root current)
      (subst (λ (m : Option ℕ). HasEnded (last_child_step f filter root current) (moves_allowed (mirrored f) filter root current) (at_or m (ended None))) (first-mirrored f o filter current)
      (HasEnded-agree (first_child_step (mirrored f) filter root current) (last_child_step f filter root current) (child_step-mirrored f o filter root current) (moves_allowed (mirrored f) filter root current)
      (at_or (head_of (children_of (mirrored f) current)) (ended None)) (first_child-ends (mirrored f) (IsOnce-mirrored f o) filter root current there-mirrored)))

  pub previous_sibling-ends : HasEnded (previous_sibling_step f filter root current) (moves_allowed f filter root current) (leaving current)
  previous_sibling-ends =
      subst (λ moves. HasEnded (previous_sibling_step f filter root current) moves (leaving current)) (moves-mirrored f o filter root current)
      (HasEnded-agree (next_sibling_step (mirrored f) filter root current) (previous_sibling_step f filter root current) (sibling_step-mirrored f o filter root current) (moves_allowed (mirrored f) filter root current)
      (leaving current) (next_sibling-ends (mirrored f) (IsOnce-mirrored f o) filter root current there-mirrored))

-- no more moves than four for each node there is
pub moves-bounded : {X : Type 0} (f : Forest X) (filter : Filter) (root current : ℕ) → moves_allowed f filter root current ≤ 4 * size f
moves-bounded f filter root current = grind (arith, size-tree)
