-- The walks of a tree walker, step by step. DOM Standard, "Interface TreeWalker".
-- Walks takes them where the root is no inclusive ancestor of the current node: such a walker was set outside its root,
-- or the tree was moved around it. Elsewhere they find what the lists of Walks say.
-- Ours: a walk makes at most four moves for each node of the current node's tree, which is always enough,
-- and a walk to the next node that runs out of nodes finds none.
use Rattle.std.specs.Prelude.{ℕ, zero, suc, ◌*◌, ◌==◌, ◌||◌, if◌then◌else◌, Option, Some, None}
use Rattle.dom_model.specs.declared.Verdict.{Verdict}
use Rattle.dom_model.specs.declared.Verdict.TheVariants.{Accept, Skip, Reject}
use Rattle.dom_model.specs.PlainLists.Lists.{head_of, last_of}
use Rattle.dom_model.specs.Forests.Forest.{Forest, tree_at, size, parent_of, children_of, next_of, previous_of, root_of}
use Rattle.dom_model.specs.Worlds.World.{Filter}
use Rattle.dom_model.specs.Traversal.Filters.{verdict_on, accepts}

-- where a walk stands: at a node that it has come to, at one whose inside it has left behind, or at its end with what it found
pub data Stand : Type 0 where
  at : ℕ → Stand
  leaving : ℕ → Stand
  ended : Option ℕ → Stand

-- on to a node, where there is one
abbrev pub at_or : Option ℕ → Stand → Stand
at_or None other = other
at_or (Some n) other = at n

-- a node that is come to ends the walk where it is accepted; one that is skipped is gone into, one that is rejected is not
abbrev pub come_to : Verdict → ℕ → Option ℕ → Stand → Stand
come_to Accept n inside onwards = ended (Some n)
come_to Skip n inside onwards = at_or inside onwards
come_to Reject n inside onwards = onwards

-- backwards, a node that is not rejected is gone into first
abbrev pub come_back_to : Verdict → ℕ → Option ℕ → Stand → Stand
come_back_to Accept n inside onwards = at_or inside (ended (Some n))
come_back_to Skip n inside onwards = at_or inside onwards
come_back_to Reject n inside onwards = onwards

-- up to the parent, where there is one
abbrev pub up_to_parent : (ℕ → Stand) → Option ℕ → Stand
up_to_parent arrive None = ended None
up_to_parent arrive (Some p) = arrive p

-- at most so many moves from where the walk stands
abbrev pub walked : (Stand → Stand) → ℕ → Stand → Option ℕ
walked step moves (ended found) = found
walked step zero (at n) = None
walked step zero (leaving n) = None
walked step (suc moves) (at n) = walked step moves (step (at n))
walked step (suc moves) (leaving n) = walked step moves (step (leaving n))

module _ {X : Type 0} (f : Forest X) (filter : Filter) (root current : ℕ) where
  abbrev pub first_child : ℕ → Option ℕ
  first_child n = head_of (children_of f n)

  abbrev pub last_child : ℕ → Option ℕ
  last_child n = last_of (children_of f n)

  -- parentNode: the ancestors one after another
  abbrev pub parent_arrived : ℕ → Stand
  parent_arrived p = if accepts f filter p then ended (Some p) else leaving p

  abbrev pub parent_step : Stand → Stand
  parent_step (at n) = ended None
  parent_step (leaving n) = if n == root then ended None else up_to_parent parent_arrived (parent_of f n)
  parent_step (ended found) = ended found

  -- firstChild: what is under the current node, until the walk comes up to it or to the root
  abbrev pub first_child_arrived : ℕ → Stand
  first_child_arrived p = if (p == root) || (p == current) then ended None else leaving p

  abbrev pub past_child : ℕ → Stand
  past_child n = at_or (next_of f n) (up_to_parent first_child_arrived (parent_of f n))

  abbrev pub first_child_step : Stand → Stand
  first_child_step (at n) = come_to (verdict_on f filter n) n (first_child n) (past_child n)
  first_child_step (leaving n) = past_child n
  first_child_step (ended found) = ended found

  -- nextSibling: on to the siblings and into them, and up only through nodes that are not accepted
  abbrev pub next_sibling_arrived : ℕ → Stand
  next_sibling_arrived p = if (p == root) || accepts f filter p then ended None else leaving p

  abbrev pub past_sibling : ℕ → Stand
  past_sibling n = at_or (next_of f n) (up_to_parent next_sibling_arrived (parent_of f n))

  abbrev pub next_sibling_step : Stand → Stand
  next_sibling_step (at n) = come_to (verdict_on f filter n) n (first_child n) (past_sibling n)
  next_sibling_step (leaving n) = past_sibling n
  next_sibling_step (ended found) = ended found

  -- nextNode: into a node, else on from it or from the nearest ancestor that has a next sibling, but not past the root
  abbrev pub past_node : ℕ → Stand
  past_node n = if n == root then ended None else at_or (next_of f n) (up_to_parent leaving (parent_of f n))

  abbrev pub next_step : Stand → Stand
  next_step (at n) = come_to (verdict_on f filter n) n (first_child n) (past_node n)
  next_step (leaving n) = past_node n
  next_step (ended found) = ended found

  -- previousNode: back to the previous sibling and into its end, else up to the parent; a root that was come to from behind is passed
  abbrev pub previous_arrived : ℕ → Stand
  previous_arrived p = if accepts f filter p then ended (Some p) else (if p == root then ended None else leaving p)

  abbrev pub up_unless_root : ℕ → Stand
  up_unless_root n = if n == root then ended None else up_to_parent previous_arrived (parent_of f n)

  abbrev pub back_past_node : ℕ → Stand
  back_past_node n = at_or (previous_of f n) (up_unless_root n)

  abbrev pub previous_step : Stand → Stand
  previous_step (at n) = come_back_to (verdict_on f filter n) n (last_child n) (back_past_node n)
  previous_step (leaving n) = back_past_node n
  previous_step (ended found) = ended found

  abbrev pub size_under : Option ℕ → ℕ
  size_under None = 0
  size_under (Some r) = size (tree_at r f)

  -- four moves for each node of the current node's tree
  abbrev pub moves_allowed : ℕ
  moves_allowed = 4 * size_under (root_of f current)

  abbrev pub parent_by_steps : Option ℕ
  parent_by_steps = walked parent_step moves_allowed (leaving current)

  abbrev pub first_child_by_steps : Option ℕ
  first_child_by_steps = walked first_child_step moves_allowed (at_or (first_child current) (ended None))

  -- to traverse siblings begins so: "if node is root, then return null"
  abbrev pub next_sibling_by_steps : Option ℕ
  next_sibling_by_steps = if current == root then None else walked next_sibling_step moves_allowed (leaving current)

  abbrev pub next_by_steps : Option ℕ
  next_by_steps = walked next_step moves_allowed (at_or (first_child current) (leaving current))

  -- previousNode goes on "while node is not root", so from the root itself it finds nothing
  abbrev pub previous_by_steps : Option ℕ
  previous_by_steps = if current == root then None else walked previous_step moves_allowed (leaving current)
