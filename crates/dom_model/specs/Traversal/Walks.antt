-- The seven moves of a tree walker, each as a list of nodes: the first accepted one is the answer, and becomes the current node.
-- DOM Standard, "Interface TreeWalker", which walks step by step; so does WalkSteps, where the root is no inclusive ancestor of the current node.
-- "Under" means: a proper descendant.
use Rattle.std.specs.Prelude.{ℕ, ◌==◌, nat_lt, Bool, true, false, not, ◌&&◌, ◌||◌, if◌then◌else◌, List, [], ◌∷◌, filter, find, drop, reverse, Option, Some, None}
use Rattle.dom_model.specs.declared.Move.{Move}
use Rattle.dom_model.specs.declared.Move.TheVariants.{ParentNode, FirstChild, LastChild, PreviousSibling, NextSibling, PreviousNode, NextNode}
use Rattle.dom_model.specs.PlainLists.Lists.{among}
use Rattle.dom_model.specs.Forests.Forest.{Forest, empty, node, Row, rows, beside, tree_at, ancestors, inclusive_descendants}
use Rattle.dom_model.specs.Worlds.World.{Filter, Walker}
use Rattle.dom_model.specs.Traversal.Filters.{accepts, rejects}
use Rattle.dom_model.specs.Traversal.WalkSteps.{parent_by_steps, first_child_by_steps, next_sibling_by_steps, next_by_steps, previous_by_steps}

-- a new walker stands at its root
abbrev pub new_walker : ℕ → Filter → Walker
new_walker root filter = record { root = root; current = root; filter = filter }

-- the depth is below the one that hides what is deeper
abbrev pub is_hidden : Option ℕ → ℕ → Bool
is_hidden None depth = false
is_hidden (Some d) depth = nat_lt d depth

module _ {X : Type 0} where
  -- all children lists reversed
  abbrev pub mirrored : Forest X → Forest X
  mirrored empty = empty
  mirrored (node x kids rest) = beside (mirrored rest) (node x (mirrored kids) empty)

  -- the rows after the first of n
  abbrev pub rows_past : ℕ → List (Row X) → List (Row X)
  rows_past n [] = []
  rows_past n (r ∷ rs) = if r.at.number == n then rs else rows_past n rs

  -- the rows before the first of n
  abbrev pub rows_up_to : ℕ → List (Row X) → List (Row X)
  rows_up_to n [] = []
  rows_up_to n (r ∷ rs) = if r.at.number == n then [] else r ∷ rows_up_to n rs

  -- rows in tree order without those under a row that is shut; `hidden` is the depth of the shut row that was met last
  abbrev pub unhidden : (ℕ → Bool) → Option ℕ → List (Row X) → List ℕ
  unhidden is_shut hidden [] = []
  unhidden is_shut hidden (r ∷ rs) =
      if is_hidden hidden r.depth then unhidden is_shut hidden rs
      else r.at.number ∷ unhidden is_shut (if is_shut r.at.number then Some r.depth else None) rs

  abbrev pub without_under : (ℕ → Bool) → List (Row X) → List ℕ
  without_under is_shut rs = unhidden is_shut None rs

  -- the rows that are not inside n
  abbrev pub outside : Forest X → ℕ → List (Row X) → List (Row X)
  outside f n rs = filter (λ (r : Row X). not (among r.at.number (inclusive_descendants f n))) rs

  -- nextNode: the nodes under the root that follow the current one, without those under a rejected node that follows it
  abbrev pub following_list : Forest X → Filter → ℕ → ℕ → List ℕ
  following_list f filter root current = without_under (rejects f filter) (rows_past current (rows 0 (tree_at root f)))

  -- previousNode: the nodes that precede the current one, the nearest first, up to and with the root,
  -- without those under a rejected node that is no ancestor of the current one
  abbrev pub preceding_list : Forest X → Filter → ℕ → ℕ → List ℕ
  preceding_list f filter root current =
      reverse (without_under (λ n. rejects f filter n && not (among n (ancestors current f))) (rows_up_to current (rows 0 (tree_at root f))))

  -- parentNode: the proper ancestors, the nearest first, up to and with the root
  abbrev pub ancestor_list : Forest X → ℕ → ℕ → List ℕ
  ancestor_list f root current = drop 1 (ancestors current (tree_at root f))

  -- firstChild: the nodes under the current one in tree order, without those under a rejected node that is itself under it
  abbrev pub child_list : Forest X → Filter → ℕ → List ℕ
  child_list f filter current = without_under (rejects f filter) (drop 1 (rows 0 (tree_at current f)))

  -- the nodes under `top` that come after the current one and are not inside it, without those under a rejected node after it
  abbrev pub sibling_list_under : Forest X → Filter → ℕ → Option ℕ → List ℕ
  sibling_list_under f filter current None = []
  sibling_list_under f filter current (Some top) =
      without_under (rejects f filter) (outside f current (rows_past current (rows 0 (tree_at top f))))

  -- nextSibling: those under the nearest proper ancestor that is the root or accepted; none where the current node is the root
  abbrev pub sibling_list : Forest X → Filter → ℕ → ℕ → List ℕ
  sibling_list f filter root current =
      sibling_list_under f filter current (find (λ n. (n == root) || accepts f filter n) (ancestor_list f root current))

  -- the list of a move; lastChild and previousSibling are firstChild and nextSibling with all children lists reversed
  abbrev pub walk_list : Move → Forest X → Filter → ℕ → ℕ → List ℕ
  walk_list ParentNode f filter root current = ancestor_list f root current
  walk_list FirstChild f filter root current = child_list f filter current
  walk_list LastChild f filter root current = child_list (mirrored f) filter current
  walk_list PreviousSibling f filter root current = sibling_list (mirrored f) filter root current
  walk_list NextSibling f filter root current = sibling_list f filter root current
  walk_list PreviousNode f filter root current = preceding_list f filter root current
  walk_list NextNode f filter root current = following_list f filter root current

  abbrev pub found_by_steps : Move → Forest X → Filter → ℕ → ℕ → Option ℕ
  found_by_steps ParentNode f filter root current = parent_by_steps f filter root current
  found_by_steps FirstChild f filter root current = first_child_by_steps f filter root current
  found_by_steps LastChild f filter root current = first_child_by_steps (mirrored f) filter root current
  found_by_steps PreviousSibling f filter root current = next_sibling_by_steps (mirrored f) filter root current
  found_by_steps NextSibling f filter root current = next_sibling_by_steps f filter root current
  found_by_steps PreviousNode f filter root current = previous_by_steps f filter root current
  found_by_steps NextNode f filter root current = next_by_steps f filter root current

  abbrev pub is_inside_root : Forest X → Walker → Bool
  is_inside_root f w = among w.root (ancestors w.current f)

  abbrev pub found_where : Bool → Move → Forest X → Walker → Option ℕ
  found_where true move f w = find (accepts f w.filter) (walk_list move f w.filter w.root w.current)
  found_where false move f w = found_by_steps move f w.filter w.root w.current

  -- the node that a move finds
  abbrev pub walk_found : Move → Forest X → Walker → Option ℕ
  walk_found move f w = found_where (is_inside_root f w) move f w

-- the node that was found becomes the current one; where there is none, nothing changes
abbrev pub walker_moved : Option ℕ → Walker → Walker
walker_moved None w = w
walker_moved (Some n) w = record w { current = n }
