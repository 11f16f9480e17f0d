-- The forest: a list of nested lists, the roots in rising number. DOM Standard, "Trees", "Nodes".
-- The functions on trees of one number are filters over the whole forest, where a number stands once they meet one tree.
use Rattle.std.specs.Prelude.{◌≡◌, ℕ, suc, ◌+◌, ◌≤◌, ◌==◌, nat_lt, true, if◌then◌else◌, List, [], ◌∷◌, ◌++◌, Option, Some, None, IsSome}
use Rattle.dom_model.specs.PlainLists.Lists.{is_number, or_list, or_else, last_of, place_in}
use Rattle.dom_model.specs.declared.Kind.{Kind}
use Rattle.dom_model.specs.Forests.Kinds.{Label, may_stand_under}
use Rattle.dom_model.specs.Forests.Arena.{Entry, parent_in, children_in, siblings_in, next_in, previous_in}

-- a node: its number, its node document, its label, and its data and attributes
pub record Node (X : Type 0) : Type 0 where
  pub number : ℕ
  pub document : ℕ
  pub label : Label
  pub body : X

-- the first tree's node, its children, and the trees after it
pub data Forest (X : Type 0) : Type 0 where
  empty : Forest X
  node : Node X → Forest X → Forest X → Forest X

-- a forest and the next node number
pub record Grove (X : Type 0) : Type 0 where
  pub forest : Forest X
  pub made : ℕ

-- 1 where the numbers are the same
abbrev pub one_at : ℕ → ℕ → ℕ
one_at n m = if m == n then 1 else 0

-- a node of the flattening, and how deep it stands
pub record Row (X : Type 0) : Type 0 where
  pub depth : ℕ
  pub at : Node X

-- a path below its first step: none where there is no path
abbrev pub path_through : ℕ → List ℕ → List ℕ
path_through n [] = []
path_through n (m ∷ ms) = (m ∷ ms) ++ n ∷ []

abbrev pub IsRising : ℕ → List ℕ → Type 0
IsRising low [] = Unit {0}
IsRising low (n ∷ ns) = (low ≤ n) × IsRising (suc n) ns

module _ {X : Type 0} where
  -- a weight of the numbers, over all nodes
  abbrev pub total : (ℕ → ℕ) → Forest X → ℕ
  total weight empty = 0
  total weight (node x kids rest) = weight x.number + (total weight kids + total weight rest)

  -- how often a number stands in the forest
  abbrev pub occurs : ℕ → Forest X → ℕ
  occurs n f = total (one_at n) f

  -- how many nodes there are
  abbrev pub size : Forest X → ℕ
  size f = total (λ _. 1) f

  -- the flattening: tree order, each node with its depth
  abbrev pub rows : ℕ → Forest X → List (Row X)
  rows depth empty = []
  rows depth (node x kids rest) = record { depth = depth; at = x } ∷ (rows (suc depth) kids ++ rows depth rest)

  -- the numbers of the flattening
  abbrev pub numbers : Forest X → List ℕ
  numbers empty = []
  numbers (node x kids rest) = x.number ∷ (numbers kids ++ numbers rest)

  -- the numbers of the trees' tops
  abbrev pub tops : Forest X → List ℕ
  tops empty = []
  tops (node x kids rest) = x.number ∷ tops rest

  -- one list of trees after the other
  abbrev pub beside : Forest X → Forest X → Forest X
  beside empty g = g
  beside (node x kids rest) g = node x kids (beside rest g)

  -- the trees of the number
  abbrev pub tree_at : ℕ → Forest X → Forest X
  tree_at n empty = empty
  tree_at n (node x kids rest) = if x.number == n then node x kids (tree_at n rest) else beside (tree_at n kids) (tree_at n rest)

  -- the forest without the trees of the number
  abbrev pub without : ℕ → Forest X → Forest X
  without n empty = empty
  without n (node x kids rest) = if x.number == n then without n rest else node x (without n kids) (without n rest)

  -- g put into a list of trees, just before the tree of `before` or last
  abbrev pub placed_before : Option ℕ → Forest X → Forest X → Forest X
  placed_before before g empty = g
  placed_before before g (node x kids rest) =
      if is_number before x.number then beside g (node x kids rest) else node x kids (placed_before before g rest)

  -- g put among the children of the number
  abbrev pub placed_under : ℕ → Option ℕ → Forest X → Forest X → Forest X
  placed_under parent before g empty = empty
  placed_under parent before g (node x kids rest) =
      node x
      (if x.number == parent then placed_before before g (placed_under parent before g kids) else placed_under parent before g kids)
      (placed_under parent before g rest)

  -- g put among the roots, by rising number
  abbrev pub placed_root : ℕ → Forest X → Forest X → Forest X
  placed_root n g empty = g
  placed_root n g (node x kids rest) = if nat_lt n x.number then beside g (node x kids rest) else node x kids (placed_root n g rest)

  -- Cut: the tree of a number is taken out of its place and becomes a root.
  abbrev pub cut : ℕ → Forest X → Forest X
  cut n f = placed_root n (tree_at n f) (without n f)

  -- Put: the tree of a number is taken from where it stands and put among a parent's children.
  abbrev pub put : ℕ → ℕ → Option ℕ → Forest X → Forest X
  put parent child before f = placed_under parent before (tree_at child f) (without child f)

  -- every node changed
  abbrev pub map_nodes : (Node X → Node X) → Forest X → Forest X
  map_nodes h empty = empty
  map_nodes h (node x kids rest) = node (h x) (map_nodes h kids) (map_nodes h rest)

  -- the nodes of one number changed
  abbrev pub with_node : ℕ → (Node X → Node X) → Forest X → Forest X
  with_node n h empty = empty
  with_node n h (node x kids rest) = node (if x.number == n then h x else x) (with_node n h kids) (with_node n h rest)

  -- the trees of a number changed
  abbrev pub with_tree : ℕ → (Forest X → Forest X) → Forest X → Forest X
  with_tree n h empty = empty
  with_tree n h (node x kids rest) =
      if x.number == n then beside (h (node x kids empty)) (with_tree n h rest) else node x (with_tree n h kids) (with_tree n h rest)

  -- the node with another node document
  abbrev pub in_document : ℕ → Node X → Node X
  in_document d x = record x { document = d }

  -- the node document of all inclusive descendants set
  abbrev pub adopted : ℕ → ℕ → Forest X → Forest X
  adopted top document f = with_tree top (map_nodes (in_document document)) f

  -- a node's value, parent and children, where it stands under `parent` or deeper
  abbrev pub entry_under : Option ℕ → ℕ → Forest X → Option (Entry (Node X))
  entry_under parent n empty = None
  entry_under parent n (node x kids rest) =
      if x.number == n then Some (record { value = x; parent = parent; children = tops kids })
      else or_else (entry_under (Some x.number) n kids) (entry_under parent n rest)

  abbrev pub entry_in : Forest X → ℕ → Option (Entry (Node X))
  entry_in f n = entry_under None n f

  abbrev pub HasNode : Forest X → ℕ → Type 0
  HasNode f n = IsSome (entry_in f n)

  abbrev pub parent_of : Forest X → ℕ → Option ℕ
  parent_of f n = parent_in (entry_in f n)

  abbrev pub children_of : Forest X → ℕ → List ℕ
  children_of f n = children_in (entry_in f n)

  abbrev pub next_of : Forest X → ℕ → Option ℕ
  next_of f n = next_in (entry_in f) n

  abbrev pub previous_of : Forest X → ℕ → Option ℕ
  previous_of f n = previous_in (entry_in f) n

  -- the number of preceding siblings
  abbrev pub index_of : Forest X → ℕ → ℕ
  index_of f n = place_in n (siblings_in (entry_in f) n)

  -- the inclusive ancestors, the node itself first and its root last
  abbrev pub ancestors : ℕ → Forest X → List ℕ
  ancestors n empty = []
  ancestors n (node x kids rest) =
      if x.number == n then n ∷ [] else or_list (path_through x.number (ancestors n kids)) (ancestors n rest)

  abbrev pub root_of : Forest X → ℕ → Option ℕ
  root_of f n = last_of (ancestors n f)

  -- the inclusive descendants, in tree order
  abbrev pub inclusive_descendants : Forest X → ℕ → List ℕ
  inclusive_descendants f n = numbers (tree_at n f)

  -- each node stands where its kind may
  abbrev pub KindsFit : Option Kind → Forest X → Type 0
  KindsFit parent empty = Unit {0}
  KindsFit parent (node x kids rest) =
      (may_stand_under parent x.label.kind ≡ true) × KindsFit (Some x.label.kind) kids × KindsFit parent rest

  -- A number stands once, below the next one, the roots stand in rising number, and each node where its kind may.
  pub record IsForest (g : Grove X) : Type 0 where
    pub once : (n : ℕ) → occurs n g.forest ≤ 1
    pub small : (n : ℕ) → g.made ≤ n → occurs n g.forest ≡ 0
    pub rising : IsRising 0 (tops g.forest)
    pub kinds : KindsFit None g.forest
