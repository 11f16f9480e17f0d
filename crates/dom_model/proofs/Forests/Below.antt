-- A node below another: its tree in the other's, and its ancestors there.
use Rattle.std.proofs.Common.{◌≡◌, ℕ, ◌+◌, ◌<◌, ◌≤◌, ◌==◌, true, false, List, [], ◌∷◌, ◌++◌, Some, refl, ap, sym, ◌∙◌, arith, append_assoc}
use Rattle.std.proofs.lemmas.Bool.Decides.{nat_tests}
use Rattle.dom_model.specs.Definitions.{hits, last_of, Node, Forest, empty, node, occurs, size, one_at, tree_at, ancestors, root_of, Filter, size_under}
use Rattle.dom_model.proofs.PlainLists.Numbers.{same_or, same, apart}
use Rattle.dom_model.proofs.Forests.{Totals.IsOnce, Totals.total-tree_at, Totals.total-beside, Totals.tree_at-absent, Totals.beside-empty, Climbing.hits-append, Climbing.hits-first, Climbing.hits-ancestors, Whereabouts.top, Whereabouts.inside, Whereabouts.beyond, Whereabouts.whereabouts, Standing.Tree, Standing.tree_of}
use Rattle.dom_model.proofs.Traversal.{IteratorsStay.tree_at-inside, Shown.above, Shown.hits-above, Shown.ancestors-above}
use Rattle.dom_model.proofs.BoundaryPoints.RootsKept.{last_of-behind}

pub at_itself : (n : ℕ) → (n == n) ≡ true
at_itself n = elim (same_or n n) [ same e t ↦ t | apart ne t ↦ absurd (ne refl) ]

last_of-there : (n : ℕ) (ns : List ℕ) → (m : ℕ) × (last_of (n ∷ ns) ≡ Some m) × (0 < hits m (n ∷ ns))
last_of-there n [] = (n, refl, hits-first n [])
last_of-there n (k ∷ ns) = (let i = last_of-there k ns in (i.0, i.1, let j = i.2 in omega arith))

module _ {X : Type 0} where
  -- the trees of c and of n, where n is a proper descendant of c
  pub record Below (f : Forest X) (c n : ℕ) : Type 0 where
    pub whole : Tree f c
    pub part : Tree f n
    pub apart : c ≡ n → ⊥
    pub once : occurs n whole.kids ≡ 1
    pub tree : tree_at n whole.kids ≡ node part.top part.kids empty
    pub kids_once : IsOnce whole.kids
    pub no_top : occurs c whole.kids ≡ 0

  pub is_apart_from : (c n : ℕ) (g : Forest X) → occurs c g ≡ 0 → 0 < occurs n g → (n == c) ≡ false
  is_apart_from c n g z h = grind arith

  pub occurs-tree : (n c : ℕ) (f : Forest X) → occurs n (tree_at c f) ≤ occurs n f
  occurs-tree n c f = omega (arith, total-tree_at (one_at n) c f)

  pub size-tree : (c : ℕ) (f : Forest X) → size (tree_at c f) ≤ size f
  size-tree c f = omega (arith, total-tree_at (λ _. 1) c f)

  -- what has a number below it is there
  pub tree-there : (n c : ℕ) (f : Forest X) → 0 < occurs n (tree_at c f) → 0 < occurs c f
  tree-there n c f h = grind (arith, tree_at-absent c f)

  module _ (f : Forest X) (o : IsOnce f) (c : ℕ) (t : Tree f c) where
    pub kids_total : (n : ℕ) → occurs n (node t.top t.kids empty) ≤ 1
    kids_total n = let i = occurs-tree n c f in let j = rw t.tree at i in let k = o n in omega arith

    pub kids_once : IsOnce t.kids
    kids_once n = let i = kids_total n in omega arith

    pub no_top : occurs c t.kids ≡ 0
    no_top = grind (arith, kids_total c)

    -- the trees of the descendants are their trees in the whole
    pub tree-kids : (n : ℕ) → 0 < occurs n t.kids → tree_at n t.kids ≡ tree_at n f
    tree-kids n h = grind (arith, tree_at-inside n c f o, kids_total n, beside-empty (tree_at n t.kids))

  pub below : (f : Forest X) → IsOnce f → (c n : ℕ) → 0 < occurs n (tree_at c f) → (c ≡ n → ⊥) → Below f c n
  below f o c n h d =
      record {
        whole = t;
        part = u;
        apart = d;
        once = one;
        tree = tree-kids f o c t n (let k = one in omega arith) ∙ u.tree;
        kids_once = kids_once f o c t;
        no_top = no_top f o c t;
      }
    where
      t : Tree f c
      t = tree_of f o c (tree-there n c f h)

      u : Tree f n
      u = tree_of f o n (let i = occurs-tree n c f in omega arith)

      one : occurs n t.kids ≡ 1
      one =
          let i = rw t.tree at h in
          let j = kids_once f o c t n in
          elim (same_or t.top.number n) [
            | same e v ↦ absurd (d (sym t.is_top ∙ e))
            | apart ne v ↦ (let k = rw v at i in omega arith)
          ]

  pub part_absent : (f : Forest X) (c n : ℕ) → (b : Below f c n) → occurs c b.part.kids ≡ 0
  part_absent f c n b = let i = occurs-tree c n b.whole.kids in let j = rw b.tree at i in let k = b.no_top in omega arith

  pub part_size : (f : Forest X) (c n : ℕ) → (b : Below f c n) → 1 + size b.part.kids ≤ size b.whole.kids
  part_size f c n b = let i = size-tree n b.whole.kids in let j = rw b.tree at i in omega arith

  -- the ancestors of n that are below c
  pub path_below : (f : Forest X) → IsOnce f → (c n : ℕ) → (b : Below f c n) → (m : ℕ) → 0 < occurs m b.whole.kids → hits m (ancestors n f) ≡ hits m (n ∷ above n b.whole.kids)
  path_below f o c n b m h =
      grind (arith, hits-ancestors m n f o, tree-kids f o c b.whole m h, hits-ancestors m n b.whole.kids b.kids_once, ancestors-above n b.whole.kids b.once)

  -- all the ancestors in the tree of c
  pub path_in_tree : (f : Forest X) (c n : ℕ) → (b : Below f c n) → ancestors n (tree_at c f) ≡ n ∷ (above n b.whole.kids ++ c ∷ [])
  path_in_tree f c n b = grind (arith, ancestors-above n b.whole.kids b.once)

  pub tree-beyond : (c : ℕ) (x : Node X) (kids rest : Forest X) → IsOnce (node x kids rest) → 0 < occurs c rest → tree_at c (node x kids rest) ≡ tree_at c rest
  tree-beyond c x kids rest o h = grind (arith, tree_at-absent c kids)

  pub tree-top : (c : ℕ) (x : Node X) (kids rest : Forest X) → IsOnce (node x kids rest) → x.number ≡ c → tree_at c (node x kids rest) ≡ node x kids empty
  tree-top c x kids rest o e = grind (arith, tree_at-absent c rest)

  pub tree-inside : (c : ℕ) (x : Node X) (kids rest : Forest X) → IsOnce (node x kids rest) → 0 < occurs c kids → tree_at c (node x kids rest) ≡ tree_at c kids
  tree-inside c x kids rest o h = grind (arith, tree_at-absent c rest, beside-empty (tree_at c kids))

  abbrev IsThrough : ℕ → ℕ → Forest X → Forest X → Type 0
  IsThrough n c g under = (ms : List ℕ) × (above n g ≡ above n under ++ c ∷ ms)

  through_kids : (n c : ℕ) (x : Node X) (kids rest under : Forest X) → (x.number == n) ≡ false → occurs n kids ≡ 1 → IsThrough n c kids under → IsThrough n c (node x kids rest) under
  through_kids n c x kids rest under t h j = (j.0 ++ x.number ∷ [], rw (t, h) (ap (λ ns. ns ++ x.number ∷ []) j.1 ∙ append_assoc (above n under) (c ∷ j.0) (x.number ∷ [])))

  through_rest : (n c : ℕ) (x : Node X) (kids rest under : Forest X) → (x.number == n) ≡ false → occurs n kids ≡ 0 → IsThrough n c rest under → IsThrough n c (node x kids rest) under
  through_rest n c x kids rest under t h j = (j.0, rw (t, h) j.1)

  -- the path upwards goes through the tree of each node on it
  pub path_through_tree : (n c : ℕ) (g : Forest X) (y : Node X) (under : Forest X) → IsOnce g → occurs n g ≡ 1 → tree_at c g ≡ node y under empty → occurs n under ≡ 1 → (ms : List ℕ) × (above n g ≡ above n under ++ c ∷ ms)
  path_through_tree n c empty y under o h i u = absurd (omega arith)
  path_through_tree n c (node x kids rest) y under o h i u =
      let whole = ap (occurs n) i in
      elim (same_or x.number c) [
        | same d v ↦
            let j = rw v at i in
            let k : kids ≡ under = cc j in
            elim (whereabouts n x kids rest h) [
              | top e t zk zr ↦ absurd (let w = ap (occurs n) k in omega arith)
              | inside ne t ok zr ↦ ([], rw (t, ok) (ap (λ (g : Forest X). above n g ++ x.number ∷ []) k ∙ ap (λ m. above n under ++ m ∷ []) d))
              | beyond ne t zk or ↦ absurd (let w = ap (occurs n) k in omega arith)
            ]
        | apart nc v ↦
            let w = rw (v, total-beside (one_at n) (tree_at c kids) (tree_at c rest)) at whole in
            let a = occurs-tree n c kids in
            let b = occurs-tree n c rest in
            elim (whereabouts n x kids rest h) [
              | top e t zk zr ↦ absurd (omega arith)
              | inside ne t ok zr ↦
                  through_kids n c x kids rest under t ok (path_through_tree n c kids y under (λ m. let k = o m in omega arith) ok (sym (tree-inside c x kids rest o (tree-there n c kids (omega arith))) ∙ i) u)
              | beyond ne t zk or ↦
                  through_rest n c x kids rest under t zk (path_through_tree n c rest y under (λ m. let k = o m in omega arith) or (sym (tree-beyond c x kids rest o (tree-there n c rest (omega arith))) ∙ i) u)
            ]
      ]

  hits-path : (m n : ℕ) (g : Forest X) → occurs n g ≡ 1 → 0 < hits m (n ∷ above n g) → 0 < occurs m g
  hits-path m n g h i = grind (arith, hits-above m n g h)

  -- the tree of an ancestor is no larger than that of the root
  pub size-ancestor : (filter : Filter) (root current c n : ℕ) (g : Forest X) → IsOnce g → occurs n g ≡ 1 → 0 < hits c (ancestors n g) → size (tree_at c g) ≤ size_under g filter root current (root_of g n)
  size-ancestor filter root current c n empty o h i = absurd (omega arith)
  size-ancestor filter root current c n (node x kids rest) o h i =
      grind (
        arith,
        nat_tests,
        ancestors-above n (node x kids rest),
        last_of-behind (n ∷ above n kids),
        hits-append,
        tree-inside c,
        size-tree c,
        last_of-there n (above n rest),
        ancestors-above n rest,
        size-ancestor filter root current c n rest,
        tree-beyond,
        hits-path,
      )
