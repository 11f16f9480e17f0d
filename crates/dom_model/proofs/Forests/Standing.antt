-- Where a node stands: at the top of a list of trees, inside the first or beyond it; and what the entries say of a list of siblings.
use Rattle.std.proofs.Common.{◌≡◌, ℕ, ◌<◌, ◌≤◌, List, [], ◌∷◌, ◌++◌, Option, Some, None, refl, ap, sym, ◌∙◌, subst, arith, append_assoc}
use Rattle.std.specs.Option.{option_or}
use Rattle.std.proofs.lemmas.Bool.Decides.{nat_tests}
use Rattle.dom_model.specs.Definitions.{hits, head_of, last_of, after, before_from, before, Entry, parent_in, children_in, list_under, siblings_in, next_in, previous_in, Node, Forest, empty, node, occurs, one_at, tops, tree_at, entry_in, Lies}
use Rattle.dom_model.proofs.PlainLists.Numbers.{same_or, same, apart}
use Rattle.dom_model.proofs.Forests.{Totals.IsOnce, Totals.total-tree_at, Totals.tree_at-absent, Totals.beside-empty, Tops.hits-tops, Climbing.hits-append, Climbing.hits-first, Entries.Lies-entry_in}
use Rattle.dom_model.proofs.BoundaryPoints.RootsKept.{last_of-behind}
pub use Rattle.dom_model.proofs.Forests.Whereabouts.{top, inside, beyond, whereabouts}

pub or_none : (o : Option ℕ) → option_or o None ≡ o
or_none None = refl
or_none (Some n) = refl

pub after-ahead : (n : ℕ) (ahead behind : List ℕ) → hits n ahead ≡ 0 → after n (ahead ++ n ∷ behind) ≡ head_of behind
after-ahead n [] behind h = elim (same_or n n) [ same e t ↦ rw t refl | apart ne t ↦ absurd (ne refl) ]
after-ahead n (x ∷ xs) behind h = grind (arith, after-ahead n xs behind)

pub before-ahead : (passed : Option ℕ) (n : ℕ) (ahead behind : List ℕ) → hits n ahead ≡ 0 → before_from passed n (ahead ++ n ∷ behind) ≡ option_or (last_of ahead) passed
before-ahead passed n [] behind h = elim (same_or n n) [ same e t ↦ rw t refl | apart ne t ↦ absurd (ne refl) ]
before-ahead passed n (x ∷ []) behind h = grind arith
before-ahead passed n (x ∷ y ∷ ys) behind h =
    elim (same_or x n) [
      | same e t ↦ absurd (let k = rw t at h in omega arith)
      | apart ne t ↦
          let k = rw t at h in
          let z : hits n (y ∷ ys) ≡ 0 = omega arith in
          rw t (before-ahead (Some x) n (y ∷ ys) behind z ∙ there y ys)
    ]
  where
    there : (y : ℕ) (ys : List ℕ) → option_or (last_of (y ∷ ys)) (Some x) ≡ option_or (last_of (y ∷ ys)) passed
    there y [] = refl
    there y (z ∷ zs) = there z zs

module _ {X : Type 0} where
  -- the entries of the trees' nodes, which stand under p, the first of them after `passed`: values, parents, children and siblings
  abbrev pub Stands : (ℕ → Option (Entry (Node X))) → ℕ → Option ℕ → Forest X → Type 0
  Stands at p passed empty = Unit {0}
  Stands at p passed (node x kids rest) =
      (at x.number ≡ Some (record { value = x; parent = Some p; children = tops kids }))
      × (next_in at x.number ≡ head_of (tops rest))
      × (previous_in at x.number ≡ passed)
      × Stands at x.number None kids
      × Stands at p (Some x.number) rest

  Stands-Lies : (at : (ℕ → Option (Entry (Node X)))) (p : ℕ) (ahead : List ℕ) (g : Forest X) → Lies at (Some p) g → children_in (at p) ≡ ahead ++ tops g → ((n : ℕ) → hits n (ahead ++ tops g) ≤ 1) → IsOnce g → Stands at p (last_of ahead) g
  Stands-Lies at p ahead empty l e u o = tt
  Stands-Lies at p ahead (node x kids rest) l e u o = (
    l.0,
    ap (after x.number) siblings ∙ after-ahead x.number ahead (tops rest) new,
    ap (before x.number) siblings ∙ before-ahead None x.number ahead (tops rest) new ∙ or_none (last_of ahead),
    Stands-Lies at x.number [] kids l.1 (ap children_in l.0) (λ n. let i = o n in let j = hits-tops n kids in omega arith) (λ n. let i = o n in omega arith),
    subst (λ passed. Stands at p passed rest) (last_of-behind ahead x.number []) (Stands-Lies at p (ahead ++ x.number ∷ []) rest l.2 (e ∙ sym moved) (λ n. rw moved (u n)) (λ n. let i = o n in omega arith)),
  )
    where
      siblings : siblings_in at x.number ≡ ahead ++ x.number ∷ tops rest
      siblings = ap (λ (i : Option (Entry (Node X))). list_under at (parent_in i)) l.0 ∙ e

      new : hits x.number ahead ≡ 0
      new = let i = u x.number in let j = hits-append x.number ahead (x.number ∷ tops rest) in let k = hits-first x.number (tops rest) in omega arith

      moved : (ahead ++ x.number ∷ []) ++ tops rest ≡ ahead ++ x.number ∷ tops rest
      moved = append_assoc ahead (x.number ∷ []) (tops rest)

  -- a node's tree: the node on top, what is told of it, and where its descendants stand
  pub record Tree (f : Forest X) (n : ℕ) : Type 0 where
    pub top : Node X
    pub kids : Forest X
    pub parent : Option ℕ
    pub is_top : top.number ≡ n
    pub tree : tree_at n f ≡ node top kids empty
    pub entry : entry_in f n ≡ Some (record { value = top; parent = parent; children = tops kids })
    pub stands : Stands (entry_in f) n None kids

  record Found (at : ℕ → Option (Entry (Node X))) (n : ℕ) (g : Forest X) : Type 0 where
    top : Node X
    kids : Forest X
    parent : Option ℕ
    is_top : top.number ≡ n
    tree : tree_at n g ≡ node top kids empty
    entry : at n ≡ Some (record { value = top; parent = parent; children = tops kids })
    lies : Lies at (Some n) kids

  found : (at : (ℕ → Option (Entry (Node X)))) (above : Option ℕ) (n : ℕ) (g : Forest X) → Lies at above g → occurs n g ≡ 1 → Found at n g
  found at above n empty l h = absurd (omega arith)
  found at above n (node x kids rest) l h =
      elim (whereabouts n x kids rest h) [
        | top e t zk zr ↦
            record {
              top = x;
              kids = kids;
              parent = above;
              is_top = e;
              tree = rw (t, tree_at-absent n rest zr) refl;
              entry = subst (λ m. at m ≡ Some (record { value = x; parent = above; children = tops kids })) e l.0;
              lies = subst (λ m. Lies at (Some m) kids) e l.1;
            }
        | inside ne t ok zr ↦
            let i = found at (Some x.number) n kids l.1 ok in
            record { top = i.top; kids = i.kids; parent = i.parent; is_top = i.is_top; tree = rw (t, tree_at-absent n rest zr, beside-empty (tree_at n kids)) i.tree; entry = i.entry; lies = i.lies }
        | beyond ne t zk or ↦
            let i = found at above n rest l.2 or in
            record { top = i.top; kids = i.kids; parent = i.parent; is_top = i.is_top; tree = rw (t, tree_at-absent n kids zk) i.tree; entry = i.entry; lies = i.lies }
      ]

  pub tree_of : (f : Forest X) → IsOnce f → (n : ℕ) → 0 < occurs n f → Tree f n
  tree_of f o n h =
      record {
        top = i.top;
        kids = i.kids;
        parent = i.parent;
        is_top = i.is_top;
        tree = i.tree;
        entry = i.entry;
        stands = Stands-Lies (entry_in f) n [] i.kids i.lies (ap children_in i.entry) (λ m. let a = kids_once m in let b = hits-tops m i.kids in omega arith) kids_once;
      }
    where
      i : Found (entry_in f) n f
      i = found (entry_in f) None n f (Lies-entry_in f o) (let k = o n in omega arith)

      kids_once : (m : ℕ) → occurs m i.kids ≤ 1
      kids_once m = grind (arith, nat_tests, total-tree_at (one_at m) n f, o m)
