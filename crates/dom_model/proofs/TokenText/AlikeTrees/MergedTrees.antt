-- The trees where a Text is joined with the next.
use Rattle.std.proofs.Common.{◌≡◌, ℕ, ◌+◌, ◌<◌, ◌≤◌, ◌==◌, if◌then◌else◌, length, Option, Some, None, refl, ap, sym, ◌∙◌, subst, arith, inl, inr}
use Rattle.std.proofs.lemmas.Bool.{cond_both, cases_Bool, eq-eqb}
use Rattle.dom_model.specs.Definitions.{hits, place_in, Entry, parent_in, children_in, Node, Forest, empty, node, occurs, one_at, tops, beside, tree_at, without, with_node, entry_in, parent_of, index_of}
use Rattle.dom_model.proofs.PlainLists.Numbers.{same_or, same, apart}
use Rattle.dom_model.proofs.Forests.{Totals.total-beside, Undone.beside-assoc, Changes.change_at, Changes.held-change_at, Lying.Lies-with_node, Lying.total-with_node, Entries.Lies-entry_in, Entries.occurs-held, Entries.entry_in-Lies, Indices.index-child}
use Rattle.dom_model.proofs.TokenText.{Pieces.TextContexts.with_root, Pieces.TextContexts.with_root-itself, AlikeTrees.TreesPlaced.left_between, AlikeTrees.PartedTrees.with_node-root, AlikeTrees.PartedTrees.with_node-child, Marked.MarkedSplice.with_node-absent, AlikeTrees.TreesPlaced.without-root}

-- the child behind another
pub record Behind {X : Type 0} (c : ℕ) (f : Forest X) : Type 0 where
  pub top : Node X
  pub kids : Forest X
  pub rest : Forest X
  pub whole : f ≡ node top kids rest
  pub named : top.number ≡ c

module _ {X : Type 0} where
  first_of_all : (c : ℕ) (f : Forest X) → place_in c (tops f) ≡ 0 → 0 < hits c (tops f) → Behind c f
  first_of_all c empty p h = absurd (omega arith)
  first_of_all c (node x kids rest) p h =
      elim (same_or x.number c) [
        | same d t ↦ record { top = x; kids = kids; rest = rest; whole = refl; named = d }
        | apart ne t ↦ absurd (let q = rw t at p in omega arith)
      ]

  pub child_behind : (c : ℕ) (z : Node X) (zs fs f : Forest X) → place_in c (tops (beside fs (node z zs f))) ≡ length (tops fs) + 1 → 0 < hits c (tops (beside fs (node z zs f))) → Behind c f
  child_behind c z zs empty f p h =
      elim (same_or z.number c) [
        | same d t ↦ absurd (let q = rw t at p in omega arith)
        | apart ne t ↦ (let q = rw t at p in let i = rw t at h in first_of_all c f (omega arith) (omega arith))
      ]
  child_behind c z zs (node x kids rest) f p h =
      elim (same_or x.number c) [
        | same d t ↦ absurd (let q = rw t at p in omega arith)
        | apart ne t ↦ (let q = rw t at p in let i = rw t at h in child_behind c z zs rest f (omega arith) (omega arith))
      ]

  with_node-beside : (n : ℕ) (h : Node X → Node X) (f g : Forest X) → with_node n h (beside f g) ≡ beside (with_node n h f) (with_node n h g)
  with_node-beside n h empty g = refl
  with_node-beside n h (node x kids rest) g = ap (node (if x.number == n then h x else x) (with_node n h kids)) (with_node-beside n h rest g)

  pub tree_at-with_node : (c n : ℕ) (h : Node X → Node X) → ((x : Node X) → (h x).number ≡ x.number) → (f : Forest X) → tree_at c (with_node n h f) ≡ with_node n h (tree_at c f)
  tree_at-with_node c n h e empty = refl
  tree_at-with_node c n h e (node x kids rest) =
      let y = if x.number == n then h x else x in
      let s : (y.number == c) ≡ (x.number == c) = cond_both (x.number == n) (h x) x (λ (z : Node X). (z.number == c) ≡ (x.number == c)) (λ _. ap (λ m. m == c) (e x)) (λ _. refl) in
      elim (cases_Bool (x.number == c)) [
        | inl t ↦ rw (s, t, tree_at-with_node c n h e rest) refl
        | inr t ↦ rw (s, t, tree_at-with_node c n h e kids, tree_at-with_node c n h e rest) (sym (with_node-beside n h (tree_at c kids) (tree_at c rest)))
      ]

  -- the trees after a node changed and the next left their parent
  module _ (h : Node X → Node X) (kept : (x : Node X) → (h x).number ≡ x.number) (y z x : Node X) (ys zs xs fs bs g : Forest X) (og : (m : ℕ) → occurs m g ≤ 1) (at : tree_at y.number g ≡ node y ys empty)
      (whole : ys ≡ beside fs (node z zs (node x xs bs))) (below : (m : ℕ) → occurs m ys ≤ 1) (above : occurs y.number ys ≡ 0) where
    parts : (m : ℕ) → occurs m ys ≡ occurs m fs + (one_at m z.number + (occurs m zs + (one_at m x.number + (occurs m xs + occurs m bs))))
    parts m = ap (occurs m) whole ∙ total-beside (one_at m) fs (node z zs (node x xs bs))

    self : (n : ℕ) → one_at n n ≡ 1
    self n = rw (eq-eqb n n refl) refl

    z_there : 0 < occurs z.number ys
    z_there = let a = parts z.number in let b = self z.number in omega arith

    x_there : 0 < occurs x.number ys
    x_there = let a = parts x.number in let b = self x.number in omega arith

    under : (n : ℕ) → 0 < occurs n ys → y.number ≡ n → ⊥
    under n i e = let k : occurs n ys ≡ 0 = subst (λ m. occurs m ys ≡ 0) e above in absurd (omega arith)

    abbrev changed : Forest X
    changed = with_node z.number h g

    changed-root : changed ≡ with_root y.number y (beside fs (node (h z) zs (node x xs bs))) g
    changed-root =
        let a = parts z.number in
        let b = self z.number in
        let c = below z.number in
        ap (with_node z.number h) (sym (with_root-itself y.number y ys g og at))
        ∙ with_node-root y.number z.number h y ys ys g og at z_there refl (under z.number z_there)
        ∙ ap (λ (t : Forest X). with_root y.number y (with_node z.number h t) g) whole
        ∙ ap (λ (t : Forest X). with_root y.number y t g) (with_node-child h z zs fs (node x xs bs) (omega arith) (omega arith) (omega arith))

    pub changed-without : without x.number changed ≡ with_root y.number y (beside fs (node (h z) zs bs)) g
    changed-without =
        ap (without x.number) changed-root
        ∙ without-root y.number x.number y (beside fs (node (h z) zs (node x xs bs))) ys g og at x_there
        ∙ ap (λ (t : Forest X). with_root y.number y t g)
        (ap (without x.number) (sym (beside-assoc fs (node (h z) zs empty) (node x xs bs)))
        ∙ left_between x xs (beside fs (node (h z) zs empty)) bs once
        ∙ beside-assoc fs (node (h z) zs empty) bs)
      where
        once : (m : ℕ) → occurs m (beside (beside fs (node (h z) zs empty)) (node x xs bs)) ≤ 1
        once m =
            let a = total-beside (one_at m) (beside fs (node (h z) zs empty)) (node x xs bs) in
            let b = total-beside (one_at m) fs (node (h z) zs empty) in
            let c = parts m in
            let d = below m in
            let e : one_at m (h z).number ≡ one_at m z.number = ap (one_at m) (kept z) in
            omega arith

    pub changed-next : tree_at x.number g ≡ node x xs empty → tree_at x.number changed ≡ node x xs empty
    changed-next t =
        let a = parts z.number in
        let b = self z.number in
        let c = below z.number in
        tree_at-with_node x.number z.number h kept g ∙ ap (with_node z.number h) t ∙ with_node-absent z.number h (node x xs empty) (omega arith)

  -- a changed node stands where it stood
  pub entry-with_node : (n : ℕ) (h : Node X → Node X) → ((x : Node X) → (h x).number ≡ x.number) → (f : Forest X) → ((m : ℕ) → occurs m f ≤ 1) → (m : ℕ) → entry_in (with_node n h f) m ≡ change_at h n m (entry_in f m)
  entry-with_node n h e f o m =
      entry_in-Lies (λ k. change_at h n k (entry_in f k)) (with_node n h f)
      (Lies-with_node (entry_in f) (λ k. change_at h n k (entry_in f k)) n h e (λ k. refl) None f (Lies-entry_in f o))
      (λ k. total-with_node (one_at k) n h e f ∙ occurs-held f k (o k) ∙ sym (held-change_at h n k (entry_in f k))) m

  pub index-with_node : (n : ℕ) (h : Node X → Node X) → ((x : Node X) → (h x).number ≡ x.number) → (f : Forest X) → ((m : ℕ) → occurs m f ≤ 1) → (c p : ℕ) → parent_of f c ≡ Some p → index_of (with_node n h f) c ≡ index_of f c
  index-with_node n h e f o c p par =
      index-child (with_node n h f) c p (ap parent_in (entry-with_node n h e f o c) ∙ same_parent (entry_in f c) ∙ par)
      ∙ ap (place_in c) (ap children_in (entry-with_node n h e f o p) ∙ same_children (entry_in f p))
      ∙ sym (index-child f c p par)
    where
      same_parent : (a : Option (Entry (Node X))) → parent_in (change_at h n c a) ≡ parent_in a
      same_parent None = refl
      same_parent (Some a) = refl

      same_children : (a : Option (Entry (Node X))) → children_in (change_at h n p a) ≡ children_in a
      same_children None = refl
      same_children (Some a) = refl
