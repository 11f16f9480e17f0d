-- In each tree all nodes keep one node document, wherever its nodes go.
use Rattle.std.proofs.Common.{IfSome, ◌≡◌, ℕ, ◌≤◌, true, false, if◌then◌else◌, nat_lt, Option, Some, None, refl, sym, subst, arith}
use Rattle.dom_model.specs.Definitions.{Entry, parent_in, Node, Forest, empty, node, occurs, entry_in, parent_of, beside, tree_at, without, placed_before, placed_under, placed_root, cut, put, map_nodes, in_document, adopted, IsInDocument, HasOneDocument, HasDocument, Lies}
use Rattle.dom_model.proofs.PlainLists.Numbers.{same_or, same, apart}
use Rattle.dom_model.proofs.Forests.{Totals.occurs-without, Totals.tree_at-absent, Undone.placed_under-absent, Lying.absent_under, Entries.Lies-entry_in, EachNode.EachNode-beside, EachNode.EachNode-tree_at, EachNode.EachNode-without, EachNode.EachNode-placed_before, EachNode.EachNode-placed_under, EachNode.EachNode-put}

module _ {X : Type 0} where
  -- The node document that is told of a number.

  HasDocument-Lies : (at : (ℕ → Option (Entry (Node X)))) (q : Option ℕ) (n d : ℕ) (f : Forest X) → Lies at q f → IfSome (at n) (λ e. d ≡ e.value.document) → HasDocument n d f
  HasDocument-Lies at q n d empty l h = tt
  HasDocument-Lies at q n d (node x kids rest) l h = (
    λ e. let k = rw (← e, l.0) at h in sym k,
    HasDocument-Lies at (Some x.number) n d kids l.1 h,
    HasDocument-Lies at q n d rest l.2 h,
  )

  -- where a number stands once, its entry tells its node document
  pub HasDocument-entry : (n d : ℕ) (f : Forest X) → ((m : ℕ) → occurs m f ≤ 1) → IfSome (entry_in f n) (λ e. d ≡ e.value.document) → HasDocument n d f
  HasDocument-entry n d f o h = HasDocument-Lies (entry_in f) None n d f (Lies-entry_in f o) h

  -- A number in a document does not stand in a tree of another.

  absent : (n d e : ℕ) (f : Forest X) → (e ≡ d → ⊥) → IsInDocument e f → HasDocument n d f → occurs n f ≡ 0
  absent n d e empty ne i h = refl
  absent n d e (node x kids rest) ne i h = grind (arith, absent n d e kids ne i.1 h.1, absent n d e rest ne i.2 h.2)

  IsInDocument-as : (d e : ℕ) (f : Forest X) → d ≡ e → IsInDocument d f → IsInDocument e f
  IsInDocument-as d e f s h = subst (λ m. IsInDocument m f) s h

  pub IsInDocument-set : (d : ℕ) (f : Forest X) → IsInDocument d (map_nodes (in_document d) f)
  IsInDocument-set d empty = tt
  IsInDocument-set d (node x kids rest) = (refl, IsInDocument-set d kids, IsInDocument-set d rest)

  -- where all nodes are in a document, each tree has one
  pub HasOneDocument-in : (d : ℕ) (f : Forest X) → IsInDocument d f → HasOneDocument f
  HasOneDocument-in d empty h = tt
  HasOneDocument-in d (node x kids rest) h = (IsInDocument-as d x.document kids (sym h.0) h.1, HasOneDocument-in d rest h.2)

  -- New nodes, parts and roots.

  pub HasOneDocument-beside : (f g : Forest X) → HasOneDocument f → HasOneDocument g → HasOneDocument (beside f g)
  HasOneDocument-beside empty g h k = k
  HasOneDocument-beside (node x kids rest) g h k = (h.0, HasOneDocument-beside rest g h.1 k)

  pub HasOneDocument-new_root : (f : Forest X) (x : Node X) → HasOneDocument f → HasOneDocument (beside f (node x empty empty))
  HasOneDocument-new_root f x h = HasOneDocument-beside f (node x empty empty) h (tt, tt)

  pub HasOneDocument-tree_at : (n : ℕ) (f : Forest X) → HasOneDocument f → HasOneDocument (tree_at n f)
  HasOneDocument-tree_at n empty h = tt
  HasOneDocument-tree_at n (node x kids rest) h =
      let later = HasOneDocument-tree_at n rest h.1 in
      elim (same_or x.number n) [
        | same e t ↦ rw t (h.0, later)
        | apart ne t ↦
            let inside = HasOneDocument-in x.document (tree_at n kids) (EachNode-tree_at (λ y. y.document ≡ x.document) n kids h.0) in
            rw t (HasOneDocument-beside (tree_at n kids) (tree_at n rest) inside later)
      ]

  pub HasOneDocument-without : (n : ℕ) (f : Forest X) → HasOneDocument f → HasOneDocument (without n f)
  HasOneDocument-without n empty h = tt
  HasOneDocument-without n (node x kids rest) h =
      let later = HasOneDocument-without n rest h.1 in
      elim (same_or x.number n) [
        | same e t ↦ rw t later
        | apart ne t ↦ rw t (EachNode-without (λ y. y.document ≡ x.document) n kids h.0, later)
      ]

  pub HasOneDocument-placed_root : (n : ℕ) (g f : Forest X) → HasOneDocument g → HasOneDocument f → HasOneDocument (placed_root n g f)
  HasOneDocument-placed_root n g empty k h = k
  HasOneDocument-placed_root n g (node x kids rest) k h =
      elim (nat_lt n x.number) as (λ v. HasOneDocument (if v then beside g (node x kids rest) else node x kids (placed_root n g rest))) [
        | true ↦ HasOneDocument-beside g (node x kids rest) k h
        | false ↦ (h.0, HasOneDocument-placed_root n g rest k h.1)
      ]

  pub HasOneDocument-cut : (c : ℕ) (f : Forest X) → HasOneDocument f → HasOneDocument (cut c f)
  HasOneDocument-cut c f h = HasOneDocument-placed_root c (tree_at c f) (without c f) (HasOneDocument-tree_at c f h) (HasOneDocument-without c f h)

  -- A put of a tree in the parent's document.

  placed_in : (p d e : ℕ) (b : Option ℕ) (g f : Forest X) → IsInDocument d g → IsInDocument e f → HasDocument p d f → IsInDocument e (placed_under p b g f)
  placed_in p d e b g f k i h =
      elim (same_or e d) [
        | same s t ↦ EachNode-placed_under (λ y. y.document ≡ e) p b g f (IsInDocument-as d e g (sym s) k) i
        | apart ne t ↦ rw (placed_under-absent p b g f (absent p d e f ne i h)) i
      ]

  pub HasOneDocument-placed_under : (p d : ℕ) (b : Option ℕ) (g f : Forest X) → IsInDocument d g → HasOneDocument f → HasDocument p d f → HasOneDocument (placed_under p b g f)
  HasOneDocument-placed_under p d b g empty k h w = tt
  HasOneDocument-placed_under p d b g (node x kids rest) k h w =
      let deeper = placed_in p d x.document b g kids k h.0 w.1 in
      let later = HasOneDocument-placed_under p d b g rest k h.1 w.2 in
      elim (same_or x.number p) [
        | same e t ↦
            let g_in = IsInDocument-as d x.document g (sym (w.0 e)) k in
            rw t (EachNode-placed_before (λ y. y.document ≡ x.document) b g (placed_under p b g kids) g_in deeper, later)
        | apart ne t ↦ rw t (deeper, later)
      ]

  tree_in : (c d e : ℕ) (f : Forest X) → IsInDocument e f → HasDocument c d f → IsInDocument d (tree_at c f)
  tree_in c d e f i h =
      elim (same_or e d) [
        | same s t ↦ EachNode-tree_at (λ y. y.document ≡ d) c f (IsInDocument-as e d f s i)
        | apart ne t ↦ rw (tree_at-absent c f (absent c d e f ne i h)) tt
      ]

  -- the tree of a number is in its node document
  pub IsInDocument-tree_at : (c d : ℕ) (f : Forest X) → HasOneDocument f → HasDocument c d f → IsInDocument d (tree_at c f)
  IsInDocument-tree_at c d empty h w = tt
  IsInDocument-tree_at c d (node x kids rest) h w =
      let later = IsInDocument-tree_at c d rest h.1 w.2 in
      elim (same_or x.number c) [
        | same e t ↦ rw t (w.0 e, IsInDocument-as x.document d kids (w.0 e) h.0, later)
        | apart ne t ↦ rw t (EachNode-beside (λ y. y.document ≡ d) (tree_at c kids) (tree_at c rest) (tree_in c d x.document kids h.0 w.1) later)
      ]

  pub HasOneDocument-put : (p c d : ℕ) (b : Option ℕ) (f : Forest X) → HasOneDocument f → HasDocument p d f → HasDocument c d f → HasOneDocument (put p c b f)
  HasOneDocument-put p c d b f h hp hc =
      HasOneDocument-placed_under p d b (tree_at c f) (without c f) (IsInDocument-tree_at c d f h hc) (HasOneDocument-without c f h) (EachNode-without _ c f hp)

  -- Adopting: DOM Standard, "Interface Document".

  set-same : (d : ℕ) (f : Forest X) → IsInDocument d f → map_nodes (in_document d) f ≡ f
  set-same d empty h = refl
  set-same d (node x kids rest) h = rw (set-same d kids h.1, set-same d rest h.2, ← h.0) refl

  pub adopted-absent : (n d : ℕ) (f : Forest X) → occurs n f ≡ 0 → adopted n d f ≡ f
  adopted-absent n d empty h = refl
  adopted-absent n d (node x kids rest) h = grind (arith, adopted-absent n d kids, adopted-absent n d rest)

  adopted-in : (n d : ℕ) (f : Forest X) → IsInDocument d f → adopted n d f ≡ f
  adopted-in n d empty h = refl
  adopted-in n d (node x kids rest) h = grind (arith, set-same d kids h.1, adopted-in n d rest h.2, adopted-in n d kids h.1)

  same_within : (n d e : ℕ) (f : Forest X) → IsInDocument e f → HasDocument n d f → adopted n d f ≡ f
  same_within n d e f i h = grind (arith, adopted-in n d f, adopted-absent n d f, absent n d e f)

  -- a node that is in the document already: nothing changes
  pub adopted-same : (n d : ℕ) (f : Forest X) → HasOneDocument f → HasDocument n d f → adopted n d f ≡ f
  adopted-same n d empty h w = refl
  adopted-same n d (node x kids rest) h w = grind (arith, same_within n d x.document kids h.0 w.1, adopted-same n d rest h.1 w.2, set-same d kids)

  -- so also after a put in the parent's document
  pub adopted-put_same : (p c d : ℕ) (b : Option ℕ) (f : Forest X) → HasOneDocument f → HasDocument p d f → HasDocument c d f → adopted c d (put p c b f) ≡ put p c b f
  adopted-put_same p c d b f h hp hc =
      adopted-same c d (put p c b f) (HasOneDocument-put p c d b f h hp hc) (EachNode-put _ p c b f hc)

  pub adopted-beside : (n d : ℕ) (f g : Forest X) → adopted n d (beside f g) ≡ beside (adopted n d f) (adopted n d g)
  adopted-beside n d empty g = refl
  adopted-beside n d (node x kids rest) g = grind (arith, adopted-beside n d rest g)

  set-beside : (d : ℕ) (f g : Forest X) → map_nodes (in_document d) (beside f g) ≡ beside (map_nodes (in_document d) f) (map_nodes (in_document d) g)
  set-beside d empty g = refl
  set-beside d (node x kids rest) g = rw (set-beside d rest g) refl

  adopted-tree_at : (n d : ℕ) (f : Forest X) → adopted n d (tree_at n f) ≡ map_nodes (in_document d) (tree_at n f)
  adopted-tree_at n d empty = refl
  adopted-tree_at n d (node x kids rest) = grind (arith, adopted-tree_at n d rest, adopted-beside n d, adopted-tree_at n d kids, set-beside d)

  adopted-placed_before : (n d : ℕ) (b : Option ℕ) (g f : Forest X) → adopted n d (placed_before b g f) ≡ placed_before b (adopted n d g) (adopted n d f)
  adopted-placed_before n d b g empty = refl
  adopted-placed_before n d b g (node x kids rest) = grind (arith, adopted-placed_before n d b g rest, adopted-beside n d g (node x kids rest))

  adopted-placed_under : (n p d : ℕ) (b : Option ℕ) (g f : Forest X) → occurs n f ≡ 0 → adopted n d (placed_under p b g f) ≡ placed_under p b (adopted n d g) f
  adopted-placed_under n p d b g empty z = refl
  adopted-placed_under n p d b g (node x kids rest) z =
      grind (arith, adopted-placed_under n p d b g kids, adopted-placed_under n p d b g rest, adopted-placed_before n d b g (placed_under p b g kids))

  -- a put and then an adoption put the tree in its new document
  pub adopted-put : (p c d : ℕ) (b : Option ℕ) (f : Forest X) → adopted c d (put p c b f) ≡ placed_under p b (map_nodes (in_document d) (tree_at c f)) (without c f)
  adopted-put p c d b f = grind (arith, adopted-placed_under c p d b (tree_at c f) (without c f) (occurs-without c f), adopted-tree_at c d f)

  pub HasOneDocument-adopted_put : (p c d : ℕ) (b : Option ℕ) (f : Forest X) → HasOneDocument f → HasDocument p d f → HasOneDocument (adopted c d (put p c b f))
  HasOneDocument-adopted_put p c d b f h w =
      let t = map_nodes (in_document d) (tree_at c f) in
      rw (adopted-put p c d b f) (HasOneDocument-placed_under p d b t (without c f) (IsInDocument-set d (tree_at c f)) (HasOneDocument-without c f h) (EachNode-without _ c f w))

  adopted-root : (at : (ℕ → Option (Entry (Node X)))) (n d : ℕ) (f : Forest X) → parent_in (at n) ≡ None → Lies at None f → HasOneDocument f → HasOneDocument (adopted n d f)
  adopted-root at n d empty r l h = tt
  adopted-root at n d (node x kids rest) r l h =
      let later = adopted-root at n d rest r l.2 h.1 in
      elim (same_or x.number n) [
        | same e t ↦ rw t (IsInDocument-set d kids, later)
        | apart ne t ↦ rw (t, adopted-absent n d kids (absent_under at n x.number kids r l.1)) (h.0, later)
      ]

  -- a root that is adopted
  pub HasOneDocument-adopted : (n d : ℕ) (f : Forest X) → ((m : ℕ) → occurs m f ≤ 1) → parent_of f n ≡ None → HasOneDocument f → HasOneDocument (adopted n d f)
  HasOneDocument-adopted n d f o r h = adopted-root (entry_in f) n d f r (Lies-entry_in f o) h
