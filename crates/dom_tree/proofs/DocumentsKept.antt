-- The node documents of a forest over its changes.
use Rattle.std.proofs.Common.{◌≡◌, ℕ, ◌+◌, ◌<◌, ◌≤◌, ◌==◌, true, false, if◌then◌else◌, Option, Some, None, IsSome, refl, ap, sym, ◌∙◌, subst, arith}
use Rattle.std.proofs.lemmas.Bool.{false≢true}
use Rattle.dom_model.specs.Definitions.{Entry, parent_in, children_in, Node, Forest, empty, node, Grove, occurs, entry_in, HasNode, parent_of, children_of, beside, tree_at, without, cut, put, with_node, in_document, IsForest}
use Rattle.dom_model.proofs.PlainLists.Numbers.{same_or, same, apart}
use Rattle.dom_model.proofs.Forests.{Changes.cut_at, Changes.link_at, Changes.change_at, Entries.entry-cut, Entries.entry-put, Entries.entry_under-absent, ForestsBeside.entry-older, ForestsBeside.entry-younger}
use Rattle.dom_model.proofs.TokenText.AlikeTrees.MergedTrees.{entry-with_node}
use Rattle.dom_tree.specs.NodeDocuments.{document_at, document_in}

module _ {X : Type 0} where
  pub document-HasNode : (f : Forest X) (n : ℕ) → IsSome (document_in f n) → HasNode f n
  document-HasNode f n h = go (entry_in f n) h
    where
      go : (o : Option (Entry (Node X))) → IsSome (document_at o) → IsSome o
      go None i = i
      go (Some e) i = refl

  pub HasNode-document : (f : Forest X) (n : ℕ) → HasNode f n → IsSome (document_in f n)
  HasNode-document f n h = go (entry_in f n) h
    where
      go : (o : Option (Entry (Node X))) → IsSome o → IsSome (document_at o)
      go None i = i
      go (Some e) i = refl

  pub document-none : (f : Forest X) (n : ℕ) → occurs n f ≡ 0 → document_in f n ≡ None
  document-none f n z = ap document_at (entry_under-absent None n f z)

  pub documents-cut : (f : Forest X) → ((m : ℕ) → occurs m f ≤ 1) → (c n : ℕ) → document_in (cut c f) n ≡ document_in f n
  documents-cut f o c n = ap document_at (entry-cut f o c n) ∙ go (entry_in f n)
    where
      go : (e : Option (Entry (Node X))) → document_at (cut_at c n e) ≡ document_at e
      go None = refl
      go (Some e) = refl

  pub documents-put : (f : Forest X) → ((m : ℕ) → occurs m f ≤ 1) → (p c : ℕ) (b : Option ℕ) → 0 < occurs p f → 0 < occurs c f → parent_of f c ≡ None → occurs p (tree_at c f) ≡ 0 → (n : ℕ) → document_in (put p c b f) n ≡ document_in f n
  documents-put f o p c b hp hc r z n = ap document_at (entry-put f o p c b hp hc r z n) ∙ go (entry_in f n)
    where
      go : (e : Option (Entry (Node X))) → document_at (link_at p b c n e) ≡ document_at e
      go None = refl
      go (Some e) = refl

  -- other contents of a node, which keeps its node document
  pub documents-with_node : (f : Forest X) → ((m : ℕ) → occurs m f ≤ 1) → (c : ℕ) (h : Node X → Node X) → ((x : Node X) → (h x).number ≡ x.number) → ((x : Node X) → (h x).document ≡ x.document) → (n : ℕ) → document_in (with_node c h f) n ≡ document_in f n
  documents-with_node f o c h hn hd n = ap document_at (entry-with_node c h hn f o n) ∙ go (entry_in f n)
    where
      part : (x : Node X) → (if n == c then h x else x).document ≡ x.document
      part x = elim (n == c) as (λ v. (if v then h x else x).document ≡ x.document) [ true ↦ hd x | false ↦ refl ]

      go : (e : Option (Entry (Node X))) → document_at (change_at h c n e) ≡ document_at e
      go None = refl
      go (Some e) = ap Some (part e.value)

  -- a node in another document, and the others
  pub documents-set : (f : Forest X) → ((m : ℕ) → occurs m f ≤ 1) → (c d : ℕ) → HasNode f c → document_in (with_node c (in_document d) f) c ≡ Some d
  documents-set f o c d h = ap document_at (entry-with_node c (in_document d) (λ x. refl) f o c) ∙ go (entry_in f c) h
    where
      go : (e : Option (Entry (Node X))) → IsSome e → document_at (change_at (in_document d) c c e) ≡ Some d
      go None i = absurd (false≢true i)
      go (Some e) i = elim (same_or c c) [ same _ t ↦ rw t refl | apart ne _ ↦ absurd (ne refl) ]

  pub documents-others : (f : Forest X) → ((m : ℕ) → occurs m f ≤ 1) → (c d n : ℕ) → (n ≡ c → ⊥) → document_in (with_node c (in_document d) f) n ≡ document_in f n
  documents-others f o c d n ne = ap document_at (entry-with_node c (in_document d) (λ x. refl) f o n) ∙ go (entry_in f n)
    where
      go : (e : Option (Entry (Node X))) → document_at (change_at (in_document d) c n e) ≡ document_at e
      go None = refl
      go (Some e) = elim (same_or n c) [ same q _ ↦ absurd (ne q) | apart _ t ↦ rw t refl ]

  pub parent-set : (f : Forest X) → ((m : ℕ) → occurs m f ≤ 1) → (c d n : ℕ) → parent_of (with_node c (in_document d) f) n ≡ parent_of f n
  parent-set f o c d n = ap parent_in (entry-with_node c (in_document d) (λ x. refl) f o n) ∙ go (entry_in f n)
    where
      go : (e : Option (Entry (Node X))) → parent_in (change_at (in_document d) c n e) ≡ parent_in e
      go None = refl
      go (Some e) = refl

  pub children-set : (f : Forest X) → ((m : ℕ) → occurs m f ≤ 1) → (c d n : ℕ) → children_of (with_node c (in_document d) f) n ≡ children_of f n
  children-set f o c d n = ap children_in (entry-with_node c (in_document d) (λ x. refl) f o n) ∙ go (entry_in f n)
    where
      go : (e : Option (Entry (Node X))) → children_in (change_at (in_document d) c n e) ≡ children_in e
      go None = refl
      go (Some e) = refl

  -- one more root, and the others
  pub documents-root : (f : Forest X) (x : Node X) → occurs x.number f ≡ 0 → document_in (beside f (node x empty empty)) x.number ≡ Some x.document
  documents-root f x z =
      ap document_at (entry-younger x.number f (node x empty empty) z)
      ∙ elim (same_or x.number x.number) [ same _ t ↦ rw t refl | apart ne _ ↦ absurd (ne refl) ]

  pub root-held : (f : Forest X) (x : Node X) → occurs x.number f ≡ 0 → HasNode (beside f (node x empty empty)) x.number
  root-held f x z = document-HasNode (beside f (node x empty empty)) x.number (rw (documents-root f x z) refl)

  pub documents-older : (f : Forest X) (x : Node X) (n : ℕ) → (n ≡ x.number → ⊥) → document_in (beside f (node x empty empty)) n ≡ document_in f n
  documents-older f x n ne =
      ap document_at (entry-older n f (node x empty empty) (elim (same_or x.number n) [ same q _ ↦ absurd (ne (sym q)) | apart _ t ↦ rw t refl ]))

  -- the new root goes into a document
  pub root-with_node : (f : Forest X) (x : Node X) (h : Node X → Node X) → occurs x.number f ≡ 0 → with_node x.number h (beside f (node x empty empty)) ≡ beside f (node (h x) empty empty)
  root-with_node empty x h z = elim (same_or x.number x.number) [ same _ t ↦ rw t refl | apart ne _ ↦ absurd (ne refl) ]
  root-with_node (node y kids rest) x h z =
      elim (same_or y.number x.number) [
        | same _ t ↦ absurd (let k = rw t at z in omega arith)
        | apart _ t ↦
            let k = rw t at z in
            let zk : occurs x.number kids ≡ 0 = omega arith in
            let zr : occurs x.number rest ≡ 0 = omega arith in
            rw (t, absent kids zk, root-with_node rest x h zr) refl
      ]
    where
      absent : (g : Forest X) → occurs x.number g ≡ 0 → with_node x.number h g ≡ g
      absent empty i = refl
      absent (node q ks r) i =
          elim (same_or q.number x.number) [
            | same _ t ↦ absurd (let k = rw t at i in omega arith)
            | apart _ t ↦
                let k = rw t at i in
                let zk : occurs x.number ks ≡ 0 = omega arith in
                let zr : occurs x.number r ≡ 0 = omega arith in
                rw (t, absent ks zk, absent r zr) refl
          ]

  -- a node that goes does not show what it was
  pub without-with_node : (n : ℕ) (h : Node X → Node X) → ((x : Node X) → (h x).number ≡ x.number) → (f : Forest X) → without n (with_node n h f) ≡ without n f
  without-with_node n h e empty = refl
  without-with_node n h e (node x kids rest) =
      elim (same_or x.number n) [
        | same q t ↦ rw t (rw (e x, t) (without-with_node n h e rest))
        | apart ne t ↦ rw t (rw t (λ i. node x (without-with_node n h e kids i) (without-with_node n h e rest i)))
      ]

-- a root that is made in itself, and then goes into a document
module _ {X : Type 0} (g h : Grove X) (x : Node X) (id : ℕ) (s : IsForest g) (number : x.number ≡ g.made) (same : id ≡ g.made) (made : ◌≡◌ {A = Grove X} h (record { forest = beside g.forest (node x empty empty); made = g.made + 1 })) where
  absent : occurs x.number g.forest ≡ 0
  absent = s.small x.number (omega (arith, number))

  is : id ≡ x.number
  is = same ∙ sym number

  pub made-held : HasNode h.forest id
  made-held =
      subst (λ m. HasNode h.forest m) (sym is)
      (subst (λ (q : Grove X). HasNode q.forest x.number) (sym made) (root-held g.forest x absent))

  pub made-moved : (k : Grove X) (d document : ℕ) → d ≡ document → ◌≡◌ {A = Grove X} k (record { forest = with_node id (in_document d) h.forest; made = h.made }) → ◌≡◌ {A = Grove X} k (record { forest = beside g.forest (node (in_document document x) empty empty); made = g.made + 1 })
  made-moved k d document e moved =
      moved
      ∙ (λ i. record { forest = with_node (is i) (in_document (e i)) (ap (λ (q : Grove X). q.forest) made i); made = ap (λ (q : Grove X). q.made) made i })
      ∙ (λ i. record { forest = root-with_node g.forest x (in_document document) absent i; made = g.made + 1 })
