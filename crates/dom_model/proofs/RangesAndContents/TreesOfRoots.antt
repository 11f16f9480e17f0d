-- The tree of a root as other trees are cut from it, go elsewhere and come: it loses the trees that are cut, and nothing else.
use Rattle.std.proofs.Common.{◌≡◌, ℕ, ◌<◌, ◌≤◌, ◌==◌, nat_lt, true, false, if◌then◌else◌, List, [], ◌∷◌, ◌++◌, Option, Some, None, option_map, refl, ap, ◌∙◌, arith, inl, inr}
use Rattle.std.proofs.lemmas.{Bool.cases_lt, Bool.Decides.nat_tests}
use Rattle.dom_model.specs.Definitions.{hits, is_number, or_else, left_out, Entry, children_in, Node, Forest, empty, node, occurs, one_at, tops, beside, tree_at, without, placed_before, placed_under, placed_root, cut, put, in_document, adopted, map_nodes, entry_under, entry_in, parent_of, children_of, Content}
use Rattle.dom_model.proofs.PlainLists.Numbers.{same_or, same, apart}
use Rattle.dom_model.proofs.Forests.{Totals.IsOnce, Totals.total-beside, Totals.total-tree_at, Totals.tree_at-absent, Tops.tops-without, Tops.hits-tops, Climbing.hits-first, Entries.entry_under-absent, Lying.left_out-absent, Undone.tree_at-beside, Undone.without-beside, Undone.placed_under-absent, Documents.adopted-absent}
use Rattle.dom_model.proofs.Worlds.SameShape.{occurs-alike, map-alike}

-- the trees of the list go, one after another
abbrev pub taken : {X : Type 0} → List ℕ → Forest X → Forest X
taken [] t = t
taken (n ∷ ns) t = taken ns (without n t)

pub taken-append : {X : Type 0} (ns ms : List ℕ) (t : Forest X) → taken (ns ++ ms) t ≡ taken ms (taken ns t)
taken-append [] ms t = refl
taken-append (n ∷ ns) ms t = taken-append ns ms (without n t)

module _ {X : Type 0} where
  pub occurs-left : (m c : ℕ) (t : Forest X) → occurs m (without c t) ≤ occurs m t
  occurs-left m c t = omega (arith, total-tree_at (one_at m) c t)

  pub tree-without : (r n : ℕ) (f : Forest X) → occurs r (tree_at n f) ≡ 0 → tree_at r (without n f) ≡ without n (tree_at r f)
  tree-without r n empty h = refl
  tree-without r n (node x kids rest) h =
      grind (
        arith,
        nat_tests,
        total-beside (one_at r) (tree_at n kids) (tree_at n rest),
        tree_at-absent r kids,
        tree-without r n kids,
        tree-without r n rest,
        without-beside n (tree_at r kids) (tree_at r rest),
      )

  tree-placed_root : (r n : ℕ) (t f : Forest X) → occurs r t ≡ 0 → tree_at r (placed_root n t f) ≡ tree_at r f
  tree-placed_root r n t empty z = tree_at-absent r t z
  tree-placed_root r n t (node x kids rest) z =
      let later = tree-placed_root r n t rest z in
      elim (nat_lt n x.number) as (λ v. tree_at r (if v then beside t (node x kids rest) else node x kids (placed_root n t rest)) ≡ tree_at r (node x kids rest)) [
        | true ↦ tree_at-beside r t (node x kids rest) ∙ ap (λ (g : Forest X). beside g (tree_at r (node x kids rest))) (tree_at-absent r t z)
        | false ↦ ap (λ (g : Forest X). if x.number == r then node x kids g else beside (tree_at r kids) g) later
      ]

  pub tree-cut : (r n : ℕ) (f : Forest X) → occurs r (tree_at n f) ≡ 0 → tree_at r (cut n f) ≡ without n (tree_at r f)
  tree-cut r n f z = tree-placed_root r n (tree_at n f) (without n f) z ∙ tree-without r n f z

  tree-placed_before : (r : ℕ) (b : Option ℕ) (t f : Forest X) → occurs r t ≡ 0 → tree_at r (placed_before b t f) ≡ tree_at r f
  tree-placed_before r b t empty z = tree_at-absent r t z
  tree-placed_before r b t (node x kids rest) z =
      let later = tree-placed_before r b t rest z in
      elim (is_number b x.number) as (λ v. tree_at r (if v then beside t (node x kids rest) else node x kids (placed_before b t rest)) ≡ tree_at r (node x kids rest)) [
        | true ↦ tree_at-beside r t (node x kids rest) ∙ ap (λ (g : Forest X). beside g (tree_at r (node x kids rest))) (tree_at-absent r t z)
        | false ↦ ap (λ (g : Forest X). if x.number == r then node x kids g else beside (tree_at r kids) g) later
      ]

  tree-placed_under : (r p : ℕ) (b : Option ℕ) (t f : Forest X) → occurs p (tree_at r f) ≡ 0 → occurs r t ≡ 0 → tree_at r (placed_under p b t f) ≡ tree_at r f
  tree-placed_under r p b t empty h z = refl
  tree-placed_under r p b t (node x kids rest) h z =
      elim (same_or x.number r) [
        | same d u ↦
            let k = rw u at h in
            elim (same_or x.number p) [
              | same e v ↦ absurd (let l = rw v at k in omega arith)
              | apart ne v ↦
                  let l = rw v at k in
                  let deeper = placed_under-absent p b t kids (omega arith) in
                  let later = tree-placed_under r p b t rest (omega arith) z in
                  rw (u, v) (ap (λ (g : Forest X). node x g (tree_at r (placed_under p b t rest))) deeper ∙ ap (λ (g : Forest X). node x kids g) later)
            ]
        | apart nr u ↦
            let k = rw u at h in
            let s = total-beside (one_at p) (tree_at r kids) (tree_at r rest) in
            let deeper = tree-placed_under r p b t kids (omega arith) z in
            let later = tree-placed_under r p b t rest (omega arith) z in
            rw u
            (ap (λ (g : Forest X). beside g (tree_at r (placed_under p b t rest)))
            (elim (x.number == p) as (λ v. tree_at r (if v then placed_before b t (placed_under p b t kids) else placed_under p b t kids) ≡ tree_at r kids) [
              | true ↦ tree-placed_before r b t (placed_under p b t kids) z ∙ deeper
              | false ↦ deeper
            ])
            ∙ ap (λ (g : Forest X). beside (tree_at r kids) g) later)
      ]

  pub tree-put : (r p n : ℕ) (b : Option ℕ) (f : Forest X) → occurs r (tree_at n f) ≡ 0 → occurs p (tree_at r f) ≡ 0 → tree_at r (put p n b f) ≡ without n (tree_at r f)
  tree-put r p n b f z h =
      let e = tree-without r n f z in
      let o = occurs-left p n (tree_at r f) in
      tree-placed_under r p b (tree_at n f) (without n f) (ap (λ (g : Forest X). occurs p g) e ∙ (omega arith)) z ∙ e

  -- no other tree has the root inside
  pub top-clear : (r n : ℕ) (f : Forest X) → IsOnce f → 0 < hits r (tops f) → (n ≡ r → ⊥) → occurs r (tree_at n f) ≡ 0
  top-clear r n empty o h ne = refl
  top-clear r n (node x kids rest) o h ne =
      let oc = o r in
      let l = hits-tops r rest in
      let later = top-clear r n rest (λ q. let y = o q in omega arith) in
      grind (arith, nat_tests, total-tree_at (one_at r) n kids, total-tree_at (one_at r) n rest, total-beside (one_at r) (tree_at n kids) (tree_at n rest))

  -- a root has no parent
  pub top-parent : (r : ℕ) (f : Forest X) → IsOnce f → 0 < hits r (tops f) → parent_of f r ≡ None
  top-parent r empty o h = absurd (omega arith)
  top-parent r (node x kids rest) o h =
      let oc = o r in
      let l = hits-tops r rest in
      grind (arith, nat_tests, entry_under-absent (Some x.number) r kids, top-parent r rest (λ q. let y = o q in omega arith))

  -- the entry of a node in the tree of a root is that in the whole
  pub entry-of_tree : (r n : ℕ) (f : Forest X) → IsOnce f → 0 < hits r (tops f) → 0 < occurs n (tree_at r f) → entry_in f n ≡ entry_in (tree_at r f) n
  entry-of_tree r n empty o h i = absurd (omega arith)
  entry-of_tree r n (node x kids rest) o h i =
      let oc = o r in
      let on = o n in
      let top = hits-tops r rest in
      grind (
        arith,
        nat_tests,
        tree_at-absent r kids,
        tree_at-absent r rest,
        entry_under-absent None n rest,
        entry_under-absent (Some x.number) n kids,
        total-tree_at (one_at n) r rest,
        entry-of_tree r n rest (λ q. let y = o q in omega arith),
      )

  -- what is left of an entry
  abbrev pub left_at : ℕ → Option (Entry (Node X)) → Option (Entry (Node X))
  left_at c o = option_map (λ (e : Entry (Node X)). record { value = e.value; parent = e.parent; children = left_out c e.children }) o

  pub entry-without : (p : Option ℕ) (c x : ℕ) (t : Forest X) → IsOnce t → 0 < occurs x (without c t) → entry_under p x (without c t) ≡ left_at c (entry_under p x t)
  entry-without p c x empty o h = absurd (omega arith)
  entry-without p c x (node y kids rest) o h =
      let ox = o x in
      let once_kids : IsOnce kids = λ q. let z = o q in omega arith in
      let once_rest : IsOnce rest = λ q. let z = o q in omega arith in
      elim (cases_lt 0 (occurs x (without c kids))) [
        | inl lt ↦
            let in_kids = entry-without (Some y.number) c x kids once_kids lt in
            grind (
              arith,
              nat_tests,
              occurs-left x c kids,
              occurs-left x c rest,
              tops-without c kids,
              entry_under-absent p x (without c rest),
              entry_under-absent p x rest,
              entry_under-absent (Some y.number) x kids,
              entry-without p c x rest once_rest,
              both (entry_under (Some y.number) x kids) (entry_under p x rest),
            )
        | inr le ↦
            grind (
              arith,
              nat_tests,
              occurs-left x c kids,
              occurs-left x c rest,
              tops-without c kids,
              entry_under-absent (Some y.number) x (without c kids),
              entry_under-absent (Some y.number) x kids,
              entry-without p c x rest once_rest,
              both (entry_under (Some y.number) x kids) (entry_under p x rest),
            )
      ]
    where
      both : (a b : Option (Entry (Node X))) → or_else (left_at c a) (left_at c b) ≡ left_at c (or_else a b)
      both None b = refl
      both (Some e) b = refl

  -- a tree in what is left is no more than it was
  pub tree-less : (x c d : ℕ) (t : Forest X) → occurs x (tree_at c (without d t)) ≤ occurs x (tree_at c t)
  tree-less x c d empty = omega arith
  tree-less x c d (node y kids rest) =
      grind (
        arith,
        nat_tests,
        tree-less x c d kids,
        tree-less x c d rest,
        occurs-left x d kids,
        total-beside (one_at x) (tree_at c kids) (tree_at c rest),
        total-beside (one_at x) (tree_at c (without d kids)) (tree_at c (without d rest)),
      )

  pub once-left : (c : ℕ) (t : Forest X) → IsOnce t → IsOnce (without c t)
  once-left c t o m = let a = o m in let b = occurs-left m c t in omega arith

  pub occurs-taken : (m : ℕ) (ns : List ℕ) (t : Forest X) → occurs m (taken ns t) ≤ occurs m t
  occurs-taken m [] t = omega arith
  occurs-taken m (n ∷ ns) t = let a = occurs-taken m ns (without n t) in let b = occurs-left m n t in omega arith

  pub tree-taken : (x c : ℕ) (ns : List ℕ) (t : Forest X) → occurs x (tree_at c (taken ns t)) ≤ occurs x (tree_at c t)
  tree-taken x c [] t = omega arith
  tree-taken x c (n ∷ ns) t = let a = tree-taken x c ns (without n t) in let b = tree-less x c n t in omega arith

  -- a node stays as it is, where no tree that goes is one of a child of it, or has it inside
  pub entry-taken : (ns : List ℕ) (x : ℕ) (t : Forest X) → IsOnce t → 0 < occurs x t → ((c : ℕ) → 0 < hits c ns → (occurs x (tree_at c t) ≡ 0) × (hits c (children_of t x) ≡ 0)) → (0 < occurs x (taken ns t)) × (entry_in (taken ns t) x ≡ entry_in t x)
  entry-taken [] x t o h free = (h, refl)
  entry-taken (n ∷ ns) x t o h free =
      let first = free n (hits-first n ns) in
      let a = total-tree_at (one_at x) n t in
      let z = first.0 in
      let there : 0 < occurs x (without n t) = omega arith in
      let e : entry_in (without n t) x ≡ entry_in t x = entry-without None n x t o there ∙ kept (entry_in t x) first.1 in
      let next = entry-taken ns x (without n t) (once-left n t o) there (λ c k.
      let i = free c (omega arith) in
      let y = i.0 in
      let l = tree-less x c n t in
      (omega arith, ap (λ q. hits c (children_in q)) e ∙ i.1))
      in
      (next.0, next.1 ∙ e)
    where
      kept : (q : Option (Entry (Node X))) → hits n (children_in q) ≡ 0 → left_at n q ≡ q
      kept None k = refl
      kept (Some e) k = ap (λ ms. Some (record { value = e.value; parent = e.parent; children = ms })) (left_out-absent n e.children k)

-- a change of documents elsewhere
pub tree-adopted : (r n d : ℕ) (f : Forest Content) → occurs n (tree_at r f) ≡ 0 → occurs r (tree_at n f) ≡ 0 → tree_at r (adopted n d f) ≡ tree_at r f
tree-adopted r n d empty h k = refl
tree-adopted r n d (node x kids rest) h k =
    let alike = occurs-alike (map-alike (in_document d) (λ y. refl) (node x kids empty)) r in
    grind (
      arith,
      nat_tests,
      total-beside (one_at r) (tree_at n kids) (tree_at n rest),
      total-beside (one_at n) (tree_at r kids) (tree_at r rest),
      tree_at-absent r kids,
      tree_at-absent r (map_nodes (in_document d) (node x kids empty)),
      tree_at-beside r (map_nodes (in_document d) (node x kids empty)) (adopted n d rest),
      adopted-absent n d kids,
      tree-adopted r n d kids,
      tree-adopted r n d rest,
    )
