-- A tree that is put where it stood makes the forest that was; a root that is cut makes no change.
use Rattle.std.proofs.Common.{◌≡◌, ℕ, suc, ◌<◌, ◌≤◌, ◌==◌, true, false, List, [], ◌∷◌, Option, Some, None, refl, ap, sym, ◌∙◌, subst, arith, ⊎_elim}
use Rattle.std.proofs.lemmas.{Bool.Decides.nat_tests, Bool.cases_lt}
use Rattle.dom_model.specs.Definitions.{hits, head_of, after, Entry, children_in, Node, Forest, empty, node, occurs, one_at, tops, tree_at, without, placed_before, placed_under, placed_root, cut, put, entry_in, children_of, IsRising, Lies}
use Rattle.dom_model.proofs.PlainLists.{Numbers.same_or, Numbers.same, Numbers.apart, Rising.hits-low}
use Rattle.dom_model.proofs.Forests.{Changes.seen, Changes.nothing, Changes.just, Totals.total-tree_at, Totals.without-absent, Totals.tree_at-absent, Totals.beside-empty, Tops.hits-tops, Entries.Lies-entry_in, Undone.placed_under-absent, Undone.put-cut}

pub hits-head_of : (ns : List ℕ) (b : ℕ) → head_of ns ≡ Some b → 0 < hits b ns
hits-head_of [] b e = absurd (cc e)
hits-head_of (n ∷ ns) b e = elim (same_or n b) [ same d t ↦ rw t (omega arith) | apart ne t ↦ absurd (ne (let d : Some n ≡ Some b = e in cc d)) ]

pub hits-after : (c : ℕ) (ns : List ℕ) (b : ℕ) → after c ns ≡ Some b → 0 < hits b ns
hits-after c [] b e = absurd (cc e)
hits-after c (n ∷ ns) b e = grind (arith, hits-after c ns b)

module _ {X : Type 0} where
  -- a tree and what is beside it, by where the number stands
  tree-top : (c : ℕ) (x : Node X) (kids rest : Forest X) → (x.number == c) ≡ true → occurs c rest ≡ 0 → tree_at c (node x kids rest) ≡ node x kids empty
  tree-top c x kids rest v z = rw (v, tree_at-absent c rest z) refl

  left-top : (c : ℕ) (x : Node X) (kids rest : Forest X) → (x.number == c) ≡ true → occurs c rest ≡ 0 → without c (node x kids rest) ≡ rest
  left-top c x kids rest v z = rw v (without-absent c rest z)

  tree-kids : (c : ℕ) (x : Node X) (kids rest : Forest X) → (x.number == c) ≡ false → occurs c rest ≡ 0 → tree_at c (node x kids rest) ≡ tree_at c kids
  tree-kids c x kids rest v z = rw (v, tree_at-absent c rest z) (beside-empty (tree_at c kids))

  left-kids : (c : ℕ) (x : Node X) (kids rest : Forest X) → (x.number == c) ≡ false → occurs c rest ≡ 0 → without c (node x kids rest) ≡ node x (without c kids) rest
  left-kids c x kids rest v z = rw (v, without-absent c rest z) refl

  tree-rest : (c : ℕ) (x : Node X) (kids rest : Forest X) → (x.number == c) ≡ false → occurs c kids ≡ 0 → tree_at c (node x kids rest) ≡ tree_at c rest
  tree-rest c x kids rest v z = rw (v, tree_at-absent c kids z) refl

  left-rest : (c : ℕ) (x : Node X) (kids rest : Forest X) → (x.number == c) ≡ false → occurs c kids ≡ 0 → without c (node x kids rest) ≡ node x kids (without c rest)
  left-rest c x kids rest v z = rw (v, without-absent c kids z) refl

  -- what comes first of a list of trees that is not empty
  placed_first : (x : Node X) (kids rest : Forest X) → placed_before (head_of (tops rest)) (node x kids empty) rest ≡ node x kids rest
  placed_first x kids empty = refl
  placed_first x kids (node y k r) = elim (same_or y.number y.number) [ same e t ↦ rw t refl | apart ne t ↦ absurd (ne refl) ]

  -- a tree of a list is put back before the tree that followed it
  placed_again : (c : ℕ) (f : Forest X) → ((m : ℕ) → occurs m f ≤ 1) → 0 < hits c (tops f) → placed_before (after c (tops f)) (tree_at c f) (without c f) ≡ f
  placed_again c empty o h = absurd (omega arith)
  placed_again c (node x kids rest) o h =
      elim (same_or x.number c) [
        | same e t ↦ grind (arith, nat_tests, o c, tree-top c x kids rest, left-top c x kids rest, placed_first x kids rest)
        | apart ne t ↦
            let again = placed_again c rest (λ m. omega (arith, o m)) (grind (arith, nat_tests)) in
            elim (seen (after c (tops rest))) [
              | nothing d ↦ grind (arith, nat_tests, o c, hits-tops c rest, tree-rest c x kids rest, left-rest c x kids rest, again)
              | just b d ↦
                  let there = hits-after c (tops rest) b d in
                  grind (arith, nat_tests, o b, o c, hits-tops b rest, hits-tops c rest, tree-rest c x kids rest, left-rest c x kids rest, again)
            ]
      ]

  pub child-inside : (at : (ℕ → Option (Entry (Node X)))) (q : Option ℕ) (p c : ℕ) (f : Forest X) → Lies at q f → 0 < occurs p f → hits c (children_in (at p)) ≤ occurs c f
  child-inside at q p c empty l h = absurd (omega arith)
  child-inside at q p c (node x kids rest) l h = grind (arith, hits-tops c kids, child-inside at (Some x.number) p c kids l.1, child-inside at q p c rest l.2)

  placed_back : (at : (ℕ → Option (Entry (Node X)))) (q : Option ℕ) (p c : ℕ) (f : Forest X) → ((m : ℕ) → occurs m f ≤ 1) → Lies at q f → 0 < occurs p f → 0 < hits c (children_in (at p)) → placed_under p (after c (children_in (at p))) (tree_at c f) (without c f) ≡ f
  placed_back at q p c empty o l h i = absurd (omega arith)
  placed_back at q p c (node x kids rest) o l h i =
      elim (same_or x.number p) [
        | same e t ↦
            let s : children_in (at p) ≡ tops kids = ap (λ m. children_in (at m)) (sym e) ∙ ap children_in l.0 in
            let j = rw s at i in
            let again = placed_again c kids (λ m. omega (arith, o m)) j in
            rw s (grind (
              arith,
              nat_tests,
              o p,
              o c,
              hits-tops c kids,
              tree-kids c x kids rest,
              left-kids c x kids rest,
              total-tree_at (one_at p) c kids,
              placed_under-absent p (after c (tops kids)) (tree_at c kids) (without c kids),
              placed_under-absent p (after c (tops kids)) (tree_at c kids) rest,
              again,
            ))
        | apart ne t ↦
            ⊎_elim
            (λ (lt : 0 < occurs p kids).
            let there = child-inside at (Some x.number) p c kids l.1 lt in
            let again = placed_back at (Some x.number) p c kids (λ m. omega (arith, o m)) l.1 lt i in
            grind (arith, nat_tests, o p, o c, tree-kids c x kids rest, left-kids c x kids rest, placed_under-absent p b (tree_at c kids) rest, again))
            (λ (le : occurs p kids ≤ 0).
            let inside : 0 < occurs p rest = grind (arith, nat_tests) in
            let there = child-inside at q p c rest l.2 inside in
            let again = placed_back at q p c rest (λ m. omega (arith, o m)) l.2 inside i in
            grind (arith, nat_tests, o p, o c, tree-rest c x kids rest, left-rest c x kids rest, placed_under-absent p b (tree_at c rest) kids, again))
            (cases_lt 0 (occurs p kids))
      ]
    where
      b : Option ℕ
      b = after c (children_in (at p))

  -- a child put before what follows it makes no change
  pub put-same : (f : Forest X) → ((m : ℕ) → occurs m f ≤ 1) → (p c : ℕ) → 0 < occurs p f → 0 < hits c (children_of f p) → put p c (after c (children_of f p)) f ≡ f
  put-same f o p c h i = placed_back (entry_in f) None p c f o (Lies-entry_in f o) h i

  -- and so does a cut that is undone
  pub put_back-cut : (f : Forest X) → ((m : ℕ) → occurs m f ≤ 1) → (p c : ℕ) → 0 < occurs p f → 0 < hits c (children_of f p) → put p c (after c (children_of f p)) (cut c f) ≡ f
  put_back-cut f o p c h i = put-cut p c (after c (children_of f p)) f ∙ put-same f o p c h i

  -- a root that is cut stays where it is
  root_again : (low c : ℕ) (f : Forest X) → ((m : ℕ) → occurs m f ≤ 1) → IsRising low (tops f) → 0 < hits c (tops f) → placed_root c (tree_at c f) (without c f) ≡ f
  root_again low c empty o r h = absurd (omega arith)
  root_again low c (node x kids rest) o r h =
      elim (same_or x.number c) [
        | same e t ↦
            let first = lowest rest (subst (λ m. IsRising (suc m) (tops rest)) e r.1) in
            grind (arith, nat_tests, o c, tree-top c x kids rest, left-top c x kids rest, first)
        | apart ne t ↦
            let again = root_again (suc x.number) c rest (λ m. omega (arith, o m)) r.1 (grind (arith, nat_tests)) in
            grind (arith, nat_tests, o c, hits-tops c rest, hits-low (suc x.number) c (tops rest) r.1, tree-rest c x kids rest, left-rest c x kids rest, again)
      ]
    where
      lowest : (g : Forest X) → IsRising (suc c) (tops g) → placed_root c (node x kids empty) g ≡ node x kids g
      lowest empty s = refl
      lowest (node y k g) s = grind (arith, nat_tests)

  pub cut-root : (f : Forest X) → ((m : ℕ) → occurs m f ≤ 1) → IsRising 0 (tops f) → (c : ℕ) → 0 < hits c (tops f) → cut c f ≡ f
  cut-root f o r c h = root_again 0 c f o r h
