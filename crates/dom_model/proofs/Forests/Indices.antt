-- Children and parents name one another; the index of a node, and its place on paths, as trees are cut and put.
use Rattle.std.proofs.Common.{◌≡◌, ℕ, ◌+◌, ◌*◌, ◌<◌, ◌≤◌, ◌==◌, nat_lt, nat_le, false, if◌then◌else◌, [], ◌∷◌, ◌++◌, Option, Some, None, refl, ap, sym, ◌∙◌, arith, ◌⊎◌, inl, inr, ⊎_elim}
use Rattle.std.proofs.lemmas.{Bool.Decides.nat_tests, Bool.cases_lt, List.reverse-append, List.length-reverse, List.map-append}
use Rattle.dom_model.specs.Definitions.{hits, place_in, Entry, parent_in, children_in, names, IsLinked, Node, Forest, empty, node, occurs, tops, tree_at, cut, put, entry_in, parent_of, children_of, index_of, ancestors, path_places, Lies}
use Rattle.dom_model.proofs.PlainLists.{Numbers.same_or, Numbers.same, Numbers.apart, Places.place_before, Places.place-left_out, Places.place-kept}
use Rattle.dom_model.proofs.Forests.{Climbing.ancestors-there, Entries.Lies-entry_in, Entries.entry_under-absent, Entries.parent-cut, Entries.children-cut, Entries.parent-put, Entries.children-put, Entries.occurs-HasNode, Paths.parent-path, Paths.root-path, PutBack.child-inside}

module _ {X : Type 0} where
  listed : (at : (ℕ → Option (Entry (Node X)))) (above : Option ℕ) (n q : ℕ) (f : Forest X) → Lies at above f → 0 < occurs n f → parent_in (at n) ≡ Some q → ((above ≡ Some q) × (0 < hits n (tops f))) ⊎ (0 < hits n (children_in (at q)))
  listed at above n q empty l h e = absurd (omega arith)
  listed at above n q (node x kids rest) l h e =
      elim (same_or x.number n) [
        | same d t ↦
            let s : parent_in (at n) ≡ above = ap (λ m. parent_in (at m)) (sym d) ∙ ap parent_in l.0 in
            inl (sym s ∙ e, rw t (omega arith))
        | apart ne t ↦
            let k = rw t at h in
            ⊎_elim
            (λ (lt : 0 < occurs n kids). from_kids (listed at (Some x.number) n q kids l.1 lt e))
            (λ (le : occurs n kids ≤ 0). from_rest t (listed at above n q rest l.2 (omega arith) e))
            (cases_lt 0 (occurs n kids))
      ]
    where
      from_kids : ((Some x.number ≡ Some q) × (0 < hits n (tops kids))) ⊎ (0 < hits n (children_in (at q))) → ((above ≡ Some q) × (0 < hits n (tops (node x kids rest)))) ⊎ (0 < hits n (children_in (at q)))
      from_kids (inl i) =
          let d : x.number ≡ q = (let u = i.0 in cc u) in
          let s : children_in (at q) ≡ tops kids = ap (λ m. children_in (at m)) (sym d) ∙ ap children_in l.0 in
          inr (rw s i.1)
      from_kids (inr i) = inr i

      from_rest : (x.number == n) ≡ false → ((above ≡ Some q) × (0 < hits n (tops rest))) ⊎ (0 < hits n (children_in (at q))) → ((above ≡ Some q) × (0 < hits n (tops (node x kids rest)))) ⊎ (0 < hits n (children_in (at q)))
      from_rest t (inl i) = let k = i.1 in inl (i.0, rw t (omega arith))
      from_rest t (inr i) = inr i

  -- a node stands among its parent's children
  pub child-listed : (f : Forest X) → ((m : ℕ) → occurs m f ≤ 1) → (n q : ℕ) → 0 < occurs n f → parent_of f n ≡ Some q → 0 < hits n (children_of f q)
  child-listed f o n q h e = grind (arith, listed (entry_in f) None n q f (Lies-entry_in f o) h e)

  -- and there once
  pub child-once : (f : Forest X) → ((m : ℕ) → occurs m f ≤ 1) → (n q : ℕ) → hits n (children_of f q) ≤ 1
  child-once f o n q = grind (arith, child-inside (entry_in f) None q n f (Lies-entry_in f o), entry_under-absent None q f)

  tops-parent : (at : (ℕ → Option (Entry (Node X)))) (above : Option ℕ) (n : ℕ) (f : Forest X) → Lies at above f → 0 < hits n (tops f) → parent_in (at n) ≡ above
  tops-parent at above n empty l h = absurd (omega arith)
  tops-parent at above n (node x kids rest) l h = grind (arith, tops-parent at above n rest l.2)

  listed-back : (at : (ℕ → Option (Entry (Node X)))) (above : Option ℕ) (n q : ℕ) (f : Forest X) → Lies at above f → 0 < occurs q f → 0 < hits n (children_in (at q)) → parent_in (at n) ≡ Some q
  listed-back at above n q empty l h i = absurd (omega arith)
  listed-back at above n q (node x kids rest) l h i =
      grind (arith, tops-parent at (Some x.number) n kids l.1, listed-back at (Some x.number) n q kids l.1, listed-back at above n q rest l.2)

  children-there : (f : Forest X) (n q : ℕ) → 0 < hits n (children_of f q) → 0 < occurs q f
  children-there f n q h = grind (arith, occurs-HasNode f q)

  -- a child of a node has it as its parent
  pub child-parent : (f : Forest X) → ((m : ℕ) → occurs m f ≤ 1) → (n q : ℕ) → 0 < hits n (children_of f q) → parent_of f n ≡ Some q
  child-parent f o n q h = listed-back (entry_in f) None n q f (Lies-entry_in f o) (children-there f n q h) h

  pub parent-there : (f : Forest X) (n q : ℕ) → parent_of f n ≡ Some q → 0 < occurs n f
  parent-there f n q h = grind (arith, occurs-HasNode f n)

  -- and stands in the forest
  pub child-there : (f : Forest X) → ((m : ℕ) → occurs m f ≤ 1) → (n q : ℕ) → 0 < hits n (children_of f q) → 0 < occurs n f
  child-there f o n q h = parent-there f n q (child-parent f o n q h)

  -- each child names its parent, and stands once among its children and no other's
  pub IsLinked-forest : (f : Forest X) → ((m : ℕ) → occurs m f ≤ 1) → IsLinked (entry_in f)
  IsLinked-forest f o q n = linked (parent_of f n) refl
    where
      listed_under : (p : Option ℕ) → parent_of f n ≡ p → 0 < hits n (children_of f q) → p ≡ Some q
      listed_under p e h = sym e ∙ child-parent f o n q h

      linked : (p : Option ℕ) → parent_of f n ≡ p → hits n (children_of f q) ≡ names p q
      linked None e = grind (arith, nat_tests, listed_under None e)
      linked (Some p) e = grind (arith, nat_tests, child-listed f o n q, parent-there f n q, child-once f o n q, listed_under (Some p) e, Some p)

  -- the index of a child is its place among its parent's children
  pub index-child : (f : Forest X) (n q : ℕ) → parent_of f n ≡ Some q → index_of f n ≡ place_in n (children_of f q)
  index-child f n q e = rw e refl

  -- a cut moves the later siblings back by one
  pub index-cut : (f : Forest X) → ((m : ℕ) → occurs m f ≤ 1) → (c n q : ℕ) → (n == c) ≡ false → parent_of f n ≡ Some q → index_of (cut c f) n + (if nat_lt (place_in c (children_of f q)) (index_of f n) then 1 else 0) ≡ index_of f n
  index-cut f o c n q d e = grind (arith, parent-cut f o c n, children-cut f o c q, place-left_out c n (children_of f q) (child-once f o c q) d)

  -- a put moves the siblings that then come later on by one, and no other node
  pub index-put : (f : Forest X) → ((m : ℕ) → occurs m f ≤ 1) → (p c : ℕ) (b : Option ℕ) → 0 < occurs p f → 0 < occurs c f → parent_of f c ≡ None → occurs p (tree_at c f) ≡ 0 → (n q : ℕ) → 0 < occurs n f → 0 < occurs q f → parent_of f n ≡ Some q → index_of (put p c b f) n ≡ index_of f n + (if q == p then (if nat_le (place_before b (children_of f p)) (index_of f n) then 1 else 0) else 0)
  index-put f o p c b hp hc r z n q hn hq e =
      grind (arith, parent-put f o p c b hp hc r z n hn, children-put f o p c b hp hc r z q hq, place-kept b c n (children_of f q), child-listed f o n q hn e)

  -- the path of a root is empty; that of a child is its parent's, and its own index
  pub path-root : (f : Forest X) → ((m : ℕ) → occurs m f ≤ 1) → (n : ℕ) → 0 < occurs n f → parent_of f n ≡ None → path_places f n ≡ []
  path-root f o n h e = rw (root-path f o n h e) refl

  pub path-child : (f : Forest X) → ((m : ℕ) → occurs m f ≤ 1) → (n q : ℕ) → 0 < occurs n f → parent_of f n ≡ Some q → path_places f n ≡ path_places f q ++ (2 * index_of f n + 1) ∷ []
  path-child f o n q h e =
      grind (arith, parent-path f o n q h e, ancestors-there q f, reverse-append (n ∷ []) (ancestors q f), length-reverse (ancestors q f), map-append)
