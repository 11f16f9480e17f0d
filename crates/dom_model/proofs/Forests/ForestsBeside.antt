-- A forest with younger trees after it: what is asked of its nodes is answered as before, and changes of the younger trees leave it.
use Rattle.std.proofs.Common.{◌≡◌, ℕ, ◌<◌, ◌≤◌, List, [], ◌∷◌, Option, Some, None, refl, ap, ◌∙◌, arith}
use Rattle.dom_model.specs.Definitions.{or_else, or_list, Entry, children_in, Node, Forest, empty, node, occurs, tops, beside, tree_at, without, placed_under, placed_root, cut, put, adopted, entry_under, entry_in, ancestors, EachNode}
use Rattle.dom_model.proofs.PlainLists.Numbers.{same_or, same, apart}
use Rattle.dom_model.proofs.Forests.{Totals.without-absent, Totals.tree_at-absent, Undone.tree_at-beside, Undone.without-beside, Undone.placed_under-absent, Entries.entry_under-absent, Climbing.ancestors-absent, Documents.adopted-absent, Documents.adopted-beside}

-- what holds of every number of a list
abbrev pub EachOf : (ℕ → Type 0) → List ℕ → Type 0
EachOf P [] = Unit {0}
EachOf P (n ∷ ns) = P n × EachOf P ns

-- every number is at least `low`, or below it
abbrev pub AreFrom : ℕ → List ℕ → Type 0
AreFrom low ns = EachOf (λ n. low ≤ n) ns

abbrev pub AreUnder : ℕ → List ℕ → Type 0
AreUnder low ns = EachOf (λ n. n < low) ns

module _ {X : Type 0} where
  abbrev pub IsFrom : ℕ → Node X → Type 0
  IsFrom low x = low ≤ x.number

  -- every number of the forest is below `low`
  abbrev pub IsBelow : ℕ → Forest X → Type 0
  IsBelow low f = (n : ℕ) → low ≤ n → occurs n f ≡ 0

  pub absent-from : (low n : ℕ) (f : Forest X) → EachNode (IsFrom low) f → n < low → occurs n f ≡ 0
  absent-from low n empty h l = refl
  absent-from low n (node x kids rest) h l = grind (arith, absent-from low n kids h.1 l, absent-from low n rest h.2 l)

  pub under-below : (low : ℕ) (f : Forest X) → IsBelow low f → EachNode (λ x. x.number < low) f
  under-below low empty h = tt
  under-below low (node x kids rest) h = grind (arith, h x.number, under-below low kids, under-below low rest)

  tops-each : (P : ℕ → Type 0) (f : Forest X) → EachNode (λ x. P x.number) f → EachOf P (tops f)
  tops-each P empty h = tt
  tops-each P (node x kids rest) h = (h.0, tops-each P rest h.2)

  -- what holds of each node holds of the children of one
  pub children-each : (P : ℕ → Type 0) (n : ℕ) (q : Option ℕ) (f : Forest X) → EachNode (λ x. P x.number) f → EachOf P (children_in (entry_under q n f))
  children-each P n q empty h = tt
  children-each P n q (node x kids rest) h =
      elim (same_or x.number n) [
        | same e t ↦ rw t (tops-each P kids h.1)
        | apart ne t ↦ rw t (either (entry_under (Some x.number) n kids) (entry_under q n rest) (children-each P n (Some x.number) kids h.1) (children-each P n q rest h.2))
      ]
    where
      either : (a b : Option (Entry (Node X))) → EachOf P (children_in a) → EachOf P (children_in b) → EachOf P (children_in (or_else a b))
      either None b k l = l
      either (Some e) b k l = k

  pub entry_under-beside : (q : Option ℕ) (n : ℕ) (f g : Forest X) → entry_under q n (beside f g) ≡ or_else (entry_under q n f) (entry_under q n g)
  entry_under-beside q n empty g = refl
  entry_under-beside q n (node x kids rest) g = grind (arith, entry_under-beside q n rest g)

  or_none : (a : Option (Entry (Node X))) → or_else a None ≡ a
  or_none None = refl
  or_none (Some e) = refl

  -- a node that the younger trees have not, and one that the older have not
  pub entry-older : (n : ℕ) (f g : Forest X) → occurs n g ≡ 0 → entry_in (beside f g) n ≡ entry_in f n
  entry-older n f g z = entry_under-beside None n f g ∙ ap (or_else (entry_in f n)) (entry_under-absent None n g z) ∙ or_none (entry_in f n)

  pub entry-younger : (n : ℕ) (f g : Forest X) → occurs n f ≡ 0 → entry_in (beside f g) n ≡ entry_in g n
  entry-younger n f g z = entry_under-beside None n f g ∙ ap (λ e. or_else e (entry_in g n)) (entry_under-absent None n f z)

  pub ancestors-beside : (n : ℕ) (f g : Forest X) → ancestors n (beside f g) ≡ or_list (ancestors n f) (ancestors n g)
  ancestors-beside n empty g = refl
  ancestors-beside n (node x kids rest) g = grind (arith, ancestors-beside n rest g)

  pub ancestors-older : (n : ℕ) (f g : Forest X) → occurs n g ≡ 0 → ancestors n (beside f g) ≡ ancestors n f
  ancestors-older n f g z = grind (arith, ancestors-beside n f g, ancestors-absent n g z)

  pub tree_at-older : (n : ℕ) (f g : Forest X) → occurs n g ≡ 0 → tree_at n (beside f g) ≡ beside (tree_at n f) empty
  tree_at-older n f g z = tree_at-beside n f g ∙ ap (beside (tree_at n f)) (tree_at-absent n g z)

  pub tree_at-younger : (n : ℕ) (f g : Forest X) → occurs n f ≡ 0 → tree_at n (beside f g) ≡ tree_at n g
  tree_at-younger n f g z = tree_at-beside n f g ∙ ap (λ (h : Forest X). beside h (tree_at n g)) (tree_at-absent n f z)

  pub without-younger : (n : ℕ) (f g : Forest X) → occurs n f ≡ 0 → without n (beside f g) ≡ beside f (without n g)
  without-younger n f g z = without-beside n f g ∙ ap (λ (h : Forest X). beside h (without n g)) (without-absent n f z)

  placed_under-beside : (p : ℕ) (b : Option ℕ) (t f g : Forest X) → placed_under p b t (beside f g) ≡ beside (placed_under p b t f) (placed_under p b t g)
  placed_under-beside p b t empty g = refl
  placed_under-beside p b t (node x kids rest) g = rw (placed_under-beside p b t rest g) refl

  placed_root-beside : (low n : ℕ) (t f g : Forest X) → low ≤ n → IsBelow low f → placed_root n t (beside f g) ≡ beside f (placed_root n t g)
  placed_root-beside low n t empty g l h = refl
  placed_root-beside low n t (node x kids rest) g l h = grind (arith, placed_root-beside low n t rest g l, under-below low (node x kids rest) h)

  -- changes of the younger trees
  pub cut-younger : (low n : ℕ) (f g : Forest X) → low ≤ n → IsBelow low f → cut n (beside f g) ≡ beside f (cut n g)
  cut-younger low n f g l h = grind (arith, tree_at-younger n f g, without-younger n f g, placed_root-beside low n (tree_at n g) f (without n g) l h)

  pub put-younger : (low p n : ℕ) (b : Option ℕ) (f g : Forest X) → low ≤ p → low ≤ n → IsBelow low f → put p n b (beside f g) ≡ beside f (put p n b g)
  put-younger low p n b f g k l h = grind (arith, tree_at-younger n, without-younger n, placed_under-beside p, placed_under-absent {X = X})

  pub adopted-younger : (low n d : ℕ) (f g : Forest X) → low ≤ n → IsBelow low f → adopted n d (beside f g) ≡ beside f (adopted n d g)
  adopted-younger low n d f g l h = adopted-beside n d f g ∙ ap (λ (t : Forest X). beside t (adopted n d g)) (adopted-absent n d f (h n l))
