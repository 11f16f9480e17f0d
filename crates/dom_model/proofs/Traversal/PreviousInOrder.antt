-- The previous node in tree order inside a root, by steps: the last inclusive descendant of the previous sibling, else the parent.
use Rattle.std.proofs.Common.{◌≡◌, ℕ, ◌<◌, ◌==◌, true, if◌then◌else◌, List, [], ◌∷◌, ◌++◌, Option, Some, None, refl, arith, append_assoc, append-nil}
use Rattle.std.specs.Option.{option_or}
use Rattle.std.proofs.lemmas.Bool.Decides.{nat_tests}
use Rattle.dom_model.specs.Definitions.{hits, among, last_of, before, before_from, Forest, empty, node, occurs, numbers, tree_at, entry_in, parent_of, previous_of, ancestors, inclusive_descendants}
use Rattle.dom_model.proofs.Forests.{Totals.IsOnce, Climbing.among-hits, Climbing.hits-ancestors, TreeOrder.Flattened.hits-numbers, Standing.Stands, Standing.tree_of, Below.below, Below.tree-there, Below.tree-top, Below.tree-inside, Below.tree-beyond, Below.tree-kids}

last_of-first : (n : ℕ) (ns : List ℕ) → last_of (n ∷ ns) ≡ option_or (last_of ns) (Some n)
last_of-first n [] = refl
last_of-first n (m ∷ ns) = there m ns
  where
    there : (m : ℕ) (ns : List ℕ) → last_of (m ∷ ns) ≡ option_or (last_of (m ∷ ns)) (Some n)
    there m [] = refl
    there m (k ∷ ns) = there k ns

before-front : (passed : Option ℕ) (n : ℕ) (ns ms : List ℕ) → hits n ns ≡ 0 → before_from passed n (ns ++ ms) ≡ before_from (option_or (last_of ns) passed) n ms
before-front passed n [] ms h = refl
before-front passed n (m ∷ ns) ms h = grind (arith, before-front (Some m) n ns ms, last_of-first m ns)

module _ {X : Type 0} (f : Forest X) where
  -- back to the end of a sibling, else to the parent
  abbrev pub led_back : Option ℕ → Option ℕ → Option ℕ
  led_back None parent = parent
  led_back (Some sibling) parent = last_of (inclusive_descendants f sibling)

  before-numbers : (n p : ℕ) (passed before : Option ℕ) (g : Forest X) (tail : List ℕ) → Stands (entry_in f) p passed g → IsOnce g → occurs n g ≡ 1 → ((m : ℕ) → 0 < occurs m g → tree_at m f ≡ tree_at m g) → before ≡ led_back passed (Some p) → before_from before n (numbers g ++ tail) ≡ led_back (previous_of f n) (parent_of f n)
  before-numbers n p passed before empty tail s o h t b = absurd (omega arith)
  before-numbers n p passed before (node x kids rest) tail s o h t b =
      grind (
        arith,
        nat_tests,
        append_assoc,
        before-numbers n x.number None (Some x.number) kids (numbers rest ++ tail) s.3,
        tree-inside,
        tree-top {X = X},
        last_of-first,
        append-nil,
        before-front,
        hits-numbers n kids,
        before-numbers n p (Some x.number) (option_or (last_of (numbers kids)) (Some x.number)) rest tail s.4,
        tree-beyond,
      )

  -- the previous node inside a root: none before the root itself
  pub before-inside : IsOnce f → (root n : ℕ) → among root (ancestors n f) ≡ true → before n (inclusive_descendants f root) ≡ (if n == root then None else led_back (previous_of f n) (parent_of f n))
  before-inside o root n h = grind (arith, below f, among-hits, hits-ancestors {X = X}, tree_of f, tree-there n root f, before-numbers n, tree-kids f o root)
