-- Where copies stand: each under a copy with a smaller number; the first has the kind of what it is a copy of.
use Rattle.std.proofs.Common.{◌≡◌, ℕ, ◌+◌, ◌<◌, ◌≤◌, Bool, true, false, Option, Some, None, refl, ap, ◌∙◌, arith, ◌⊎◌, inl, ⊎_elim}
use Rattle.std.proofs.lemmas.Bool.{cases_lt, eq-eqb}
use Rattle.dom_model.specs.Definitions.{or_else, Entry, parent_in, Node, Forest, empty, node, occurs, size, beside, tree_at, map_nodes, entry_under, parent_of, Content, entry_has, kind_passes, renumbered, alone_of, original}
use Rattle.dom_model.specs.declared.Kind.{Kind}
use Rattle.dom_model.proofs.PlainLists.Numbers.{same_or, same, apart}
use Rattle.dom_model.proofs.Forests.{Totals.tree_at-absent, Totals.beside-empty, Entries.entry_under-absent, ForestsBeside.entry-younger, Changes.seen, Changes.nothing, Changes.just}
use Rattle.dom_model.proofs.Worlds.Measured.{parent-beside}

-- A number with a parent among copies from a number on: the parent is the one that all stand under, or a copy with a smaller number.
abbrev IsUnder : Option ℕ → ℕ → ℕ → ℕ → Type 0
IsUnder p next n q = (next ≤ n) × ((p ≡ Some q) ⊎ ((next ≤ q) × (q < n)))

parent-renumbered : (d : ℕ) (p : Option ℕ) (n q next : ℕ) (f : Forest Content) → parent_in (entry_under p n (renumbered d next f)) ≡ Some q → IsUnder p next n q
parent-renumbered d p n q next empty h = absurd (cc h)
parent-renumbered d p n q next (node x kids rest) h =
    elim (same_or next n) [
      | same e t ↦ (omega arith, inl (rw t at h))
      | apart ne t ↦
          let k = rw t at h in
          elim (seen (entry_under (Some next) n (renumbered d (next + 1) kids))) [
            | nothing e ↦ from_rest (parent-renumbered d p n q (next + 1 + size kids) rest (rw e at k))
            | just a e ↦ (let j = rw e at k in from_kids (parent-renumbered d (Some next) n q (next + 1) kids (ap parent_in e ∙ j)))
          ]
    ]
  where
    from_kids : IsUnder (Some next) (next + 1) n q → IsUnder p next n q
    from_kids i = grind arith

    from_rest : IsUnder p (next + 1 + size kids) n q → IsUnder p next n q
    from_rest i = grind arith

-- so it is in the whole forest
pub parent-copies : (d made : ℕ) (f g : Forest Content) (n q : ℕ) → parent_of (beside f (renumbered d made g)) n ≡ Some q → (parent_of f n ≡ Some q) ⊎ ((made ≤ q) × (q < n))
parent-copies d made f g n q h =
    grind (arith, parent-beside f (renumbered d made g) n, entry-younger n f (renumbered d made g), parent-renumbered d None n q made g)

-- The kind of the first of some trees.

abbrev top_passes : (Kind → Bool) → Forest Content → Bool
top_passes test empty = false
top_passes test (node x kids rest) = test x.label.kind

top-tree_at : (test : Kind → Bool) (q : Option ℕ) (n : ℕ) (f : Forest Content) → ((m : ℕ) → occurs m f ≤ 1) → 0 < occurs n f → top_passes test (tree_at n f) ≡ entry_has test (entry_under q n f)
top-tree_at test q n empty o h = absurd (omega arith)
top-tree_at test q n (node x kids rest) o h =
    let once = o n in
    elim (same_or x.number n) [
      | same e t ↦ rw t refl
      | apart ne t ↦
          let k = rw t at h in
          let once2 = rw t at once in
          rw t (⊎_elim
          (λ (lt : 0 < occurs n kids).
          let z : occurs n rest ≡ 0 = omega arith in
          rw (tree_at-absent n rest z, beside-empty (tree_at n kids), entry_under-absent q n rest z) (top-tree_at test (Some x.number) n kids (λ m. let i = o m in omega arith) lt ∙ ap (entry_has test) (first (entry_under (Some x.number) n kids))))
          (λ (le : occurs n kids ≤ 0).
          let z : occurs n kids ≡ 0 = omega arith in
          rw (tree_at-absent n kids z, entry_under-absent (Some x.number) n kids z) (top-tree_at test q n rest (λ m. let i = o m in omega arith) (omega arith)))
          (cases_lt 0 (occurs n kids)))
    ]
  where
    first : (a : Option (Entry (Node Content))) → a ≡ or_else a None
    first None = refl
    first (Some a) = refl

top-original : (test : Kind → Bool) (deep : Bool) (n : ℕ) (f : Forest Content) → top_passes test (original deep n f) ≡ top_passes test (tree_at n f)
top-original test true n f = refl
top-original test false n f = alone (tree_at n f)
  where
    alone : (g : Forest Content) → top_passes test (alone_of g) ≡ top_passes test g
    alone empty = refl
    alone (node x kids rest) = refl

top-map : (test : Kind → Bool) (h : Node Content → Node Content) → ((x : Node Content) → (h x).label ≡ x.label) → (g : Forest Content) → top_passes test (map_nodes h g) ≡ top_passes test g
top-map test h keeps empty = refl
top-map test h keeps (node x kids rest) = ap (λ l. test l.kind) (keeps x)

top-renumbered : (test : Kind → Bool) (d made : ℕ) (g : Forest Content) → kind_passes test (renumbered d made g) made ≡ top_passes test g
top-renumbered test d made empty = refl
top-renumbered test d made (node x kids rest) = rw (eq-eqb made made refl) refl

-- the first copy has the kind of the node that is copied
pub kind-clone : (test : Kind → Bool) (d made : ℕ) (deep : Bool) (n : ℕ) (f : Forest Content) → ((m : ℕ) → occurs m f ≤ 1) → occurs made f ≡ 0 → 0 < occurs n f → kind_passes test (beside f (renumbered d made (original deep n f))) made ≡ kind_passes test f n
kind-clone test d made deep n f o new there =
    ap (entry_has test) (entry-younger made f (renumbered d made (original deep n f)) new)
    ∙ top-renumbered test d made (original deep n f)
    ∙ top-original test deep n f
    ∙ top-tree_at test None n f o there

-- whatever data it gets
pub kind-copy : (test : Kind → Bool) (d made : ℕ) (deep : Bool) (h : Node Content → Node Content) → ((x : Node Content) → (h x).label ≡ x.label) → (n : ℕ) (f : Forest Content) → ((m : ℕ) → occurs m f ≤ 1) → occurs made f ≡ 0 → 0 < occurs n f →
    kind_passes test (beside f (renumbered d made (map_nodes h (original deep n f)))) made ≡ kind_passes test f n
kind-copy test d made deep h keeps n f o new there =
    ap (entry_has test) (entry-younger made f (renumbered d made (map_nodes h (original deep n f))) new)
    ∙ top-renumbered test d made (map_nodes h (original deep n f))
    ∙ top-map test h keeps (original deep n f)
    ∙ top-original test deep n f
    ∙ top-tree_at test None n f o there
