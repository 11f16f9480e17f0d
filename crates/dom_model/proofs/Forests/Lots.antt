-- A number in a list of trees: the first tree's own, below it, or elsewhere; and what is then told of its entry and its ancestors.
use Rattle.std.proofs.Common.{◌≡◌, ℕ, ◌<◌, ◌≤◌, List, [], ◌∷◌, ◌++◌, reverse, drop, Option, Some, None, refl, ap, sym, ◌∙◌, arith, ⊎_elim}
use Rattle.std.proofs.lemmas.{Bool.cases_lt, List.reverse-append}
use Rattle.dom_model.specs.Definitions.{hits, last_of, Node, Forest, empty, node, occurs, tops, entry_under, ancestors, root_of}
use Rattle.dom_model.proofs.PlainLists.Numbers.{same_or, same, apart}
use Rattle.dom_model.proofs.Forests.{Climbing.ancestors-there, Climbing.ancestors-kids, Climbing.ancestors-rest, Chains.way_to, Entries.entry_under-absent, Entries.entry_under-there}

-- whether the number is the first tree's, stands below it, or does neither
pub data Lot {X : Type 0} (n : ℕ) (x : Node X) (kids : Forest X) : Type 0 where
  on_top : x.number ≡ n → Lot n x kids
  beneath : (x.number ≡ n → ⊥) → 0 < occurs n kids → Lot n x kids
  elsewhere : (x.number ≡ n → ⊥) → occurs n kids ≡ 0 → Lot n x kids

-- whether the number stands in the tree
pub data InTree {X : Type 0} (n : ℕ) (x : Node X) (kids : Forest X) : Type 0 where
  at_top : x.number ≡ n → InTree n x kids
  under_top : (x.number ≡ n → ⊥) → 0 < occurs n kids → InTree n x kids

last-one : (xs : List ℕ) (y : ℕ) → last_of (xs ++ y ∷ []) ≡ Some y
last-one [] y = refl
last-one (x ∷ []) y = refl
last-one (x ∷ z ∷ xs) y = last-one (z ∷ xs) y

module _ {X : Type 0} where
  pub lot : (n : ℕ) (x : Node X) (kids : Forest X) → Lot n x kids
  lot n x kids =
      elim (same_or x.number n) [
        | same e t ↦ on_top e
        | apart ne t ↦
            ⊎_elim (λ (lt : 0 < occurs n kids). beneath ne lt) (λ (le : occurs n kids ≤ 0). elsewhere ne (omega arith)) (cases_lt 0 (occurs n kids))
      ]

  pub entry-top : (q : Option ℕ) (n : ℕ) (x : Node X) (kids rest : Forest X) → x.number ≡ n → entry_under q n (node x kids rest) ≡ Some (record { value = x; parent = q; children = tops kids })
  entry-top q n x kids rest e = elim (same_or x.number n) [ same d t ↦ rw t refl | apart ne t ↦ absurd (ne e) ]

  pub entry-beneath : (q : Option ℕ) (n : ℕ) (x : Node X) (kids rest : Forest X) → (x.number ≡ n → ⊥) → 0 < occurs n kids → entry_under q n (node x kids rest) ≡ entry_under (Some x.number) n kids
  entry-beneath q n x kids rest ne h = grind (arith, entry_under-there (Some x.number) n kids h)

  pub entry-elsewhere : (q : Option ℕ) (n : ℕ) (x : Node X) (kids rest : Forest X) → (x.number ≡ n → ⊥) → occurs n kids ≡ 0 → entry_under q n (node x kids rest) ≡ entry_under q n rest
  entry-elsewhere q n x kids rest ne z = grind (arith, entry_under-absent (Some x.number) n kids z)

  pub ancestors-top : (n : ℕ) (x : Node X) (kids rest : Forest X) → x.number ≡ n → ancestors n (node x kids rest) ≡ n ∷ []
  ancestors-top n x kids rest e = elim (same_or x.number n) [ same d t ↦ rw t refl | apart ne t ↦ absurd (ne e) ]

  pub ancestors-beneath : (n : ℕ) (x : Node X) (kids rest : Forest X) → (x.number ≡ n → ⊥) → 0 < occurs n kids → ancestors n (node x kids rest) ≡ ancestors n kids ++ x.number ∷ []
  ancestors-beneath n x kids rest ne h =
      let i = ancestors-there n kids h in
      ancestors-kids n n i.0 x kids rest ne i.1 ∙ ap (λ ms. ms ++ x.number ∷ []) (sym i.1)

  -- the way down from the top to a number below it, with the top and without
  pub reverse-beneath : (n : ℕ) (x : Node X) (kids rest : Forest X) → (x.number ≡ n → ⊥) → 0 < occurs n kids → reverse (ancestors n (node x kids rest)) ≡ x.number ∷ reverse (ancestors n kids)
  reverse-beneath n x kids rest ne h = ap (λ (ms : List ℕ). reverse ms) (ancestors-beneath n x kids rest ne h) ∙ reverse-append (ancestors n kids) (x.number ∷ [])

  pub way-beneath : (n : ℕ) (x : Node X) (kids rest : Forest X) → (x.number ≡ n → ⊥) → 0 < occurs n kids → way_to (node x kids rest) n ≡ reverse (ancestors n kids)
  way-beneath n x kids rest ne h = ap (λ (ms : List ℕ). drop 1 ms) (reverse-beneath n x kids rest ne h)

  -- the root of a number in the first tree is that tree's
  pub root-top : (n : ℕ) (x : Node X) (kids rest : Forest X) → InTree n x kids → root_of (node x kids rest) n ≡ Some x.number
  root-top n x kids rest (at_top e) = ap last_of (ancestors-top n x kids rest e) ∙ ap (λ m. Some m) (sym e)
  root-top n x kids rest (under_top ne h) = ap last_of (ancestors-beneath n x kids rest ne h) ∙ last-one (ancestors n kids) x.number

  pub root-elsewhere : (n : ℕ) (x : Node X) (kids rest : Forest X) → (x.number ≡ n → ⊥) → occurs n kids ≡ 0 → root_of (node x kids rest) n ≡ root_of rest n
  root-elsewhere n x kids rest ne z = ap last_of (ancestors-rest n x kids rest ne z)

  -- a root stands on top
  pub root-listed : (n r : ℕ) (f : Forest X) → root_of f n ≡ Some r → 0 < hits r (tops f)
  root-listed n r empty e = absurd (let d : None ≡ Some r = e in cc d)
  root-listed n r (node x kids rest) e = grind (arith, root-listed n r rest, root-elsewhere n x kids rest, root-top n x kids rest)
