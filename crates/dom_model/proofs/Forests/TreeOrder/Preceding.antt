-- Which of two nodes comes first in tree order.
use Rattle.std.proofs.Common.{◌≡◌, ℕ, ◌+◌, ◌<◌, ◌≤◌, ◌==◌, nat_lt, if◌then◌else◌, List, [], ◌∷◌, ◌++◌, length, Option, Some, None, IsSome, IfSome, refl, ap, sym, ◌∙◌, arith}
use Rattle.std.proofs.lemmas.{Bool.Decides.nat_tests, Bool.false≢true}
use Rattle.dom_model.specs.Definitions.{hits, last_of, after, place_in, Forest, empty, node, Grove, occurs, one_at, tops, numbers, tree_at, HasNode, ancestors, root_of, inclusive_descendants, IsForest}
use Rattle.dom_model.proofs.PlainLists.{Numbers.same_or, Numbers.same, Numbers.apart, Places.place-there}
use Rattle.dom_model.proofs.Forests.{Lots.on_top, Lots.beneath, Lots.elsewhere, Lots.at_top, Lots.under_top, Lots.lot, Lots.root-top, Lots.root-elsewhere, Lots.root-listed, Changes.seen, Changes.nothing, Changes.just, Totals.total-tree_at, Totals.tree_at-absent, Tops.hits-tops, Climbing.ancestors-there, Chains.place-apart, PutBack.hits-after, TreeOrder.Flattened.hits-numbers, Entries.occurs-HasNode, Entries.HasNode-occurs, ToTheRoot.inside-root, TreeOrder.Stepping.after-inside, Listed.place-behind}

pub place-after : (n m : ℕ) (l : List ℕ) → ((k : ℕ) → hits k l ≤ 1) → after n l ≡ Some m → place_in m l ≡ 1 + place_in n l
place-after n m [] o e = absurd (cc e)
place-after n m (x ∷ xs) o e = grind (arith, nat_tests, hits-after n xs m, place-after n m xs)

pub place-last : (n : ℕ) (l : List ℕ) → 0 < hits n l → after n l ≡ None → 1 + place_in n l ≡ length l
place-last n [] h e = absurd (omega arith)
place-last n (x ∷ xs) h e = grind (arith, place-last n xs)

pub place-front : (n : ℕ) (xs ys : List ℕ) → 0 < hits n xs → place_in n (xs ++ ys) ≡ place_in n xs
place-front n [] ys h = absurd (omega arith)
place-front n (x ∷ xs) ys h = grind (arith, place-front n xs ys)

module _ {X : Type 0} where
  -- how many numbers stand before the root's tree
  abbrev pub base : ℕ → Forest X → ℕ
  base r empty = 0
  base r (node x kids rest) = if x.number == r then 0 else 1 + (length (numbers kids) + base r rest)

  place-root : (r n : ℕ) (f : Forest X) → ((m : ℕ) → occurs m f ≤ 1) → 0 < hits r (tops f) → 0 < occurs n (tree_at r f) → place_in n (numbers f) ≡ base r f + place_in n (numbers (tree_at r f))
  place-root r n empty o h k = absurd (omega arith)
  place-root r n (node x kids rest) o h k =
      grind (arith, tree_at-absent {X = X}, hits-numbers n kids, place-front, hits-tops {X = X}, total-tree_at {X = X}, place-root r n rest, place-behind)

  root-inside : (r m : ℕ) (f : Forest X) → ((k : ℕ) → occurs k f ≤ 1) → 0 < hits r (tops f) → 0 < occurs m (tree_at r f) → last_of (ancestors m f) ≡ Some r
  root-inside r m empty o h k = absurd (omega arith)
  root-inside r m (node x kids rest) o h k =
      elim (same_or x.number r) [
        | same e t ↦
            elim (lot m x kids) [
              | on_top d ↦ root-top m x kids rest (at_top d) ∙ ap Some e
              | beneath ne i ↦ root-top m x kids rest (under_top ne i) ∙ ap Some e
              | elsewhere ne z ↦ absurd (grind (arith, nat_tests, o r, tree_at-absent r rest))
            ]
        | apart ne t ↦
            let later : (0 < occurs m (tree_at r rest)) = grind (arith, nat_tests, o r, hits-tops r rest, tree_at-absent r kids) in
            root-elsewhere m x kids rest (λ d. grind (arith, nat_tests, o m, total-tree_at (one_at m) r rest)) (omega (arith, o m, total-tree_at (one_at m) r rest))
            ∙ root-inside r m rest (λ j. omega (arith, o j)) (grind (arith, nat_tests)) later
      ]

if_some : {A : Type 0} (P : A → Type 0) (o : Option A) (x : A) → o ≡ Some x → IfSome o P → P x
if_some P o x e h = (let k = rw e at h in k)

module _ {X : Type 0} {g : Grove X} (s : IsForest g) where
  once_tree : (r m : ℕ) → hits m (numbers (tree_at r g.forest)) ≤ 1
  once_tree r m = omega (arith, hits-numbers m (tree_at r g.forest), total-tree_at (one_at m) r g.forest, s.once m)

  pub listed-there : (n : ℕ) → HasNode g.forest n → 0 < hits n (numbers g.forest)
  listed-there n h = omega (arith, hits-numbers n g.forest, occurs-HasNode g.forest n h)

  root_found : (n : ℕ) → HasNode g.forest n → IsSome (root_of g.forest n)
  root_found n h = (let i = ancestors-there n g.forest (occurs-HasNode g.forest n h) in rw i.1 (some_last n i.0))
    where
      some_last : (x : ℕ) (xs : List ℕ) → IsSome (last_of (x ∷ xs))
      some_last x [] = refl
      some_last x (y ∷ ys) = some_last y ys

  -- the next in tree order stands in the next place
  pub order-step : (n m : ℕ) → HasNode g.forest n → IfSome (root_of g.forest n) (λ r. Some m ≡ after n (inclusive_descendants g.forest r)) → (place_in m (numbers g.forest) ≡ 1 + place_in n (numbers g.forest)) × ((root_of g.forest m ≡ root_of g.forest n) × HasNode g.forest m)
  order-step n m h i =
      elim (seen (root_of g.forest n)) [
        | nothing e ↦ absurd (let k = root_found n h in let k2 = rw e at k in false≢true k2)
        | just r e ↦
            let a : after n (inclusive_descendants g.forest r) ≡ Some m = sym (if_some (λ q. Some m ≡ after n (inclusive_descendants g.forest q)) (root_of g.forest n) r e i) in
            let top = root-listed n r g.forest e in
            let inn = inside-root s n r e in
            let inm = after-inside s r n m a in
            let pn = place-root r n g.forest s.once top inn in
            let pm = place-root r m g.forest s.once top inm in
            let st = place-after n m (inclusive_descendants g.forest r) (once_tree r) a in
            (omega arith, (root-inside r m g.forest s.once top inm ∙ sym e, HasNode-occurs g.forest m (omega (arith, total-tree_at (one_at m) r g.forest))))
      ]

  -- where none follows, none of the same root stands behind
  pub order-end : (n b : ℕ) → HasNode g.forest n → root_of g.forest b ≡ root_of g.forest n → HasNode g.forest b → IfSome (root_of g.forest n) (λ r. None ≡ after n (inclusive_descendants g.forest r)) → place_in b (numbers g.forest) ≤ place_in n (numbers g.forest)
  order-end n b h rb hb i =
      elim (seen (root_of g.forest n)) [
        | nothing e ↦ absurd (let k = root_found n h in let k2 = rw e at k in false≢true k2)
        | just r e ↦
            let a : after n (inclusive_descendants g.forest r) ≡ None = sym (if_some (λ q. None ≡ after n (inclusive_descendants g.forest q)) (root_of g.forest n) r e i) in
            let top = root-listed n r g.forest e in
            let inn = inside-root s n r e in
            let inb = inside-root s b r (rb ∙ e) in
            let pn = place-root r n g.forest s.once top inn in
            let pb = place-root r b g.forest s.once top inb in
            let ln = place-last n (inclusive_descendants g.forest r) (omega (arith, hits-numbers n (tree_at r g.forest))) a in
            omega (arith, place-there b (inclusive_descendants g.forest r) (omega (arith, hits-numbers b (tree_at r g.forest))))
      ]

  pub order-same : (m b : ℕ) → HasNode g.forest m → HasNode g.forest b → (m ≡ b → ⊥) → place_in m (numbers g.forest) ≡ place_in b (numbers g.forest) → ⊥
  order-same m b hm hb ne e = ne (place-apart m b (numbers g.forest) (listed-there m hm) e)

  pub order-within : (m : ℕ) → HasNode g.forest m → place_in m (numbers g.forest) < length (numbers g.forest)
  order-within m h = place-there m (numbers g.forest) (listed-there m h)

-- a place further on answers alike, past any place but its own
pub lt-step : (p q m : ℕ) → m ≡ 1 + p → (m ≡ q → ⊥) → nat_lt m q ≡ nat_lt p q
lt-step p q m e ne = grind arith
