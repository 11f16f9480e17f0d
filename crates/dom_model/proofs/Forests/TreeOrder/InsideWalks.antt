-- Walks in tree order through the nodes inside a node.
use Rattle.std.proofs.Common.{◌≡◌, ℕ, ◌≤◌, ◌<◌, true, false, ◌||◌, List, ◌∷◌, [], length, Some, None, sym, ap, ◌∙◌, arith}
use Rattle.std.specs.List.{list_any}
use Rattle.dom_model.specs.Definitions.{hits, among, after, from_first, Forest, Grove, one_at, HasNode, occurs, tree_at, ancestors, inclusive_descendants, IsForest}
use Rattle.dom_model.proofs.Traversal.IteratorSteps.{inside-once}
use Rattle.dom_model.proofs.PlainLists.{Numbers.same_or, Numbers.same, Numbers.apart, FromFirst.from-last, FromFirst.from-after, Searches.any-either, Searches.any-from}
use Rattle.dom_model.proofs.Forests.{Totals.total-tree_at, TreeOrder.Flattened.hits-numbers, Entries.occurs-HasNode, Entries.HasNode-occurs, TreeOrder.Ordering.Single, TreeOrder.Ordering.single, TreeOrder.Ordering.tree_at-single, ToTheRoot.inside, ToTheRoot.inside-among, TreeOrder.Stepping.after-inside}

-- a walk that has come to `here`, inside the top
pub record IsAt {X : Type 0} (f : Forest X) (top here : ℕ) : Type 0 where
  pub there : HasNode f here
  pub under : among top (ancestors here f) ≡ true

-- a search that has come to `here` and found none of some nodes: one of them stands inside just where one is still to come
pub record IsSearching {X : Type 0} (f : Forest X) (top : ℕ) (names : List ℕ) (here : ℕ) : Type 0 where
  pub at : IsAt f top here
  pub rest : list_any (λ m. among m names) (from_first here (inclusive_descendants f top)) ≡ list_any (λ m. among m (inclusive_descendants f top)) names

module _ {X : Type 0} (g : Grove X) (s : IsForest g) (top : ℕ) where
  top-once : HasNode g.forest top → occurs top g.forest ≡ 1
  top-once h = omega (arith, occurs-HasNode g.forest top h, s.once top)

  pub from-top : HasNode g.forest top → from_first top (inclusive_descendants g.forest top) ≡ inclusive_descendants g.forest top
  from-top h = grind (arith, tree_at-single top g.forest (top-once h))

  pub at-top : HasNode g.forest top → IsAt g.forest top top
  at-top h = record { there = h; under = inside-among s top top (found (tree_at-single top g.forest (top-once h))) }
    where
      found : Single top (tree_at top g.forest) → 0 < occurs top (tree_at top g.forest)
      found (single x kids e t) = rw t (elim (same_or x.number top) [ same _ v ↦ rw v (omega arith) | apart ne v ↦ absurd (ne e) ])

  pub at-next : (here m : ℕ) → after here (inclusive_descendants g.forest top) ≡ Some m → IsAt g.forest top m
  at-next here m e =
      let i = after-inside s top here m e in
      record { there = HasNode-occurs g.forest m (omega (arith, total-tree_at (one_at m) top g.forest)); under = inside-among s top m i }

  pub inside-one : (n : ℕ) → hits n (inclusive_descendants g.forest top) ≤ 1
  inside-one n = inside-once g.forest s.once top n

  pub here-inside : (here : ℕ) → IsAt g.forest top here → 0 < hits here (inclusive_descendants g.forest top)
  here-inside here a = let i = inside s top here a.under in omega (arith, hits-numbers here (tree_at top g.forest))

  pub rest-next : (here m : ℕ) → after here (inclusive_descendants g.forest top) ≡ Some m → from_first here (inclusive_descendants g.forest top) ≡ here ∷ from_first m (inclusive_descendants g.forest top)
  rest-next here m e = from-after here m (inclusive_descendants g.forest top) (inside-one m) e

  pub rest-end : (here : ℕ) → IsAt g.forest top here → after here (inclusive_descendants g.forest top) ≡ None → from_first here (inclusive_descendants g.forest top) ≡ here ∷ []
  rest-end here a e = from-last here (inclusive_descendants g.forest top) (here-inside here a) e

  pub smaller : (here m : ℕ) → after here (inclusive_descendants g.forest top) ≡ Some m → length (from_first m (inclusive_descendants g.forest top)) < length (from_first here (inclusive_descendants g.forest top))
  smaller here m e = omega (arith, ap length (rest-next here m e))

  pub searching-top : (names : List ℕ) → HasNode g.forest top → IsSearching g.forest top names top
  searching-top names h = record {
    at = at-top h;
    rest = ap (list_any (λ m. among m names)) (from-top h) ∙ any-either names (inclusive_descendants g.forest top);
  }

  pub searching-next : (names : List ℕ) (here next : ℕ) → IsSearching g.forest top names here → among here names ≡ false → after here (inclusive_descendants g.forest top) ≡ Some next → IsSearching g.forest top names next
  searching-next names here next w none e = record {
    at = at-next here next e;
    rest = sym (ap (λ b. b || list_any (λ m. among m names) (from_first next (inclusive_descendants g.forest top))) none)
        ∙ sym (ap (list_any (λ m. among m names)) (rest-next here next e)) ∙ w.rest;
  }

  pub searching-end : (names : List ℕ) (here : ℕ) → IsSearching g.forest top names here → among here names ≡ false → after here (inclusive_descendants g.forest top) ≡ None → false ≡ list_any (λ m. among m (inclusive_descendants g.forest top)) names
  searching-end names here w none e =
      sym (ap (λ b. b || false) none) ∙ sym (ap (list_any (λ m. among m names)) (rest-end here w.at e)) ∙ w.rest

  pub searching-found : (names : List ℕ) (here : ℕ) → IsSearching g.forest top names here → among here names ≡ true → true ≡ list_any (λ m. among m (inclusive_descendants g.forest top)) names
  searching-found names here w h = sym (any-from (λ m. among m names) here (inclusive_descendants g.forest top) (here-inside here w.at) h) ∙ w.rest
