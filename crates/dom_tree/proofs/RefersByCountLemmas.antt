-- Whether a tree is named from outside, by the counts of node documents of its nodes.
use Rattle.std.proofs.Common.{◌≡◌, ℕ, ◌+◌, ◌<◌, ◌≤◌, Bool, true, false, not, ◌&&◌, nat_eq, if◌then◌else◌, [], ◌∷◌, length, Option, Some, None, IsSome, IfSome, refl, ap, sym, ◌∙◌, arith, ⊎_elim}
use Rattle.std.specs.Int.{from_bool}
use Rattle.std.proofs.lemmas.Bool.{cases_lt, false≢true}
use Rattle.dom_model.specs.Definitions.{hits, among, after, from_first, Entry, names, Node, Grove, occurs, one_at, tree_at, entry_in, HasNode, parent_of, ancestors, inclusive_descendants, IsForest, is_held_outside}
use Rattle.dom_model.proofs.PlainLists.{Numbers.same_or, Numbers.same, Numbers.apart, FromFirst.from-after, FromFirst.from-last}
use Rattle.dom_model.proofs.Forests.{Totals.total-tree_at, TreeOrder.Flattened.hits-numbers, TreeOrder.Stepping.after-inside, Entries.HasNode-occurs, ToTheRoot.inside-among}
use Rattle.dom_tree.specs.{OutsideNodes.document_passes, OutsideNodes.refers_from, NodeDocuments.sum_below, NodeDocuments.document_at, NodeDocuments.document_in, NodeDocuments.owned_by}
use Rattle.dom_tree.proofs.{SumLemmas.sum_over, SumLemmas.below-same, SumLemmas.below-plus, SumLemmas.below-few, SumLemmas.below-part, SumLemmas.below-some, SumLemmas.over-below, SumLemmas.over-none, SumLemmas.over-one, SumLemmas.over-part, SumLemmas.over-among, SetDocumentLemmas.from-top, SetDocumentLemmas.top-inside, RefersLemmas.refers-none, RefersLemmas.refers-one}

-- 1 for what holds, 0 for what does not
abbrev pub one_if : Bool → ℕ
one_if b = if b then 1 else 0

pub bool-one : (b : Bool) → from_bool b ≡ one_if b
bool-one true = refl
bool-one false = refl

pub one-few : (b : Bool) → one_if b ≤ 1
one-few true = omega arith
one-few false = omega arith

one-true : (b : Bool) → 0 < one_if b → b ≡ true
one-true true h = refl
one-true false h = absurd (omega arith)

one-false : (b : Bool) → one_if b ≤ 0 → b ≡ false
one-false true h = absurd (omega arith)
one-false false h = refl

module _ {X : Type 0} (g : Grove X) (top : ℕ) where
  -- whether the node document of a number is in the tree
  abbrev pub is_home : ℕ → Bool
  is_home n = document_passes (λ d. among d (inclusive_descendants g.forest top)) (entry_in g.forest n)

  -- how far the counts have been taken: from `here` on they are still to be
  pub record IsCounting (here owned inside : ℕ) : Type 0 where
    pub there : HasNode g.forest here
    pub within : 0 < occurs here (tree_at top g.forest)
    pub all : owned + sum_over (owned_by g.forest g.made) (from_first here (inclusive_descendants g.forest top)) ≡ sum_over (owned_by g.forest g.made) (inclusive_descendants g.forest top)
    pub own : inside + sum_over (λ n. one_if (is_home n)) (from_first here (inclusive_descendants g.forest top)) ≡ sum_over (λ n. one_if (is_home n)) (inclusive_descendants g.forest top)

module _ {X : Type 0} {g : Grove X} (s : IsForest g) (top : ℕ) where
  once : (n : ℕ) → hits n (inclusive_descendants g.forest top) ≤ 1
  once n = omega (arith, hits-numbers n (tree_at top g.forest), total-tree_at (one_at n) top g.forest, s.once n)

  small : (n : ℕ) → 0 < hits n (inclusive_descendants g.forest top) → n < g.made
  small n h =
      ⊎_elim
      (λ (lt : n < g.made). lt)
      (λ (le : g.made ≤ n). absurd (omega (arith, h, hits-numbers n (tree_at top g.forest), total-tree_at (one_at n) top g.forest, s.small n le)))
      (cases_lt n g.made)

  -- the counts of the nodes inside are those of the nodes whose node document is inside
  all-home : sum_over (owned_by g.forest g.made) (inclusive_descendants g.forest top) ≡ sum_below (λ n. one_if (is_home g top n)) g.made
  all-home =
      over-below (λ n m. names (document_in g.forest n) m) g.made (inclusive_descendants g.forest top)
      ∙ below-same (λ n. sum_over (names (document_in g.forest n)) (inclusive_descendants g.forest top)) (λ n. one_if (is_home g top n)) g.made (λ n _. each (entry_in g.forest n))
    where
      each : (o : Option (Entry (Node X))) → sum_over (names (document_at o)) (inclusive_descendants g.forest top) ≡ one_if (document_passes (λ d. among d (inclusive_descendants g.forest top)) o)
      each None = over-none (names None) (inclusive_descendants g.forest top) (λ n _. refl)
      each (Some e) = over-one e.value.document 1 (inclusive_descendants g.forest top) (once e.value.document)

  -- and of these, those that are inside are the others' rest
  parted : sum_below (λ n. one_if (is_home g top n)) g.made ≡ sum_over (λ n. one_if (is_home g top n)) (inclusive_descendants g.forest top) + sum_below (λ n. one_if (refers_from g.forest top n)) g.made
  parted =
      below-same (λ n. one_if (is_home g top n)) (λ n. (if among n (inclusive_descendants g.forest top) then one_if (is_home g top n) else 0) + one_if (refers_from g.forest top n)) g.made (λ n _. each (is_home g top n) (among n (inclusive_descendants g.forest top)))
      ∙ below-plus (λ n. if among n (inclusive_descendants g.forest top) then one_if (is_home g top n) else 0) (λ n. one_if (refers_from g.forest top n)) g.made
      ∙ ap (λ m. m + sum_below (λ n. one_if (refers_from g.forest top n)) g.made) (sym (over-among (λ n. one_if (is_home g top n)) g.made (inclusive_descendants g.forest top) once small))
    where
      each : (p q : Bool) → one_if p ≡ (if q then one_if p else 0) + one_if (p && not q)
      each true true = refl
      each true false = refl
      each false true = refl
      each false false = refl

  all-few : sum_over (owned_by g.forest g.made) (inclusive_descendants g.forest top) ≤ g.made
  all-few = omega (arith, all-home, below-few (λ n. one_if (is_home g top n)) g.made (λ n. one-few (is_home g top n)))

  pub counting-start : HasNode g.forest top → IsCounting g top top 0 0
  counting-start h =
      record {
        there = h;
        within = top-inside s top h;
        all = omega (arith, ap (sum_over (owned_by g.forest g.made)) (from-top s top h));
        own = omega (arith, ap (sum_over (λ n. one_if (is_home g top n))) (from-top s top h));
      }

  module _ {here owned inside : ℕ} (w : IsCounting g top here owned inside) where
    listed : 0 < hits here (inclusive_descendants g.forest top)
    listed = (let h = w.within in omega (arith, h, hits-numbers here (tree_at top g.forest)))

    pub counting-under : among top (ancestors here g.forest) ≡ true
    counting-under = inside-among s top here w.within

    pub counting-owned : (n : ℕ) → n ≡ owned_by g.forest g.made here → owned + n ≤ g.made
    counting-owned n e = omega (arith, w.all, all-few, over-part (owned_by g.forest g.made) here (inclusive_descendants g.forest top) listed)

    pub counting-inside : inside ≤ g.made
    counting-inside = omega (arith, w.own, all-few, all-home, parted)

    -- what the answers about one node say
    home-is : (d : ℕ) → IfSome (entry_in g.forest here) (λ e. d ≡ e.value.document) → (b : Bool) → b ≡ among d (inclusive_descendants g.forest top) → b ≡ is_home g top here
    home-is d h b e = e ∙ go (entry_in g.forest here) w.there h
      where
        go : (o : Option (Entry (Node X))) → IsSome o → IfSome o (λ e. d ≡ e.value.document) → among d (inclusive_descendants g.forest top) ≡ document_passes (λ m. among m (inclusive_descendants g.forest top)) o
        go None i j = absurd (false≢true i)
        go (Some e) i j = ap (λ m. among m (inclusive_descendants g.forest top)) j

    step : (next : ℕ) → after here (inclusive_descendants g.forest top) ≡ Some next → from_first here (inclusive_descendants g.forest top) ≡ here ∷ from_first next (inclusive_descendants g.forest top)
    step next e = from-after here next (inclusive_descendants g.forest top) (once next) e

    pub counting-smaller : (next : ℕ) → after here (inclusive_descendants g.forest top) ≡ Some next → length (from_first next (inclusive_descendants g.forest top)) < length (from_first here (inclusive_descendants g.forest top))
    counting-smaller next e = rw (step next e) (omega arith)

    module _ (n d : ℕ) (b : Bool) (counted : n ≡ owned_by g.forest g.made here) (document : IfSome (entry_in g.forest here) (λ e. d ≡ e.value.document)) (tested : b ≡ among d (inclusive_descendants g.forest top)) where
      pub counting-next : (next : ℕ) → after here (inclusive_descendants g.forest top) ≡ Some next → IsCounting g top next (owned + n) (inside + one_if b)
      counting-next next e =
          record {
            there = HasNode-occurs g.forest next (let k = after-inside s top here next e in omega (arith, k, total-tree_at (one_at next) top g.forest));
            within = after-inside s top here next e;
            all = (let a = w.all in let q = rw (step next e) at a in omega (arith, q, counted));
            own = (let a = w.own in let q = rw (step next e) at a in omega (arith, q, ap one_if (home-is d document b tested)));
          }

      pub counting-end : parent_of g.forest top ≡ None → after here (inclusive_descendants g.forest top) ≡ None → not (nat_eq (owned + n) (inside + one_if b)) ≡ is_held_outside g.forest top
      counting-end root e = answer
        where
          last : from_first here (inclusive_descendants g.forest top) ≡ here ∷ []
          last = from-last here (inclusive_descendants g.forest top) listed e

          all : owned + n ≡ sum_over (owned_by g.forest g.made) (inclusive_descendants g.forest top)
          all = (let a = w.all in let q = rw last at a in omega (arith, q, counted))

          own : inside + one_if b ≡ sum_over (λ m. one_if (is_home g top m)) (inclusive_descendants g.forest top)
          own = (let a = w.own in let q = rw last at a in omega (arith, q, ap one_if (home-is d document b tested)))

          rest : owned + n ≡ (inside + one_if b) + sum_below (λ m. one_if (refers_from g.forest top m)) g.made
          rest = omega (arith, all, own, all-home, parted)

          answer : not (nat_eq (owned + n) (inside + one_if b)) ≡ is_held_outside g.forest top
          answer =
              elim (same_or (owned + n) (inside + one_if b)) [
                | same q t ↦
                    rw t (refers-none s top root (λ m lt. one-false (refers_from g.forest top m) (omega (arith, rest, q, below-part (λ i. one_if (refers_from g.forest top i)) g.made m lt))))
                | apart ne t ↦
                    let some : 0 < sum_below (λ m. one_if (refers_from g.forest top m)) g.made = ⊎_elim (λ (lt : 0 < sum_below (λ m. one_if (refers_from g.forest top m)) g.made). lt) (λ (le : sum_below (λ m. one_if (refers_from g.forest top m)) g.made ≤ 0). absurd (ne (omega (arith, rest, le)))) (cases_lt 0 (sum_below (λ m. one_if (refers_from g.forest top m)) g.made)) in
                    let found = below-some (λ m. one_if (refers_from g.forest top m)) g.made some in
                    rw t (refers-one s top root found.0 (one-true (refers_from g.forest top found.0) found.1))
              ]
