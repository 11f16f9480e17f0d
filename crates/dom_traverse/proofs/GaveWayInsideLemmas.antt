-- The iterators inside a node, as they give way at one node after another.
use Rattle.std.proofs.Common.{◌≡◌, ℕ, suc, ◌<◌, true, false, List, [], ◌∷◌, length, map, get_or, Some, None, ◌⊎◌, inl, inr, refl, sym, ap, ◌∙◌, subst, ⊎_elim, arith}
use Rattle.std.proofs.lemmas.Bool.{cases_Bool, false≢true}
use Rattle.dom_model.specs.Definitions.{among, after, from_first, Grove, HasNode, inclusive_descendants, IsForest, Iterator, pre_removed}
use Rattle.dom_model.proofs.PlainLists.Heads.{among-rest}
use Rattle.dom_model.proofs.Forests.TreeOrder.InsideWalks.{IsAt, at-top, at-next, from-top, rest-next, rest-end}
use Rattle.dom_traverse.specs.PreRemoval.{GaveWay}
use Rattle.dom_traverse.proofs.PreRemovedLemmas.{elsewhere, once-only}

-- an iterator has taken its step, or it stays and has its reference in what is left
abbrev pub Steps : (Iterator → Iterator) → List ℕ → Iterator → Iterator → Type 0
Steps step rest old new = (new ≡ step old) ⊎ ((new ≡ old) × (among old.reference rest ≡ true))

module _ {X : Type 0} (g : Grove X) (s : IsForest g) (top : ℕ) where
  abbrev step : Iterator → Iterator
  step = pre_removed g.forest top

  abbrev inside : List ℕ
  inside = inclusive_descendants g.forest top

  -- how far the walk has come
  pub record IsLeaving (old new : List Iterator) (here : ℕ) : Type 0 where
    pub at : IsAt g.forest top here
    pub long : length new ≡ length old
    pub each : (k : ℕ) (i : Iterator) → k < length old → Steps (pre_removed g.forest top) (from_first here (inclusive_descendants g.forest top)) (get_or old k i) (get_or new k i)

  pub leaving-top : (is : List Iterator) → HasNode g.forest top → IsLeaving is is top
  leaving-top is h = record {
    at = at-top g s top h;
    long = refl;
    each = λ k i l.
        ⊎_elim (λ (a : among (get_or is k i).reference inside ≡ true). inr (refl, ap (among (get_or is k i).reference) (from-top g s top h) ∙ a))
        (λ (a : among (get_or is k i).reference inside ≡ false). inl (sym (elsewhere g.forest s.once top (get_or is k i) a))) (cases_Bool (among (get_or is k i).reference inside));
  }

  module _ (here : ℕ) (rest : List ℕ) (old new : Iterator) (next : Iterator) where
    one-more : Steps step (here ∷ rest) old new → (next ≡ step new) ⊎ ((next ≡ new) × (new.reference ≡ here → ⊥)) → Steps step rest old next
    one-more (inl a) (inl b) = inl (b ∙ ap step a ∙ once-only g.forest s.once top old)
    one-more (inl a) (inr b) = inl (b.0 ∙ a)
    one-more (inr a) (inl b) = inl (b ∙ ap step a.0)
    one-more (inr a) (inr b) =
        inr (b.0 ∙ a.0, sym (among-rest old.reference here rest (λ q. b.1 (ap (λ (x : Iterator). x.reference) a.0 ∙ q))) ∙ a.1)

  leaving-on : (old new next : List Iterator) (here : ℕ) (rest : List ℕ) → IsLeaving old new here → from_first here inside ≡ here ∷ rest → GaveWay step here new next → (k : ℕ) (i : Iterator) → k < length old → Steps step rest (get_or old k i) (get_or next k i)
  leaving-on old new next here rest are e gave k i l =
      one-more here rest (get_or old k i) (get_or new k i) (get_or next k i)
      (subst (λ ns. Steps step ns (get_or old k i) (get_or new k i)) e (are.each k i l)) (gave.each k i (omega (arith, are.long)))

  pub leaving-next : (old new next : List Iterator) (here m : ℕ) → IsLeaving old new here → after here (inclusive_descendants g.forest top) ≡ Some m → GaveWay (pre_removed g.forest top) here new next → IsLeaving old next m
  leaving-next old new next here m are e gave = record {
    at = at-next g s top here m e;
    long = gave.long ∙ are.long;
    each = leaving-on old new next here (from_first m inside) are (rest-next g s top here m e) gave;
  }

  pub leaving-end : (old new next : List Iterator) (here : ℕ) → IsLeaving old new here → after here (inclusive_descendants g.forest top) ≡ None → GaveWay (pre_removed g.forest top) here new next → next ≡ map (pre_removed g.forest top) old
  leaving-end old new next here are e gave = all next old (gave.long ∙ are.long) (leaving-on old new next here [] are (rest-end g s top here are.at e) gave)
    where
      stepped : (a b : Iterator) → Steps step [] a b → b ≡ step a
      stepped a b (inl h) = h
      stepped a b (inr h) = absurd (false≢true h.1)

      all : (xs is : List Iterator) → length xs ≡ length is → ((k : ℕ) (i : Iterator) → k < length is → Steps step [] (get_or is k i) (get_or xs k i)) → xs ≡ map step is
      all [] [] l h = refl
      all [] (i ∷ is) l h = absurd (omega arith)
      all (x ∷ xs) [] l h = absurd (omega arith)
      all (x ∷ xs) (i ∷ is) l h = ap (λ y. y ∷ xs) (stepped i x (h 0 i (omega arith))) ∙ ap (λ ys. step i ∷ ys) (all xs is (omega arith) (λ k j w. h (suc k) j (omega arith)))
