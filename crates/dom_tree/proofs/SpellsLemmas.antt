-- A change of the entries spells the changed forest.
use Rattle.std.proofs.Common.{◌≡◌, ℕ, suc, ◌+◌, ◌<◌, ◌≤◌, Option, Some, None, ap, sym, ◌∙◌, subst, arith, ⊎_elim}
use Rattle.std.proofs.lemmas.{Bool.cases_lt, Bool.Decides.nat_tests}
use Rattle.dom_model.specs.Definitions.{Entry, held, parent_in, alone, Node, Forest, empty, node, occurs, one_at, tops, beside, tree_at, without, cut, put, with_node, IsRising, KindsFit, IsForest}
use Rattle.dom_tree.specs.SpelledForest.{Spells}
use Rattle.dom_model.proofs.PlainLists.Numbers.{same_or, same, apart}
use Rattle.dom_model.proofs.Forests.{Totals.total-beside, Totals.total-tree_at, Totals.total-cut, Totals.total-put, Totals.occurs-without, Tops.IsRising-left_out, Tops.IsRising-placed_root, Tops.tops-without, Tops.tops-placed_under, Tops.tops-tree_at, Tops.hits-tops, Changes.cut_at, Changes.link_at, Changes.change_at, Changes.held-cut_at, Changes.held-link_at, Changes.held-change_at, Lying.Lies-beside, Lying.Lies-kept, Lying.Lies-cut, Lying.Lies-without_root, Lying.Lies-put_top, Lying.Lies-placed_under, Lying.tops-with_node, Lying.total-with_node, Lying.Lies-with_node}

module _ {X : Type 0} where
  pub held_at_most : (o : Option (Entry (Node X))) → held o ≤ 1
  held_at_most None = omega arith
  held_at_most (Some e) = omega arith

  pub once_in : (made : ℕ) (at : (ℕ → Option (Entry (Node X)))) (f : Forest X) → Spells made at f → (n : ℕ) → occurs n f ≤ 1
  once_in made at f s n = omega (arith, s.counted n, held_at_most (at n))

  pub Spells-cut : (made : ℕ) (at at' : (ℕ → Option (Entry (Node X)))) (f : Forest X) (c : ℕ) → Spells made at f → held (at c) ≡ 1 → ((n : ℕ) → at' n ≡ cut_at c n (at n)) → Spells made at' (cut c f)
  Spells-cut made at at' f c s hc h =
      record {
        placed = Lies-cut at at' c h f (once_in made at f s c) s.placed;
        counted = λ n. total-cut (one_at n) c f ∙ s.counted n ∙ sym (ap held (h n) ∙ held-cut_at c n (at n));
        rising = rises;
        fits = (let e = total-cut (λ _. 1) c f in let k = s.fits in omega arith);
        below = λ n k. ap held (h n) ∙ held-cut_at c n (at n) ∙ s.below n k;
      }
    where
      oc : occurs c f ≡ 1
      oc = s.counted c ∙ hc

      rises : IsRising 0 (tops (cut c f))
      rises =
          IsRising-placed_root 0 c (tree_at c f) (without c f) (tops-tree_at c f oc) (omega arith) (omega (arith, hits-tops c (without c f), occurs-without c f)) (rw (tops-without c f) (IsRising-left_out 0 c (tops f) s.rising))

  pub Spells-put : (made : ℕ) (at at' : (ℕ → Option (Entry (Node X)))) (f : Forest X) (p c : ℕ) (b : Option ℕ) → Spells made at f → held (at c) ≡ 1 → held (at p) ≡ 1 → parent_in (at c) ≡ None → occurs p (tree_at c f) ≡ 0 → ((n : ℕ) → at' n ≡ link_at p b c n (at n)) → Spells made at' (put p c b f)
  Spells-put made at at' f p c b s hc hp r z h =
      record {
        placed = Lies-placed_under at at' p c b (tree_at c f) h (tops-tree_at c f oc) (Lies-put_top at at' p c b h None f (once_in made at f s c) z s.placed) None (without c f) (occurs-without c f) (Lies-without_root at c r f s.placed);
        counted = λ n. total-put (one_at n) p c b f op ∙ s.counted n ∙ sym (ap held (h n) ∙ held-link_at p b c n (at n));
        rising = rw (tops-placed_under p b (tree_at c f) (without c f), tops-without c f) (IsRising-left_out 0 c (tops f) s.rising);
        fits = (let e = total-put (λ _. 1) p c b f op in let k = s.fits in omega arith);
        below = λ n k. ap held (h n) ∙ held-link_at p b c n (at n) ∙ s.below n k;
      }
    where
      oc : occurs c f ≡ 1
      oc = s.counted c ∙ hc

      op : occurs p (without c f) ≡ 1
      op = omega (arith, s.counted p ∙ hp, total-tree_at (one_at p) c f, z)

  pub Spells-with_node : (made : ℕ) (at at' : (ℕ → Option (Entry (Node X)))) (f : Forest X) (n : ℕ) (g : Node X → Node X) → ((x : Node X) → (g x).number ≡ x.number) → Spells made at f → ((k : ℕ) → at' k ≡ change_at g n k (at k)) → Spells made at' (with_node n g f)
  Spells-with_node made at at' f n g keeps s h =
      record {
        placed = Lies-with_node at at' n g keeps h None f s.placed;
        counted = λ k. total-with_node (one_at k) n g keeps f ∙ s.counted k ∙ sym (ap held (h k) ∙ held-change_at g n k (at k));
        rising = rw (tops-with_node n g keeps f) s.rising;
        fits = (let e = total-with_node (λ _. 1) n g keeps f in let k = s.fits in omega arith);
        below = λ k l. ap held (h k) ∙ held-change_at g n k (at k) ∙ s.below k l;
      }

  IsRising-pushed : (low n : ℕ) (f : Forest X) (x : Node X) → x.number ≡ n → low ≤ n → ((k : ℕ) → n ≤ k → occurs k f ≡ 0) → IsRising low (tops f) → IsRising low (tops (beside f (node x empty empty)))
  IsRising-pushed low n empty x e h z r = (rw e h, tt)
  IsRising-pushed low n (node y kids rest) x e h z r = (
    r.0,
    ⊎_elim
        (λ (lt : y.number < n). IsRising-pushed (suc y.number) n rest x e lt (λ k l. let o = z k l in omega arith) r.1)
        (λ (le : n ≤ y.number). absurd (let o = z y.number le in grind (arith, nat_tests)))
        (cases_lt y.number n),
  )

  -- one more root
  pub Spells-pushed : (made : ℕ) (at at' : (ℕ → Option (Entry (Node X)))) (f : Forest X) (x : Node X) → x.number ≡ made → Spells made at f → at' made ≡ Some (alone x) → ((n : ℕ) → (n ≡ made → ⊥) → at' n ≡ at n) → Spells (made + 1) at' (beside f (node x empty empty))
  Spells-pushed made at at' f x e s new old =
      record {
        placed = Lies-beside at' None f (node x empty empty) (Lies-kept at at' None f (λ n o. old n (apart_from n o)) s.placed) (subst (λ m. at' m ≡ Some (alone x)) (sym e) new, tt, tt);
        counted = counted;
        rising = IsRising-pushed 0 made f x e (omega arith) absent s.rising;
        fits = (let k = total-beside (λ _. 1) f (node x empty empty) in let l = s.fits in omega arith);
        below = λ n k. ap held (old n (λ d. omega arith)) ∙ s.below n (omega arith);
      }
    where
      absent : (k : ℕ) → made ≤ k → occurs k f ≡ 0
      absent k l = s.counted k ∙ s.below k l

      apart_from : (n : ℕ) → 0 < occurs n f → n ≡ made → ⊥
      apart_from n o d = let z = absent n (omega arith) in omega arith

      counted : (n : ℕ) → occurs n (beside f (node x empty empty)) ≡ held (at' n)
      counted n =
          let t = total-beside (one_at n) f (node x empty empty) in
          elim (same_or x.number n) [
            | same d v ↦
                let d2 : made ≡ n = sym e ∙ d in
                let k : held (at' n) ≡ 1 = subst (λ m. held (at' m) ≡ 1) d2 (ap held new) in
                let z = absent n (omega arith) in
                let t2 = rw v at t in
                omega (arith, t2, k)
            | apart ne v ↦
                let k : held (at' n) ≡ held (at n) = ap held (old n (λ d. ne (e ∙ sym d))) in
                let t2 = rw v at t in
                omega (arith, t2, k, s.counted n)
          ]

  pub IsForest-Spells : (made : ℕ) (at : (ℕ → Option (Entry (Node X)))) (f : Forest X) → Spells made at f → KindsFit None f → IsForest (record { forest = f; made = made })
  IsForest-Spells made at f s k =
      record {
        once = once_in made at f s;
        small = λ n l. s.counted n ∙ s.below n l;
        rising = s.rising;
        kinds = k;
      }
