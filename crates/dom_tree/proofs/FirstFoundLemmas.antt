-- A test that is put to the nodes inside a node in tree order, and what is told by what it finds.
use Rattle.std.proofs.Common.{◌≡◌, ℕ, zero, suc, ◌+◌, ◌-◌, ◌<◌, Bool, true, false, List, [], ◌∷◌, Option, Some, None, refl, sym, ap, ◌∙◌, subst, ⊎_elim, arith, IfSome}
use Rattle.std.specs.List.{list_any}
use Rattle.std.proofs.lemmas.Bool.{cases_Bool}
use Rattle.dom_model.specs.Definitions.{among, after, from_first, Forest, Grove, HasNode, inclusive_descendants, IsForest}
use Rattle.dom_model.proofs.PlainLists.Searches.{any-either}
use Rattle.dom_model.proofs.Forests.TreeOrder.InsideWalks.{IsAt, from-top, rest-next, rest-end}
use Rattle.dom_tree.specs.FirstFound.{first_asked}

-- where it has an answer, that is whether any passes
asked-any : (ns : List ℕ) (steps : ℕ) (says : ℕ → Bool) → IfSome (first_asked ns steps says) (λ any. any ≡ list_any says ns)
asked-any [] steps says = refl
asked-any (n ∷ ns) zero says = tt
asked-any (n ∷ ns) (suc k) says = ⊎_elim (λ (e : says n ≡ true). rw e refl) (λ (e : says n ≡ false). rw e (asked-any ns k says)) (cases_Bool (says n))

-- the same of a test that tells whether a node is one of some: whether one of these stands among those that are asked
pub asked-found : (ns : List ℕ) (steps : ℕ) (names : List ℕ) {result : Option Bool} → result ≡ first_asked ns steps (λ m. among m names) →
    IfSome result (λ any. any ≡ list_any (λ m. among m ns) names)
asked-found ns steps names {result} e =
    subst (λ o. IfSome o (λ any. any ≡ list_any (λ m. among m ns) names)) (sym e)
    (subst (λ b. IfSome (first_asked ns steps (λ m. among m names)) (λ any. any ≡ b)) (any-either names ns) (asked-any ns steps (λ m. among m names)))

-- an asking that has come to `here` and asked `asked` before it: what it finds in the steps that are left is what the whole finds
abbrev pub IsAsking : {X : Type 0} → Forest X → ℕ → ℕ → (ℕ → Bool) → ℕ → ℕ → Type 0
IsAsking f top steps says here asked =
    (left : ℕ) → left + asked ≡ steps → first_asked (inclusive_descendants f top) steps says ≡ first_asked (from_first here (inclusive_descendants f top)) left says

module _ {X : Type 0} (g : Grove X) (s : IsForest g) (top steps : ℕ) (says : ℕ → Bool) where
  abbrev inside : List ℕ
  inside = inclusive_descendants g.forest top

  pub asking-top : HasNode g.forest top → IsAsking g.forest top steps says top 0
  asking-top h left e = let same : left ≡ steps = omega (arith, e) in rw (from-top g s top h, same) refl

  pub asking-next : (here next asked : ℕ) → IsAsking g.forest top steps says here asked → says here ≡ false → after here inside ≡ Some next →
      IsAsking g.forest top steps says next (asked + 1)
  asking-next here next asked before none e left all =
      before (suc left) (omega (arith, all)) ∙ ap (λ ns. first_asked ns (suc left) says) (rest-next g s top here next e) ∙ rw none refl

  -- what it finds at the node that it has come to, where a step is left
  pub asking-found : (here asked : ℕ) → IsAt g.forest top here → IsAsking g.forest top steps says here asked → says here ≡ true → asked < steps →
      Some true ≡ first_asked inside steps says
  asking-found here asked at before passes fewer = sym (before (suc (steps - (asked + 1))) (omega (arith, fewer)) ∙ found (after here inside) refl)
    where
      found : (next : Option ℕ) → after here inside ≡ next → first_asked (from_first here inside) (suc (steps - (asked + 1))) says ≡ Some true
      found (Some next) e = rw (rest-next g s top here next e, passes) refl
      found None e = rw (rest-end g s top here at e, passes) refl

  pub asking-end : (here asked : ℕ) → IsAt g.forest top here → IsAsking g.forest top steps says here asked → says here ≡ false → asked < steps →
      after here inside ≡ None → Some false ≡ first_asked inside steps says
  asking-end here asked at before none fewer e =
      sym (before (suc (steps - (asked + 1))) (omega (arith, fewer)) ∙ ap (λ ns. first_asked ns (suc (steps - (asked + 1))) says) (rest-end g s top here at e)
      ∙ rw none refl)

  -- and where none is left
  pub asking-stops : (here asked : ℕ) → IsAt g.forest top here → IsAsking g.forest top steps says here asked → asked ≡ steps → None ≡ first_asked inside steps says
  asking-stops here asked at before all = sym (before 0 (omega (arith, all)) ∙ stops (after here inside) refl)
    where
      stops : (next : Option ℕ) → after here inside ≡ next → first_asked (from_first here inside) 0 says ≡ None
      stops (Some next) e = rw (rest-next g s top here next e) refl
      stops None e = rw (rest-end g s top here at e) refl
