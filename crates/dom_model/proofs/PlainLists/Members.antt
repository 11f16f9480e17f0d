-- What stands last in a list, or before another, stands in it.
use Rattle.std.proofs.Common.{◌≡◌, ℕ, ◌<◌, List, [], ◌∷◌, Option, Some, subst, arith, ◌⊎◌}
use Rattle.dom_model.specs.Definitions.{hits, last_of, before_from}
use Rattle.dom_model.proofs.Forests.Climbing.{hits-first}

pub hits-last_of : (l : List ℕ) (x : ℕ) → last_of l ≡ Some x → 0 < hits x l
hits-last_of [] x e = absurd (cc e)
hits-last_of (y ∷ []) x e = (let d : y ≡ x = cc e in subst (λ m. 0 < hits m (y ∷ [])) d (hits-first y []))
hits-last_of (y ∷ z ∷ zs) x e = omega (arith, hits-last_of (z ∷ zs) x e)

pub hits-before : (passed : Option ℕ) (s : ℕ) (l : List ℕ) (x : ℕ) → before_from passed s l ≡ Some x → (passed ≡ Some x) ⊎ (0 < hits x l)
hits-before passed s [] x e = absurd (cc e)
hits-before passed s (y ∷ ys) x e = grind (arith, hits-before (Some y) s ys x)
