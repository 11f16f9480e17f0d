-- What is so where there is no attribute.
use Rattle.std.proofs.Common.{◌≡◌, ℕ, suc, false, List, [], ◌∷◌, length, nat_eq, ap, sym, subst, arith, bytes_eq}
use Rattle.std.proofs.lemmas.Bool.Decides.{nat_tests}
use Rattle.std.specs.List.{IsDistinct}
use Rattle.dom_model.specs.Definitions.{Attribute, attribute_names, same_attributes}

pub distinct-none : (xs : List Attribute) → xs ≡ [] → IsDistinct bytes_eq (attribute_names xs)
unfolding IsDistinct
distinct-none xs e = subst (λ (ys : List Attribute). IsDistinct bytes_eq (attribute_names ys)) (sym e) tt

not-zero : (n m : ℕ) → n ≡ suc m → nat_eq n 0 ≡ false
not-zero n m e = grind (arith, nat_tests)

pub none-are-same : (xs ys : List Attribute) (n : ℕ) → xs ≡ [] → n ≡ length ys → nat_eq n 0 ≡ same_attributes xs ys
none-are-same xs ys n e l = subst (λ (zs : List Attribute). nat_eq n 0 ≡ same_attributes zs ys) (sym e) (go ys l)
  where
    go : (zs : List Attribute) → n ≡ length zs → nat_eq n 0 ≡ same_attributes [] zs
    go [] k = ap (λ (m : ℕ). nat_eq m 0) k
    go (z ∷ zs) k = not-zero n (length zs) k

pub same-are-none : (xs ys : List Attribute) (n : ℕ) → ys ≡ [] → n ≡ length xs → nat_eq n 0 ≡ same_attributes xs ys
same-are-none xs ys n e l = subst (λ (zs : List Attribute). nat_eq n 0 ≡ same_attributes xs zs) (sym e) (go xs l)
  where
    go : (zs : List Attribute) → n ≡ length zs → nat_eq n 0 ≡ same_attributes zs []
    go [] k = ap (λ (m : ℕ). nat_eq m 0) k
    go (z ∷ zs) k = not-zero n (length zs) k
