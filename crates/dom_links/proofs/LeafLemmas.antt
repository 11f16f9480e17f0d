-- Nothing stands under a slot with no child but that slot.
use Rattle.std.proofs.Common.{◌≡◌, ℕ, [], length, Option, Some, refl, ap, ◌∙◌, arith}
use Rattle.std.proofs.lemmas.List.{nil_from_length}
use Rattle.dom_model.specs.Definitions.{hits, Entry, names, parent_in, children_in, IsLinked, StandsUnder}
use Rattle.dom_model.specs.Forests.Arena.StandsUnder.{itself, below}
use Rattle.dom_links.proofs.UnlinkLemmas.{names-same}

childless : {T : Type 0} (at : ℕ → Option (Entry T)) (c n : ℕ) → IsLinked at → children_in (at c) ≡ [] → parent_in (at n) ≡ Some c → ⊥
childless at c n l none up =
    let h : hits n (children_in (at c)) ≡ 1 = l c n ∙ (ap (λ o. names o c) up ∙ names-same c) in
    let z : hits n (children_in (at c)) ≡ 0 = ap (hits n) none in
    omega arith

pub leaf_alone : {T : Type 0} (at : ℕ → Option (Entry T)) (c n : ℕ) → IsLinked at → length (children_in (at c)) ≡ 0 → StandsUnder at c n → n ≡ c
leaf_alone at c _ l leaf itself = refl
leaf_alone at c _ l leaf (below {n} {p} up s) =
    let e : p ≡ c = leaf_alone at c p l leaf s in
    absurd (childless at c n l (nil_from_length (children_in (at c)) leaf) (up ∙ ap Some e))
