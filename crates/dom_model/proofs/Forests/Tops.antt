-- The tops of a changed forest.
use Rattle.std.proofs.Common.{◌≡◌, ℕ, suc, ◌<◌, ◌≤◌, true, false, nat_lt, List, [], ◌∷◌, ◌++◌, Option, refl, arith, ⊎_elim}
use Rattle.std.proofs.lemmas.Bool.{cases_lt, lt-ltb, le-ltb}
use Rattle.dom_model.specs.Definitions.{hits, entered, left_out, Forest, empty, node, occurs, tops, beside, tree_at, without, placed_before, placed_under, placed_root, IsRising}
use Rattle.dom_model.proofs.PlainLists.Numbers.{same_or, same, apart}
use Rattle.dom_model.proofs.Forests.Totals.{tree_at-absent, beside-empty}

pub IsRising-from : (low lower : ℕ) (ns : List ℕ) → lower ≤ low → IsRising low ns → IsRising lower ns
IsRising-from low lower [] h r = tt
IsRising-from low lower (n ∷ ns) h r = (let k : low ≤ n = r.0 in omega arith, r.1)

pub IsRising-left_out : (low c : ℕ) (ns : List ℕ) → IsRising low ns → IsRising low (left_out c ns)
IsRising-left_out low c [] r = tt
IsRising-left_out low c (n ∷ ns) r =
    elim (same_or n c) [
      | same e t ↦ rw t (IsRising-from (suc n) low (left_out c ns) (let k : low ≤ n = r.0 in omega arith) (IsRising-left_out (suc n) c ns r.1))
      | apart ne t ↦ rw t (r.0, IsRising-left_out (suc n) c ns r.1)
    ]

module _ {X : Type 0} where
  pub tops-beside : (f g : Forest X) → tops (beside f g) ≡ tops f ++ tops g
  tops-beside empty g = refl
  tops-beside (node x kids rest) g = rw (tops-beside rest g) refl

  pub tops-without : (c : ℕ) (f : Forest X) → tops (without c f) ≡ left_out c (tops f)
  tops-without c empty = refl
  tops-without c (node x kids rest) = grind (arith, tops-without c rest)

  pub tops-placed_under : (p : ℕ) (b : Option ℕ) (t f : Forest X) → tops (placed_under p b t f) ≡ tops f
  tops-placed_under p b t empty = refl
  tops-placed_under p b t (node x kids rest) = rw (tops-placed_under p b t rest) refl

  pub tops-placed_before : (b : Option ℕ) (c : ℕ) (t f : Forest X) → tops t ≡ c ∷ [] → tops (placed_before b t f) ≡ entered b c (tops f)
  tops-placed_before b c t empty h = h
  tops-placed_before b c t (node x kids rest) h = grind (arith, tops-beside t (node x kids rest), tops-placed_before b c t rest h)

  pub tops-tree_at : (c : ℕ) (f : Forest X) → occurs c f ≡ 1 → tops (tree_at c f) ≡ c ∷ []
  tops-tree_at c empty h = absurd (omega arith)
  tops-tree_at c (node x kids rest) h =
      grind (arith, tree_at-absent c rest, beside-empty (tree_at c kids), tops-tree_at c kids, tree_at-absent c kids, tops-tree_at c rest)

  pub hits-tops : (n : ℕ) (f : Forest X) → hits n (tops f) ≤ occurs n f
  hits-tops n empty = omega arith
  hits-tops n (node x kids rest) = omega (arith, hits-tops n rest)

  pub IsRising-placed_root : (low c : ℕ) (t f : Forest X) → tops t ≡ c ∷ [] → low ≤ c → hits c (tops f) ≡ 0 → IsRising low (tops f) → IsRising low (tops (placed_root c t f))
  IsRising-placed_root low c t empty e h z r = rw e (h, tt)
  IsRising-placed_root low c t (node x kids rest) e h z r =
      ⊎_elim
      (λ (lt : c < x.number).
      let s : nat_lt c x.number ≡ true = lt-ltb c x.number lt in
      rw (s, tops-beside t (node x kids rest), e) (h, (let k : suc c ≤ x.number = lt in k, r.1)))
      (λ (le : x.number ≤ c).
      let s : nat_lt c x.number ≡ false = le-ltb c x.number le in
      rw s (elim (same_or x.number c) [
        | same e2 v ↦ absurd (let k = rw v at z in omega arith)
        | apart ne v ↦
            let k = rw v at z in
            let k0 : hits c (tops rest) ≡ 0 = omega arith in
            (r.0, IsRising-placed_root (suc x.number) c t rest e (omega arith) k0 r.1)
      ]))
      (cases_lt c x.number)
