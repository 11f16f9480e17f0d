-- How two nodes stand to each other: what is not there has no ancestors, and tree order by places in it.
use Rattle.std.proofs.Common.{◌≡◌, ℕ, ◌+◌, ◌<◌, ◌≤◌, nat_lt, false, List, [], ◌∷◌, is_some, refl, ap, sym, ◌∙◌, arith, ⊎_elim}
use Rattle.std.proofs.lemmas.Bool.{cases_lt, false≢true, lt-ltb, le-ltb}
use Rattle.dom_model.specs.Definitions.{among, place_in, up_to, Forest, occurs, entry_in, contains}
use Rattle.dom_model.proofs.PlainLists.Numbers.{same_or, same, apart}
use Rattle.dom_model.proofs.Forests.{Entries.HasNode-occurs, Climbing.ancestors-absent}

one-less : (a b : ℕ) → nat_lt a b ≡ nat_lt (1 + a) (1 + b)
one-less a b =
    ⊎_elim
    (λ (lt : a < b). lt-ltb a b lt ∙ sym (lt-ltb (1 + a) (1 + b) (omega arith)))
    (λ (le : b ≤ a). le-ltb a b le ∙ sym (le-ltb (1 + a) (1 + b) (omega arith)))
    (cases_lt a b)

-- what stands ahead of a number of a list has the smaller place
pub ahead_place : (n m : ℕ) (ns : List ℕ) → among n (up_to m ns) ≡ nat_lt (place_in n ns) (place_in m ns)
ahead_place n m [] = refl
ahead_place n m (x ∷ xs) =
    elim (same_or x m) [
      | same d t ↦ rw t (sym (le-ltb (place_in n (x ∷ xs)) 0 (omega arith)))
      | apart far t ↦
          elim (same_or x n) [
            | same e v ↦ rw (t, v) (sym (lt-ltb 0 (1 + place_in m xs) (omega arith)))
            | apart ne v ↦ rw (t, v) (ahead_place n m xs ∙ one-less (place_in n xs) (place_in m xs))
          ]
    ]

module _ {X : Type 0} where
  -- nothing contains what is not there
  pub contains-absent : (f : Forest X) (n other : ℕ) → is_some (entry_in f other) ≡ false → contains f n other ≡ false
  contains-absent f n other e =
      let z : occurs other f ≡ 0 =
      ⊎_elim
      (λ (lt : 0 < occurs other f). absurd (let h = HasNode-occurs f other lt in false≢true (sym e ∙ h)))
      (λ (le : occurs other f ≤ 0). omega arith)
      (cases_lt 0 (occurs other f)) in
      ap (among n) (ancestors-absent other f z)
