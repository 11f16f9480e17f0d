-- The order of the nodes that have registrations, as one comes last and as the last goes.
use Rattle.std.specs.Prelude.{◌≡◌, ◌⊎◌, ℕ, List, [], ◌∷◌, ◌++◌}
use Rattle.std.specs.Map.{keys_of}
use Rattle.dom_model.specs.PlainLists.LastOnce.{with_last}
use Rattle.dom_observe.specs.Watchers.{on}

-- the nodes are as they were, or one came last that was not there
abbrev pub MayComeLast : ℕ → List (ℕ × List ℕ) → List (ℕ × List ℕ) → Type 0
MayComeLast n lists lists' = (keys_of lists' ≡ keys_of lists) ⊎ (keys_of lists' ≡ with_last (keys_of lists) n)

-- one went, with its keys; if it was the last, the others are as they were
pub record LastGone (n : ℕ) (lists lists' : List (ℕ × List ℕ)) : Type 0 where
  pub bare : on n lists' ≡ []
  pub others : (ns : List ℕ) → keys_of lists ≡ ns ++ n ∷ [] → keys_of lists' ≡ ns

-- the nodes are as they were, or one went
abbrev pub MayGoLast : ℕ → List (ℕ × List ℕ) → List (ℕ × List ℕ) → Type 0
MayGoLast n lists lists' = (keys_of lists' ≡ keys_of lists) ⊎ LastGone n lists lists'
