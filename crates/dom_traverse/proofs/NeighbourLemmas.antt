-- The nodes beside, under and over a node are there.
use Rattle.std.proofs.Common.{◌≡◌, ℕ, ◌<◌, Option, Some, None}
use Rattle.dom_model.specs.Definitions.{hits, head_of, last_of, after, list_under, Grove, HasNode, entry_in, children_of, parent_of, next_of, previous_of, IsForest}
use Rattle.dom_model.proofs.Forests.{Entries.HasNode-occurs, Indices.child-there, PutBack.hits-head_of, PutBack.hits-after, Siblings.index-step, TreeOrder.Ending.last-down}

module _ {X : Type 0} {g : Grove X} (s : IsForest g) where
  child : (m p : ℕ) → 0 < hits m (children_of g.forest p) → HasNode g.forest m
  child m p h = HasNode-occurs g.forest m (child-there g.forest s.once m p h)

  pub first-there : (n m : ℕ) → head_of (children_of g.forest n) ≡ Some m → HasNode g.forest m
  first-there n m e = child m n (hits-head_of (children_of g.forest n) m e)

  pub last-there : (n m : ℕ) → HasNode g.forest n → last_of (children_of g.forest n) ≡ Some m → HasNode g.forest m
  last-there n m h e = (last-down s n m h e).1.1

  pub next-there : (n m : ℕ) → next_of g.forest n ≡ Some m → HasNode g.forest m
  next-there n m e = go (parent_of g.forest n) e
    where
      go : (p : Option ℕ) → after n (list_under (entry_in g.forest) p) ≡ Some m → HasNode g.forest m
      go None d = absurd (cc d)
      go (Some p) d = child m p (hits-after n (children_of g.forest p) m d)

  pub previous-there : (n m : ℕ) → HasNode g.forest n → previous_of g.forest n ≡ Some m → HasNode g.forest m
  previous-there n m h e = (index-step s n m h e).1.1
