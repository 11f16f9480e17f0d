-- What a walk through the nodes inside a node has left.
use Rattle.std.proofs.Common.{◌≡◌, ℕ, ◌<◌, Option, Some, None, length, ap, arith}
use Rattle.dom_model.specs.Definitions.{after, from_first, Grove, inclusive_descendants, IsForest}
use Rattle.dom_model.proofs.Forests.TreeOrder.InsideWalks.{IsAt, rest-next, rest-end}

module _ {X : Type 0} (g : Grove X) (s : IsForest g) (top : ℕ) where
  -- the node that it has come to, at least
  pub some_left : (here : ℕ) → IsAt g.forest top here → (next : Option ℕ) → after here (inclusive_descendants g.forest top) ≡ next → 0 < length (from_first here (inclusive_descendants g.forest top))
  some_left here at (Some m) e = omega (arith, ap length (rest-next g s top here m e))
  some_left here at None e = omega (arith, ap length (rest-end g s top here at e))
