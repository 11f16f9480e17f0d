-- The clause of a borrowed body.
use Rattle.std.specs.Prelude.{ℕ}
use Rattle.std.specs.Borrow.{Lends, MutBor, Fml, RattleType}
use Rattle.dom_model.specs.Forests.Forest.{Grove, with_node}
use Rattle.dom_tree.specs.Bodies.{with_body}
use Rattle.dom_tree.specs.contracts.tree.Tree.{the_row}

-- the tree ends with the body of node n set to the last value behind r
abbrev pub lends_body : (T : RattleType) → MutBor (Grove T.Denot) → ℕ → MutBor T.Denot → Fml
lends_body T s n r = Lends (the_row T) T s r (λ w. record s.now { forest = with_node n (with_body w) s.now.forest })
