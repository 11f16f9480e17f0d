-- The keys of the registrations on a node, in the order of these.
use Rattle.std.specs.Prelude.{ℕ, List}

pub record Keys : Type 0 where
  pub items : List ℕ
