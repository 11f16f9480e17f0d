-- Nodes of one root.
use Rattle.std.proofs.Common.{◌≡◌, ℕ, true}
use Rattle.dom_model.specs.Definitions.{Forest, root_of, same_root}
use Rattle.dom_model.proofs.RangesAndContents.RangesSet.{same_option}

pub one-root : {X : Type 0} (f : Forest X) (n m : ℕ) → same_root f n m ≡ true → root_of f n ≡ root_of f m
one-root f n m h = same_option (root_of f n) (root_of f m) h
