-- A node outside of a tree that has its node document there.
use Rattle.std.specs.Prelude.{ℕ, Bool, false, not, ◌&&◌, Option, Some, None}
use Rattle.dom_model.specs.PlainLists.Lists.{among}
use Rattle.dom_model.specs.Forests.Arena.{Entry}
use Rattle.dom_model.specs.Forests.Forest.{Node, Forest, entry_in, inclusive_descendants}

module _ {X : Type 0} where
  -- the test of a node's document, where there is a node
  abbrev pub document_passes : (ℕ → Bool) → Option (Entry (Node X)) → Bool
  document_passes test None = false
  document_passes test (Some e) = test e.value.document

  abbrev pub refers_from : Forest X → ℕ → ℕ → Bool
  refers_from f top n =
      document_passes (λ d. among d (inclusive_descendants f top)) (entry_in f n) && not (among n (inclusive_descendants f top))
