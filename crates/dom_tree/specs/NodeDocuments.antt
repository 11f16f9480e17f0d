-- Node documents, and how many nodes have each. DOM Standard, "Interface Node".
use Rattle.std.specs.Prelude.{◌≡◌, ℕ, zero, suc, ◌+◌, Option, Some, IsSome, option_map}
use Rattle.dom_model.specs.Forests.Arena.{Entry, names}
use Rattle.dom_model.specs.Forests.Forest.{Node, Forest, entry_in}

-- a sum over the numbers below a bound
abbrev pub sum_below : (ℕ → ℕ) → ℕ → ℕ
sum_below weight zero = 0
sum_below weight (suc n) = weight n + sum_below weight n

-- how many of the numbers below a bound have the node document d
abbrev pub having : (ℕ → Option ℕ) → ℕ → ℕ → ℕ
having document d made = sum_below (λ n. names (document n) d) made

-- Each node document is a node, and its slot keeps how many nodes have it.
pub record AreDocumentsCounted (document : ℕ → Option ℕ) (slot_of : ℕ → Option ℕ) (owned : ℕ → ℕ) (made : ℕ) : Type 0 where
  pub there : (n d : ℕ) → document n ≡ Some d → IsSome (document d)
  pub right : (n slot : ℕ) → slot_of n ≡ Some slot → owned slot ≡ having document n made

module _ {X : Type 0} where
  -- the node document of an entry
  abbrev pub document_at : Option (Entry (Node X)) → Option ℕ
  document_at o = option_map (λ (e : Entry (Node X)). e.value.document) o

  -- the node document of a number; none where no node has the number
  abbrev pub document_in : Forest X → ℕ → Option ℕ
  document_in f n = document_at (entry_in f n)

  -- how many nodes have the node document d
  abbrev pub owned_by : Forest X → ℕ → ℕ → ℕ
  owned_by f made d = having (document_in f) d made
