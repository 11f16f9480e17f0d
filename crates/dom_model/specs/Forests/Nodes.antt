-- What is asked of the nodes of a forest by their numbers: kinds and roots. DOM Standard, "Trees" and "Interface Node".
use Rattle.std.specs.Prelude.{ℕ, Bool, false, Option, Some, None}
use Rattle.dom_model.specs.declared.Kind.{Kind}
use Rattle.dom_model.specs.PlainLists.Lists.{is_same}
use Rattle.dom_model.specs.Forests.Kinds.{is_kind}
use Rattle.dom_model.specs.Forests.Arena.{Entry}
use Rattle.dom_model.specs.Forests.Forest.{Node, Forest, entry_in, root_of}

module _ {X : Type 0} where
  abbrev pub entry_has : (Kind → Bool) → Option (Entry (Node X)) → Bool
  entry_has test None = false
  entry_has test (Some e) = test e.value.label.kind

  -- the node stands in the forest, and its kind passes the test
  abbrev pub kind_passes : (Kind → Bool) → Forest X → ℕ → Bool
  kind_passes test f n = entry_has test (entry_in f n)

  abbrev pub is_of_kind : Kind → Forest X → ℕ → Bool
  is_of_kind k f n = kind_passes (is_kind k) f n

  -- two nodes stand in one tree
  abbrev pub same_root : Forest X → ℕ → ℕ → Bool
  same_root f n m = is_same (root_of f n) (root_of f m)
