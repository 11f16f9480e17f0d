-- Entries that lie as a forest does.
use Rattle.std.specs.Prelude.{◌≡◌, ℕ, Option, Some}
use Rattle.dom_model.specs.Forests.Arena.{Entry}
use Rattle.dom_model.specs.Forests.Forest.{Node, Forest, empty, node, tops}

module _ {X : Type 0} where
  -- the entries at the forest's numbers are its nodes, below `parent`
  abbrev pub Lies : (ℕ → Option (Entry (Node X))) → Option ℕ → Forest X → Type 0
  Lies at parent empty = Unit {0}
  Lies at parent (node x kids rest) =
      (at x.number ≡ Some (record { value = x; parent = parent; children = tops kids })) × Lies at (Some x.number) kids × Lies at parent rest
