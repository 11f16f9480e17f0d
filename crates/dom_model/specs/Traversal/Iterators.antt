-- The next and the previous node of an iterator, as slices of its root's flattening. DOM Standard, "Interface NodeIterator", to traverse.
-- What an iterator does before a node is removed stands in PreRemoval.
use Rattle.std.specs.Prelude.{ℕ, Bool, true, false, if◌then◌else◌, List, ◌∷◌, reverse, find, Option, Some, None}
use Rattle.dom_model.specs.Forests.Forest.{Forest, inclusive_descendants}
use Rattle.dom_model.specs.Worlds.World.{Filter, Iterator}
use Rattle.dom_model.specs.PlainLists.Lists.{past, up_to}
use Rattle.dom_model.specs.Traversal.Filters.{accepts}

-- a new iterator stands before its root
abbrev pub new_iterator : ℕ → Filter → Iterator
new_iterator root filter = record { root = root; reference = root; before = true; filter = filter }

-- forwards: the reference, where the pointer is before it, and the nodes that follow it in the list
abbrev pub from_reference : Iterator → List ℕ → List ℕ
from_reference i all = if i.before then i.reference ∷ past i.reference all else past i.reference all

-- backwards: the reference, where the pointer is after it, and the nodes that precede it in the list, the nearest first
abbrev pub back_from_reference : Iterator → List ℕ → List ℕ
back_from_reference i all =
    if i.before then reverse (up_to i.reference all) else i.reference ∷ reverse (up_to i.reference all)

-- the node that was found becomes the reference; where there is none, nothing changes
abbrev pub iterator_moved : Bool → Option ℕ → Iterator → Iterator
iterator_moved before None i = i
iterator_moved before (Some n) i = record i { reference = n; before = before }

module _ {X : Type 0} where
  -- the next node: the first accepted one forwards
  abbrev pub next_found : Forest X → Iterator → Option ℕ
  next_found f i = find (accepts f i.filter) (from_reference i (inclusive_descendants f i.root))

  -- the previous node: the first accepted one backwards
  abbrev pub previous_found : Forest X → Iterator → Option ℕ
  previous_found f i = find (accepts f i.filter) (back_from_reference i (inclusive_descendants f i.root))

  abbrev pub moved_to_next : Forest X → Iterator → Iterator
  moved_to_next f i = iterator_moved false (next_found f i) i

  abbrev pub moved_to_previous : Forest X → Iterator → Iterator
  moved_to_previous f i = iterator_moved true (previous_found f i) i
