-- Where iterators and walkers stand, and what a change of one leaves.
use Rattle.std.specs.Prelude.{◌≡◌, ℕ, ◌<◌, List, slice_index_or, slice_set, Option, Some, None, IfSome}
use Rattle.dom_model.specs.declared.Move.{Move}
use Rattle.dom_model.specs.PlainLists.Lists.{hits}
use Rattle.dom_model.specs.Forests.Forest.{Forest, HasNode, inclusive_descendants}
use Rattle.dom_model.specs.Worlds.World.{Iterator, Walker}
use Rattle.dom_model.specs.Traversal.Walks.{walk_found, walker_moved}

-- an iterator, or a walker, by its number; none where the number was not given out, or was released
abbrev pub item_in : {A : Type 0} → List (Option A) → ℕ → Option A
item_in items id = slice_index_or items id None

abbrev pub iterator_in : List (Option Iterator) → ℕ → Option Iterator
iterator_in is id = slice_index_or is id None

abbrev pub walker_in : List (Option Walker) → ℕ → Option Walker
walker_in ws id = slice_index_or ws id None

-- one of them becomes what is made of it, and no other changes
abbrev pub IteratorBecomes : ℕ → (Iterator → Iterator) →
    List (Option Iterator) → List (Option Iterator) → Type 0
IteratorBecomes id change old new =
    IfSome (iterator_in old id) (λ i. new ≡ slice_set old id (Some (change i)))

abbrev pub WalkerBecomes : ℕ → (Walker → Walker) →
    List (Option Walker) → List (Option Walker) → Type 0
WalkerBecomes id change old new =
    IfSome (walker_in old id) (λ w. new ≡ slice_set old id (Some (change w)))

-- one of them released
abbrev pub with_released : {A : Type 0} → ℕ → List (Option A) → List (Option A)
with_released id items = slice_set items id None

-- a walker with another current node
abbrev pub with_current : ℕ → Walker → Walker
with_current node w = record w { current = node }

module _ {X : Type 0} where
  -- an iterator: its root is there, and its reference is an inclusive descendant of it
  pub record StandsInside (f : Forest X) (i : Iterator) : Type 0 where
    pub root : HasNode f i.root
    pub inside : 0 < hits i.reference (inclusive_descendants f i.root)

  -- a walker: both its nodes are there; the current one may stand anywhere
  pub record StandsThere (f : Forest X) (w : Walker) : Type 0 where
    pub root : HasNode f w.root
    pub current : HasNode f w.current

  -- a walker after one of the seven moves
  abbrev pub moved_by : Move → Forest X → Walker → Walker
  moved_by way f w = walker_moved (walk_found way f w) w
