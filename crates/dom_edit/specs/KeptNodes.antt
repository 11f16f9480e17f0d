-- What a call keeps, also where memory was wanting half-way: nodes, what watches, and what no edit touches. Ours.
use Rattle.std.specs.Prelude.{◌≡◌, ℕ, Bool, List, Option, map, is_some, option_map}
use Rattle.dom_model.specs.Forests.Attributes.{Attribute}
use Rattle.dom_model.specs.Forests.Forest.{Forest, HasNode, entry_in}
use Rattle.dom_model.specs.Worlds.World.{Content, Iterator, Filter}
use Rattle.dom_model.specs.DataAndCopies.Data.{content_in}
use Rattle.dom_model.specs.TokenText.Originals.{label_of}
use Rattle.dom_observe.specs.ObservedNodes.{SameObservers}
use Rattle.dom_edit.specs.declared.world.World.{World}

-- under which numbers there is something: what was released is none
abbrev pub present : {A : Type 0} → List (Option A) → List Bool
present xs = map is_some xs

-- where an iterator goes, and what it passes over: no edit changes these
abbrev pub scope_of : Iterator → ℕ × Filter
scope_of i = (i.root, i.filter)

-- the scopes of iterators, by number
abbrev pub scopes : List (Option Iterator) → List (Option (ℕ × Filter))
scopes is = map (λ (i : Option Iterator). option_map scope_of i) is

-- each live range, iterator and observer that was there is there, an iterator with its root and its filter; and no other is
pub record KeepsWatchers (old new : World) : Type 0 where
  pub ranges : present new.ranges.ranges ≡ present old.ranges.ranges
  pub iterators : scopes new.iterators ≡ scopes old.iterators
  pub observers : SameObservers old.observers new.observers

-- the attributes of a node
abbrev pub attributes_at : Forest Content → ℕ → List Attribute
attributes_at f n = (content_in (entry_in f n)).attributes

-- each node that was held is held, with its label and its attributes; static ranges and walkers are as they were, and all that watches is there
pub record KeepsLabels (old new : World) : Type 0 where
  pub held : (n : ℕ) → HasNode old.tree.forest n → HasNode new.tree.forest n
  pub labels : (n : ℕ) → HasNode old.tree.forest n → label_of new.tree.forest n ≡ label_of old.tree.forest n
  pub attributes : (n : ℕ) → HasNode old.tree.forest n → attributes_at new.tree.forest n ≡ attributes_at old.tree.forest n
  pub statics : new.statics ≡ old.statics
  pub walkers : new.walkers ≡ old.walkers
  pub watchers : KeepsWatchers old new

-- the same, and each such node with its data; and no number was given out
pub record KeepsNodes (old new : World) : Type 0 where
  pub labelled : KeepsLabels old new
  pub contents : (n : ℕ) → HasNode old.tree.forest n → content_in (entry_in new.tree.forest n) ≡ content_in (entry_in old.tree.forest n)
  pub made : new.tree.made ≡ old.tree.made
