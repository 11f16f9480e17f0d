-- Room for the numbers that a step gives out, nodes that are still held after it, and how copies along a path are opened and closed.
-- DOM Standard, "Interface Range" (extract, clone the contents).
use Rattle.std.specs.Prelude.{◌≡◌, ℕ, ◌<◌, ◌≤◌, Bool, false, List, [], ◌∷◌, Some, IsSome}
use Rattle.dom_model.specs.declared.Kind.{Kind}
use Rattle.dom_model.specs.Forests.Forest.{Forest, occurs, parent_of, children_of, root_of}
use Rattle.dom_model.specs.Worlds.World as model
use Rattle.dom_model.specs.Worlds.World.{Content}
use Rattle.dom_model.specs.Forests.Nodes.{kind_passes}
use Rattle.dom_model.specs.PlainLists.Lists.{hits, up_to}
use Rattle.dom_model.specs.MutationAlgorithms.Editing.{append, node_document}
use Rattle.dom_model.specs.DataAndCopies.Data.{data_of}
use Rattle.dom_model.specs.DataAndCopies.Clones.{clone_node}
use Rattle.dom_model.specs.RangesAndContents.Contents.{new_fragment, children_into}
use Rattle.dom_ranges.specs.Tables.{live_nodes}
use Rattle.dom_edit.specs.declared.world.World.{World}
use Rattle.dom_edit.specs.OlderNodes.{LeavesAll, AreNewer}
use Rattle.dom_edit.specs.Whole.{IsWhole, Keeps, unwatched}
use Rattle.dom_content.specs.declared.partially_contained.Partial.{Partial}

-- in a world that it keeps, no number is left beyond the last one when the step is done
pub record HasNumbers (v : World) (step : model.World → model.World) : Type 0 where
  pub stands_for : model.World
  pub keeps : Keeps v stands_for
  pub within : (step stands_for).made ≤ 4294967295

-- the nodes of the one are nodes of the other
abbrev pub StillHeld : World → World → Type 0
StillHeld old new = (m : ℕ) → 0 < occurs m old.tree.forest → 0 < occurs m new.tree.forest

-- and are of the kinds that they were of
abbrev pub KindsStay : World → World → Type 0
KindsStay old new = (test : Kind → Bool) (m : ℕ) → 0 < occurs m old.tree.forest → kind_passes test new.tree.forest m ≡ kind_passes test old.tree.forest m

-- and have the data that they had
abbrev pub DataStays : World → World → Type 0
DataStays old new = (m : ℕ) → 0 < occurs m old.tree.forest → data_of (unwatched new) m ≡ data_of (unwatched old) m

-- a node stands in a tree of which the root passes
pub record StandsUnder (passes : ℕ → Type 0) (f : Forest Content) (n : ℕ) : Type 0 where
  pub root : ℕ
  pub under : root_of f n ≡ Some root
  pub passed : passes root

-- each end of a live range stands in a tree of an older root than a number, so none in the trees that were made since
abbrev pub EndsStayOut : ℕ → World → Type 0
EndsStayOut low v = (m : ℕ) → 0 < hits m (live_nodes v.ranges) → StandsUnder (λ root. root < low) v.tree.forest m

-- what each step leaves: a node stands under a parent where it stood under one, and ends that stay out of new trees still do
pub record Stays (old new : World) : Type 0 where
  pub children : (m : ℕ) → IsSome (parent_of old.tree.forest m) → IsSome (parent_of new.tree.forest m)
  pub ends : (low : ℕ) → EndsStayOut low old → EndsStayOut low new

-- a copy of a node goes into a fragment, and a further fragment is made
abbrev pub opened : ℕ → ℕ → model.World → model.World
opened into n w = new_fragment (node_document w n) (append w.made into (clone_node false n w))

-- the number of the further fragment
abbrev pub inner_of : ℕ → ℕ → model.World → ℕ
inner_of into n w = (append w.made into (clone_node false n w)).made

-- the same, and the children ahead of one go into the further fragment
abbrev pub path_entered : Bool → ℕ → ℕ → ℕ → model.World → model.World
path_entered moves into n next w = children_into moves (inner_of into n w) (up_to next (children_of w.forest n)) (opened into n w)

-- the children that are left go into the further fragment, and that goes into the copy
abbrev pub closed_one : Bool → Partial → model.World → model.World
closed_one moves p w = append p.inner p.copy (children_into moves p.inner p.children.items w)

-- several, the last one first
abbrev pub closed_all : Bool → List Partial → model.World → model.World
closed_all moves [] w = w
closed_all moves (p ∷ ps) w = closed_one moves p (closed_all moves ps w)

-- the numbers of copies that are not finished, and of the further fragments
abbrev pub numbers_of_copies : List Partial → List ℕ
numbers_of_copies [] = []
numbers_of_copies (p ∷ ps) = p.copy ∷ p.inner ∷ numbers_of_copies ps

-- a copy was begun for a fragment: what was left as it was, and is older than that, is older than the copy and its further fragment
abbrev pub IsBegunFor : ℕ → World → Partial → Type 0
IsBegunFor into v p = (a : World) → IsWhole a → AreNewer a (into ∷ []) → LeavesAll a v → AreNewer a (p.copy ∷ p.inner ∷ [])
