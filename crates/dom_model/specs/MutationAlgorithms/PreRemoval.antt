-- What an iterator does before a node is removed. DOM Standard, "Interface NodeIterator", pre-removing steps.
use Rattle.std.specs.Prelude.{ℕ, ◌==◌, false, not, ◌&&◌, if◌then◌else◌, List, map, filter, Option, Some, None, option_map, unwrap_or}
use Rattle.dom_model.specs.PlainLists.Lists.{among, head_of, before, past}
use Rattle.dom_model.specs.Forests.Forest.{Forest, inclusive_descendants}
use Rattle.dom_model.specs.Worlds.World.{Iterator}

-- the nodes of a flattening that follow n and are not in it
abbrev pub following_outside : ℕ → List ℕ → List ℕ → List ℕ
following_outside n inside all = filter (λ m. not (among m inside)) (past n all)

-- The reference becomes the node after the one that goes, where there is one.
abbrev pub moved_on : Option ℕ → Option ℕ → Iterator → Iterator
moved_on (Some following) preceding i = record i { reference = following }
moved_on None preceding i = record i { reference = unwrap_or preceding i.reference; before = false }

-- The reference becomes the node before the one that goes: the last inclusive descendant of its previous sibling, or its parent.
abbrev pub moved_back : Option ℕ → Iterator → Iterator
moved_back preceding i = record i { reference = unwrap_or preceding i.reference }

-- n goes, where it is a proper descendant of the root and an inclusive ancestor of the reference
abbrev pub stepped_off : ℕ → List ℕ → List ℕ → Iterator → Iterator
stepped_off n inside all i =
    if i.before then moved_on (head_of (following_outside n inside all)) (before n all) i else moved_back (before n all) i

abbrev pub pre_removed_among : ℕ → List ℕ → List ℕ → Iterator → Iterator
pre_removed_among n inside all i =
    if among i.reference inside && (not (n == i.root) && among n all) then stepped_off n inside all i else i

module _ {X : Type 0} where
  -- the pre-removing steps of one iterator, on the flattening of its root
  abbrev pub pre_removed : Forest X → ℕ → Iterator → Iterator
  pre_removed f n i = pre_removed_among n (inclusive_descendants f n) (inclusive_descendants f i.root) i

  -- and of every iterator that was not released
  abbrev pub pre_removed_all : Forest X → ℕ → List (Option Iterator) → List (Option Iterator)
  pre_removed_all f n is = map (λ (i : Option Iterator). option_map (pre_removed f n) i) is
