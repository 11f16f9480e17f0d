-- What stands in memory for an arena: a table from slots to places, and a node at each place.
use Rattle.std.specs.Prelude.{◌≡◌, ℕ, zero, suc, ◌^◌, ◌<◌, ◌≤◌, List, [], ◌∷◌, length, map, reverse, count_by, slice_index_or, Option, Some, None, IsSome, is_some, option_map}
use denote.RawPtr.{Ptr}
use Rattle.dom_model.specs.PlainLists.Lists.{head_of, last_of}
use Rattle.dom_model.specs.Forests.Arena.{Entry, Arena, entry_at, next_in, previous_in, IsSound}
use Rattle.dom_links.specs.Cells.{look}
use Rattle.dom_links.specs.declared.node.Node.{Node}

-- where the node of a slot lies
abbrev pub pointer_in : List (Option Ptr) → ℕ → Option Ptr
pointer_in ps n = slice_index_or ps n None

-- the link to an optional slot
abbrev pub link_in : List (Option Ptr) → Option ℕ → Option Ptr
link_in ps None = None
link_in ps (Some n) = pointer_in ps n

module _ {T : Type 0} where
  -- the node that a link leads to
  abbrev pub node_behind : List (Ptr × Node T) → Option Ptr → Option (Node T)
  node_behind cs None = None
  node_behind cs (Some p) = look p cs

  -- the node of a slot
  abbrev pub node_in : List (Option Ptr) → List (Ptr × Node T) → ℕ → Option (Node T)
  node_in ps cs n = node_behind cs (pointer_in ps n)

  -- the slot of the node that a link leads to
  abbrev pub slot_behind : List (Ptr × Node T) → Option Ptr → Option ℕ
  slot_behind cs link = option_map (λ (n : Node T). n.slot) (node_behind cs link)

  abbrev pub slots_from : Option (Node T) → (Option Ptr → List ℕ) → List ℕ
  slots_from None rest = []
  slots_from (Some n) rest = n.slot ∷ rest n.next

  -- the slots of the nodes along `next`, at most so many
  abbrev pub slots_along : List (Ptr × Node T) → ℕ → Option Ptr → List ℕ
  slots_along cs zero link = []
  slots_along cs (suc k) link = slots_from (node_behind cs link) (λ (rest : Option Ptr). slots_along cs k rest)

  abbrev pub entry_from : List (Ptr × Node T) → Node T → Entry T
  entry_from cs n = record { value = n.value; parent = slot_behind cs n.parent; children = slots_along cs n.count n.first }

  -- the arena that the memory spells
  unfoldable pub arena_of : List (Option Ptr) → List (Ptr × Node T) → List ℕ → Arena T
  arena_of ps cs free = record { slots = map (λ (p : Option Ptr). option_map (entry_from cs) (node_behind cs p)) ps; free = reverse free }

  -- the node that stands for the entry of a slot
  abbrev pub wired : List (Option Ptr) → (ℕ → Option (Entry T)) → ℕ → Entry T → Node T
  wired ps at n e = record {
    slot = n;
    count = length e.children;
    parent = link_in ps e.parent;
    prev = link_in ps (previous_in at n);
    next = link_in ps (next_in at n);
    first = link_in ps (head_of e.children);
    last = link_in ps (last_of e.children);
    value = e.value;
  }

  -- the memory stands for the arena
  pub record Stands (ps : List (Option Ptr)) (cs : List (Ptr × Node T)) (a : Arena T) : Type 0 where
    pub long : length a.slots ≡ length ps
    pub held : (n : ℕ) → is_some (pointer_in ps n) ≡ is_some (entry_at a n)
    pub nodes : (n : ℕ) → node_in ps cs n ≡ option_map (wired ps (entry_at a) n) (entry_at a n)
    pub sound : IsSound a
    pub many : length cs ≤ count_by is_some ps

  -- what a store keeps: its memory stands for the arena that it spells, each slot may be free at once, and a `u32` counts the slots
  pub record Keeps (ps : List (Option Ptr)) (cs : List (Ptr × Node T)) (free : List ℕ) (spare : ℕ) : Type 0 where
    pub stands : Stands ps cs (arena_of ps cs free)
    pub room : length ps ≤ spare
    pub few : length ps < 2 ^ 32

  -- each place of the table has a node of its own, and there are no other nodes
  pub record Left (ps : List (Option Ptr)) (cs : List (Ptr × Node T)) : Type 0 where
    pub found : (n : ℕ) (p : Ptr) → pointer_in ps n ≡ Some p → IsSome (look p cs)
    pub apart : (n m : ℕ) (p : Ptr) → pointer_in ps n ≡ Some p → pointer_in ps m ≡ Some p → n ≡ m
    pub many : length cs ≤ count_by is_some ps
