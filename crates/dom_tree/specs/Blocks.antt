-- The children of a parent in blocks: how many stand in each, in their order.
use Rattle.std.specs.Prelude.{◌≡◌, ℕ, zero, suc, ◌+◌, ◌-◌, ◌*◌, ◌/◌, ◌<◌, ◌≤◌, ◌==◌, nat_lt, min, if◌then◌else◌, List, [], ◌∷◌, length, slice_get, slice_set, Option, Some, None}
use Rattle.dom_model.specs.PlainLists.Lists.{hits, place_in, last_of}
use Rattle.dom_model.specs.Forests.Arena.{Arena, Entry, entry_at, children_in, previous_in}
use Rattle.dom_tree.specs.Slots.{Kept, unknown, index_in, sure_in, reach_in, owned_in, nodes_alone, indexed, assured, IsCounted}

-- how many children a block has that is made
abbrev pub block_size : ℕ
block_size = 16

-- how many stand in the blocks ahead of one
abbrev pub count_ahead : List ℕ → ℕ → ℕ
count_ahead [] block = 0
count_ahead (count ∷ counts) zero = 0
count_ahead (count ∷ counts) (suc block) = count + count_ahead counts block

abbrev pub raised_from : Option ℕ → List ℕ → ℕ → List ℕ
raised_from None counts block = []
raised_from (Some count) counts block = if nat_lt count unknown then slice_set counts block (count + 1) else []

-- one more in a block; no blocks where there is no such one, or its count is full
abbrev pub raised : List ℕ → ℕ → List ℕ
raised counts block = raised_from (slice_get counts block) counts block

abbrev pub lowered_from : Option ℕ → List ℕ → ℕ → List ℕ
lowered_from None counts block = []
lowered_from (Some count) counts block = if nat_lt 0 count then slice_set counts block (count - 1) else []

-- one less in a block; no blocks where there is no such one, or nothing stands in it
abbrev pub lowered : List ℕ → ℕ → List ℕ
lowered counts block = lowered_from (slice_get counts block) counts block

-- the blocks of a parent; none where it has no blocks
abbrev pub counts_in : List (ℕ × List ℕ) → ℕ → List ℕ
counts_in [] slot = []
counts_in (e ∷ es) slot = if slot == e.0 then e.1 else counts_in es slot

-- the same for each parent but one
abbrev pub counts_but : ℕ → List ℕ → List (ℕ × List ℕ) → ℕ → List ℕ
counts_but slot counts table p = if p == slot then counts else counts_in table p

-- the block of the child at a place, where each but the last is whole
abbrev pub block_at : ℕ → ℕ
block_at place = place / block_size

-- so many children in blocks of which each but the last is whole
pub record AreFilled (counts : List ℕ) (count : ℕ) : Type 0 where
  pub ahead : (block : ℕ) → block ≤ length counts → count_ahead counts block ≡ min (block_size * block) count
  pub enough : count ≤ block_size * length counts

-- how many blocks a run has
abbrev pub run_size : ℕ
run_size = 256

-- how many stand in each run of blocks, as far as it is kept
abbrev pub AreRuns : List ℕ → List ℕ → Type 0
AreRuns runs counts = (run : ℕ) → run ≤ length runs → count_ahead runs run ≡ count_ahead counts (run_size * run)

-- the runs of so many children in blocks of which each but the last is whole, as far as they are kept
abbrev pub AreRunsOf : List ℕ → ℕ → Type 0
AreRunsOf runs count = (run : ℕ) → run ≤ length runs → count_ahead runs run ≡ min (block_size * (run_size * run)) count

-- the counts that are kept; none where there are none
abbrev pub counts_or_none : Option (List ℕ) → List ℕ
counts_or_none None = []
counts_or_none (Some counts) = counts

-- each child stands in the block that its index names
pub record FitsBlocks (counts : List ℕ) (index : ℕ → ℕ) (list : List ℕ) : Type 0 where
  pub since : (x : ℕ) → 0 < hits x list → count_ahead counts (index x) ≤ place_in x list
  pub until : (x : ℕ) → 0 < hits x list → place_in x list < count_ahead counts (index x + 1)

module _ {X : Type 0} where
  abbrev pub if_in_block : (ℕ → Option (Entry (Kept X))) → Option ℕ → ℕ → Option ℕ
  if_in_block at None block = None
  if_in_block at (Some s) block = if index_in (at s) == block then Some s else None

  -- the children of one that has blocks stand in them, and its reach tells that
  pub record StandsInBlocks (at : ℕ → Option (Entry (Kept X))) (counts : List ℕ) (p : ℕ) : Type 0 where
    pub fits : FitsBlocks counts (λ x. index_in (at x)) (children_in (at p))
    pub reach : reach_in (at p) ≡ unknown

  -- and so do those of each parent that has blocks
  abbrev pub AreBlocked : (ℕ → Option (Entry (Kept X))) → List (ℕ × List ℕ) → Type 0
  AreBlocked at table = (p : ℕ) → 0 < length (counts_in table p) → StandsInBlocks at (counts_in table p) p

  -- the previous sibling, where it stands in this block
  abbrev pub previous_in_block : (ℕ → Option (Entry (Kept X))) → ℕ → ℕ → Option ℕ
  previous_in_block at child block = if_in_block at (previous_in at child) block

  abbrev pub block_of : (ℕ → Option (Entry (Kept X))) → Option ℕ → ℕ
  block_of at None = 0
  block_of at (Some s) = index_in (at s)

  -- the block that a new child comes into: that of the child that will be behind it, or of the last; the first where there is none
  abbrev pub block_beside : (ℕ → Option (Entry (Kept X))) → ℕ → Option ℕ → ℕ
  block_beside at parent None = block_of at (last_of (children_in (at parent)))
  block_beside at parent (Some b) = index_in (at b)

  -- and none where no child of the parent stands in a block
  abbrev pub block_put : (ℕ → Option (Entry (Kept X))) → ℕ → Option ℕ → Option ℕ
  block_put at parent before = if reach_in (at parent) == unknown then Some (block_beside at parent before) else None

  -- a parent's first children have no index of their own, and all may stand in blocks
  abbrev pub unsure : Arena (Kept X) → ℕ → Arena (Kept X)
  unsure a parent = assured a parent 0 unknown

  -- a child just put into a block of a parent
  abbrev pub blocked_put : Arena (Kept X) → ℕ → ℕ → ℕ → Arena (Kept X)
  blocked_put a parent child block = unsure (indexed a child block) parent

  -- the blocks once a child is about to leave its parent
  abbrev pub lowered_at : (ℕ → Option (Entry (Kept X))) → List (ℕ × List ℕ) → ℕ → Option ℕ → ℕ → List ℕ
  lowered_at at table child None p = counts_in table p
  lowered_at at table child (Some parent) p = counts_but parent (lowered (counts_in table parent) (index_in (at child))) table p

  -- the same nodes, with the children of one in blocks
  pub record IsInBlocks (old new : Arena (Kept X)) (parent : ℕ) : Type 0 where
    pub nodes : nodes_alone new ≡ nodes_alone old
    pub written : (x : ℕ) → 0 < hits x (children_in (entry_at old parent)) → index_in (entry_at new x) ≡ block_at (place_in x (children_in (entry_at old parent)))
    pub untouched : (x : ℕ) → hits x (children_in (entry_at old parent)) ≡ 0 → index_in (entry_at new x) ≡ index_in (entry_at old x)
    pub sure : sure_in (entry_at new parent) ≡ 0
    pub reach : reach_in (entry_at new parent) ≡ unknown
    pub sures : (slot : ℕ) → (slot ≡ parent → ⊥) → sure_in (entry_at new slot) ≡ sure_in (entry_at old slot)
    pub reaches : (slot : ℕ) → (slot ≡ parent → ⊥) → reach_in (entry_at new slot) ≡ reach_in (entry_at old slot)
    pub room : length new.slots ≡ length old.slots
    pub owned : (slot : ℕ) → owned_in (entry_at new slot) ≡ owned_in (entry_at old slot)

  -- the same nodes, with their indices kept in another way
  pub record IsRenumbered (old new : Arena (Kept X)) (table : List (ℕ × List ℕ)) : Type 0 where
    pub nodes : nodes_alone new ≡ nodes_alone old
    pub counted : IsCounted (entry_at new)
    pub blocked : AreBlocked (entry_at new) table
    pub room : length new.slots ≡ length old.slots
    pub owned : (slot : ℕ) → owned_in (entry_at new slot) ≡ owned_in (entry_at old slot)
