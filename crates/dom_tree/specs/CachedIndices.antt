-- The kept indices over a put and a cut, and where they are written.
use Rattle.std.specs.Prelude.{◌≡◌, ℕ, ◌+◌, ◌-◌, ◌<◌, ◌≤◌, nat_lt, nat_le, ◌&&◌, min, Bool, if◌then◌else◌, length, Option, Some, None, is_none}
use Rattle.dom_model.specs.PlainLists.Lists.{hits, place_in}
use Rattle.dom_model.specs.Forests.Arena.{Arena, Entry, entry_at, parent_in, children_in}
use Rattle.dom_tree.specs.Slots.{Kept, unknown, index_in, sure_in, reach_in, owned_in, nodes_alone, indexed, assured, IsCounted}

-- an index that is written: the place, or that none is known
abbrev pub cached_index : Bool → ℕ → ℕ
cached_index known place = if known then place else unknown

module _ {X : Type 0} where
  -- the place of the last child
  abbrev pub last_place : (ℕ → Option (Entry (Kept X))) → ℕ → ℕ
  last_place at parent = length (children_in (at parent)) - 1

  -- whether the last child is behind all that have an index
  abbrev pub is_beyond : (ℕ → Option (Entry (Kept X))) → ℕ → Bool
  is_beyond at parent = nat_lt (sure_in (at parent)) (last_place at parent) && nat_lt (reach_in (at parent)) (last_place at parent)

  -- the index of a new child: that of the one behind it, or the last, which is unknown where those ahead of it are
  abbrev pub index_put : (ℕ → Option (Entry (Kept X))) → ℕ → Option ℕ → ℕ
  index_put at parent None = if is_beyond at parent then unknown else last_place at parent
  index_put at parent (Some b) = index_in (at b)

  -- how many of the parent's children then have a right index
  abbrev pub sure_put : (ℕ → Option (Entry (Kept X))) → ℕ → Option ℕ → ℕ → ℕ
  sure_put at parent before index =
      if is_none before && nat_le (last_place at parent) (sure_in (at parent)) then length (children_in (at parent)) else min index (sure_in (at parent))

  -- and how many of them may have any
  abbrev pub reach_put : (ℕ → Option (Entry (Kept X))) → ℕ → Option ℕ → ℕ
  reach_put at parent None = if is_beyond at parent then reach_in (at parent) else length (children_in (at parent))
  reach_put at parent (Some b) = min (reach_in (at parent)) (last_place at parent) + 1

  -- a child just put among the parent's
  abbrev pub numbered_put : Arena (Kept X) → ℕ → ℕ → Option ℕ → Arena (Kept X)
  numbered_put a parent child before =
      let index = index_put (entry_at a) parent before in
      assured (indexed a child index) parent (sure_put (entry_at a) parent before index) (reach_put (entry_at a) parent before)

  abbrev pub numbered_cut_from : Option ℕ → Arena (Kept X) → ℕ → Arena (Kept X)
  numbered_cut_from None a child = a
  numbered_cut_from (Some p) a child = assured a p (min (index_in (entry_at a child)) (sure_in (entry_at a p))) (reach_in (entry_at a p))

  -- a child about to be cut: of those behind it no index is right
  abbrev pub numbered_cut : Arena (Kept X) → ℕ → Arena (Kept X)
  numbered_cut a child = numbered_cut_from (parent_in (entry_at a child)) a child

  -- the same nodes, of which those among the parent's children that stand from one place on and ahead of another have another index
  pub record IsWritten (old new : Arena (Kept X)) (parent from until : ℕ) (tell : ℕ → ℕ) : Type 0 where
    pub nodes : nodes_alone new ≡ nodes_alone old
    pub written : (x : ℕ) → 0 < hits x (children_in (entry_at old parent)) → from ≤ place_in x (children_in (entry_at old parent)) →
        place_in x (children_in (entry_at old parent)) < until → index_in (entry_at new x) ≡ tell (place_in x (children_in (entry_at old parent)))
    pub untouched : (x : ℕ) → (0 < hits x (children_in (entry_at old parent)) → from ≤ place_in x (children_in (entry_at old parent)) →
        until ≤ place_in x (children_in (entry_at old parent))) → index_in (entry_at new x) ≡ index_in (entry_at old x)
    pub sures : (slot : ℕ) → sure_in (entry_at new slot) ≡ sure_in (entry_at old slot)
    pub reaches : (slot : ℕ) → reach_in (entry_at new slot) ≡ reach_in (entry_at old slot)
    pub room : length new.slots ≡ length old.slots
    pub owned : (slot : ℕ) → owned_in (entry_at new slot) ≡ owned_in (entry_at old slot)

  -- the same nodes, of which a child's index is right, and is known to be
  pub record IsNumbered (old new : Arena (Kept X)) (parent child : ℕ) : Type 0 where
    pub nodes : nodes_alone new ≡ nodes_alone old
    pub counted : IsCounted (entry_at new)
    pub elsewhere : (x : ℕ) → hits x (children_in (entry_at old parent)) ≡ 0 → index_in (entry_at new x) ≡ index_in (entry_at old x)
    pub far : (slot : ℕ) → (slot ≡ parent → ⊥) → reach_in (entry_at new slot) ≡ reach_in (entry_at old slot)
    pub known : place_in child (children_in (entry_at old parent)) < sure_in (entry_at new parent)
    pub room : length new.slots ≡ length old.slots
    pub owned : (slot : ℕ) → owned_in (entry_at new slot) ≡ owned_in (entry_at old slot)
