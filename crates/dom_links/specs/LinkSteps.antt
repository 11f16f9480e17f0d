-- What the steps of a change of links do to the node at a place.
use Rattle.std.specs.Prelude.{◌≡◌, ℕ, Bool, false, if◌then◌else◌, List, [], ◌∷◌, ◌++◌, length, ◌⊎◌, Option, Some, None}
use denote.RawPtr.{Ptr}
use Rattle.dom_links.specs.Cells.{same_ptr}
use Rattle.dom_links.specs.declared.node.Node.{Node}

-- whether the link leads to p
abbrev pub leads_to : Option Ptr → Ptr → Bool
leads_to None p = false
leads_to (Some q) p = same_ptr q p

-- where the link leads, or else the top
abbrev pub link_or : {A : Type 0} → Option A → A → A
link_or None top = top
link_or (Some p) top = p

-- the top, where there is no link
abbrev pub link_unless : {A : Type 0} → Option A → A → Option A
link_unless None top = Some top
link_unless (Some p) top = None

-- the table and the free slots give a slot away: the free one taken last, or else a new one
abbrev pub GivesSlot : {A : Type 0} → List (Option A) → List ℕ → List (Option A) → List ℕ → ℕ → Type 0
GivesSlot ps free ps' free' n =
    ((free ≡ free' ++ n ∷ []) × (ps' ≡ ps)) ⊎ ((free ≡ []) × (free' ≡ []) × (n ≡ length ps) × (ps' ≡ ps ++ None ∷ []))

module _ {T : Type 0} where
  -- a node that is linked to nothing
  abbrev pub alone_node : ℕ → T → Node T
  alone_node n v = record { slot = n; count = 0; parent = None; prev = None; next = None; first = None; last = None; value = v }

  -- the node before a new child, read at the child after it or at the top
  abbrev pub link_ahead : Option Ptr → Node T → Option Ptr
  link_ahead None n = n.last
  link_ahead (Some p) n = n.prev

  abbrev pub with_next : Ptr → Option Ptr → Option Ptr → Ptr → Node T → Node T
  with_next top prev next q n = record n {
    next = if leads_to prev q then next else n.next;
    first = if leads_to (link_unless prev top) q then next else n.first;
  }

  abbrev pub with_previous : Ptr → Option Ptr → Option Ptr → Ptr → Node T → Node T
  with_previous top next prev q n = record n {
    prev = if leads_to next q then prev else n.prev;
    last = if leads_to (link_unless next top) q then prev else n.last;
  }

  abbrev pub recounted : Ptr → ℕ → Ptr → Node T → Node T
  recounted p count q n = record n { count = if same_ptr p q then count else n.count }

  abbrev pub with_links : Ptr → Option Ptr → Option Ptr → Option Ptr → Ptr → Node T → Node T
  with_links p parent prev next q n = record n {
    parent = if same_ptr p q then parent else n.parent;
    prev = if same_ptr p q then prev else n.prev;
    next = if same_ptr p q then next else n.next;
  }
