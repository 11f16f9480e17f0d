-- How many elements and how many doctypes stand among the children of a Document, where that is kept.
use Rattle.std.specs.Prelude.{◌≡◌, ℕ, ◌+◌, ◌-◌, ◌^◌, ◌==◌, ◌⊎◌, nat_eq, min, Bool, true, if◌then◌else◌, List, filter, length, Option, Some, None, option_map}
use Rattle.std.specs.Option.{ForSome}
use Rattle.std.specs.Map.{lookup}
use Rattle.dom_model.specs.declared.Kind.{Kind}
use Rattle.dom_model.specs.declared.Kind.TheVariants.{Element, Document, DocumentType}
use Rattle.dom_model.specs.Forests.Arena.{Entry, children_in}
use Rattle.dom_model.specs.Forests.Forest.{Node}
use Rattle.dom_model.specs.Forests.Kinds.{is_kind}
use Rattle.dom_model.specs.Forests.Nodes.{entry_has}
use Rattle.dom_tree.specs.declared.tallies.Tally.{Tally}

-- the counts of a parent; none where none are kept
abbrev pub tally_in : List (ℕ × Tally) → ℕ → Option Tally
tally_in table slot = lookup (nat_eq slot) table

-- the same for each parent but one
abbrev pub tally_but : ℕ → Option Tally → List (ℕ × Tally) → ℕ → Option Tally
tally_but slot tally table p = if p == slot then tally else tally_in table p

-- no element and no doctype
abbrev pub bare : Tally
bare = record { elements = 0; doctypes = 0 }

-- 1 where something holds, else 0
abbrev pub one : Bool → ℕ
one holds = if holds then 1 else 0

-- one child more, of which a test tells the kind
abbrev pub raised : (Kind → Bool) → Tally → Tally
raised test t = record { elements = min (t.elements + one (test Element)) (2 ^ 32 - 1); doctypes = min (t.doctypes + one (test DocumentType)) (2 ^ 32 - 1) }

-- one child less
abbrev pub lowered : (Kind → Bool) → Tally → Tally
lowered test t = record { elements = t.elements - one (test Element); doctypes = t.doctypes - one (test DocumentType) }

-- each parent has the counts that it had, but for a Document without children that may have come in
abbrev pub AreStarted : ℕ → Kind → List (ℕ × Tally) → List (ℕ × Tally) → Type 0
AreStarted slot kind old new =
    (p : ℕ) → (tally_in new p ≡ tally_in old p) ⊎ ((p ≡ slot) × ((is_kind Document kind ≡ true) × (tally_in new p ≡ Some bare)))

module _ {X : Type 0} where
  -- the node of a slot is of a kind
  abbrev pub has_in : (ℕ → Option (Entry (Node X))) → ℕ → Kind → Bool
  has_in at slot kind = entry_has (is_kind kind) (at slot)

  -- how many of the slots hold a node of a kind
  abbrev pub kind_tally : Kind → (ℕ → Option (Entry (Node X))) → List ℕ → ℕ
  kind_tally kind at slots = length (filter (λ slot. has_in at slot kind) slots)

  -- what is kept of a parent is right, and it is a Document
  pub record IsTally (at : ℕ → Option (Entry (Node X))) (p : ℕ) (t : Tally) : Type 0 where
    pub document : has_in at p Document ≡ true
    pub elements : t.elements ≡ kind_tally Element at (children_in (at p))
    pub doctypes : t.doctypes ≡ kind_tally DocumentType at (children_in (at p))

  -- and so is what is kept of each
  abbrev pub AreTallied : (ℕ → Option (Entry (Node X))) → List (ℕ × Tally) → Type 0
  AreTallied at table = (p : ℕ) → ForSome (tally_in table p) (IsTally at p)

  -- the counts once a child comes in under a parent
  abbrev pub tally_put : (ℕ → Option (Entry (Node X))) → List (ℕ × Tally) → ℕ → ℕ → ℕ → Option Tally
  tally_put at table parent child p = tally_but parent (option_map (raised (has_in at child)) (tally_in table parent)) table p

  -- the counts once a child is about to leave its parent
  abbrev pub tally_cut : (ℕ → Option (Entry (Node X))) → List (ℕ × Tally) → ℕ → Option ℕ → ℕ → Option Tally
  tally_cut at table child None p = tally_in table p
  tally_cut at table child (Some parent) p = tally_but parent (option_map (lowered (has_in at child)) (tally_in table parent)) table p
