-- The origins of the transient registrations on a node, as the code notes them.
use Rattle.std.specs.Prelude.{◌≡◌, ℕ, ◌==◌, Bool, ◌&&◌, ◌||◌, List, Option, None, Some, ⊤}
use Rattle.std.specs.List.{list_any}
use Rattle.indexmap.specs.IndexSet.{IndexSet, contains}
use Rattle.dom_model.specs.Worlds.World as model
use Rattle.dom_observe.specs.declared.origins.Origin.{Origin}
use Rattle.dom_observe.specs.Registrations.{from_at}

-- both are of one observer and one node
abbrev pub same_origin : Origin → Origin → Bool
same_origin a b = (a.observer == b.observer) && (a.node == b.node)

module _ {S : Type 0} where
  abbrev pub is_noted : IndexSet Origin S → Origin → Bool
  is_noted noted origin = contains same_origin noted origin

  -- an origin is noted where a transient registration from it stands under one of the keys, and no other is
  abbrev pub Notes : (ℕ → Option model.Registration) → List ℕ → IndexSet Origin S → Type 0
  Notes under own noted = (origin : Origin) → is_noted noted origin ≡ list_any (from_at under origin.observer origin.node) own

  -- where they are noted
  abbrev pub NotesIfAny : (ℕ → Option model.Registration) → List ℕ → Option (IndexSet Origin S) → Type 0
  NotesIfAny under own None = ⊤
  NotesIfAny under own (Some noted) = Notes under own noted

  -- one more is noted, where they are
  abbrev pub AlsoNotes : ℕ → ℕ → Option (IndexSet Origin S) → Option (IndexSet Origin S) → Type 0
  AlsoNotes o n None noted' = noted' ≡ None
  AlsoNotes o n (Some noted) None = ⊥
  AlsoNotes o n (Some noted) (Some noted') = (origin : Origin) →
      is_noted noted' origin ≡ (is_noted noted origin || same_origin (record { observer = o; node = n }) origin)
