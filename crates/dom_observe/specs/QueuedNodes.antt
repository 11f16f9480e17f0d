-- The nodes that observers name: those of their registrations, and those of the records that wait.
use Rattle.std.specs.Prelude.{◌≡◌, ℕ, ◌≤◌, ◌+◌, Bool, false, List, length, take, drop, Option, None, Some, IfSome, flat_map, nat_eq}
use Rattle.std.specs.Option.{option_map_or}
use Rattle.std.specs.List.{list_any, AllByRecursion}
use Rattle.indexmap.specs.IndexSet.{IndexSet, contains, spare}
use Rattle.dom_model.specs.PlainLists.Lists.{among}
use Rattle.dom_model.specs.Worlds.World.{Registration}
use Rattle.dom_model.specs.MutationObservers.Record.{Record}
use Rattle.dom_model.specs.MutationAlgorithms.Discarding.{nodes_of_registration, nodes_of_record}
use Rattle.dom_observe.specs.Watchers.{on, records_at}

-- what stands under a key names a node that passes
abbrev pub names_one : (ℕ → Bool) → Option Registration → Bool
names_one p o = option_map_or (λ (r : Registration). list_any p (nodes_of_registration r)) o false

-- under the keys that nodes have, no registration names a node that passes
abbrev pub NamesNone : (ℕ → Bool) → (ℕ → Option Registration) → List (ℕ × List ℕ) → Type 0
NamesNone p under lists = (n : ℕ) → AllByRecursion (λ key. names_one p (under key) ≡ false) (on n lists)

-- nor does a record that waits
abbrev pub RecordsNameNone : (ℕ → Bool) → List (Option (List Record)) → Type 0
RecordsNameNone p queues = (o : ℕ) → list_any (λ r. list_any p (nodes_of_record r)) (records_at queues o) ≡ false

-- after a step the records that wait name no nodes but those that they named, and these
abbrev pub RecordsNameOnly : List ℕ → List (Option (List Record)) → List (Option (List Record)) → Type 0
RecordsNameOnly these old new = (p : ℕ → Bool) → list_any p these ≡ false → RecordsNameNone p old → RecordsNameNone p new

-- a set has the numbers of the nodes that records name, and no others
abbrev pub NamesNodes : {S : Type 0} → List Record → IndexSet ℕ S → Type 0
NamesNodes records named = (n : ℕ) → contains nat_eq named n ≡ among n (flat_map nodes_of_record records)

-- a set has the numbers of the nodes that the first records name, and so much room is enough for those of the others, where it is known
pub record IsCaughtUp {S : Type 0} (records : List Record) (named : IndexSet ℕ S) (caught_up : ℕ) (owed : Option ℕ) : Type 0 where
  pub within : caught_up ≤ length records
  pub first : NamesNodes (take caught_up records) named
  pub others : IfSome owed (λ room. length (flat_map nodes_of_record (drop caught_up records)) ≤ room)

-- the room is what is owed, which is known, and some more
abbrev pub IsRoomWith : Option ℕ → ℕ → ℕ → Type 0
IsRoomWith None more room = ⊥
IsRoomWith (Some owed) more room = room ≡ owed + more

-- it is known how much room is owed, and a set has it
abbrev pub HasRoomFor : {S : Type 0} → Option ℕ → IndexSet ℕ S → Type 0
HasRoomFor None named = ⊥
HasRoomFor (Some room) named = room ≤ spare named
