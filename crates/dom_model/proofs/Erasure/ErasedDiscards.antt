-- Observers do not feel one another, nor the tree what watches it, in lists with `discard` too, where each `discard` is answered alike in both.
use Rattle.std.proofs.Common.{◌≡◌, ℕ, Bool, true, false, List}
use Rattle.dom_model.specs.Definitions.{first_world, Command, Bounds, replies_to, is_by_observer, left_by_observers, without_observers, replies_without_observers, edits_by_range, only_watches, makes_no_edit_by_range, without_watchers, replies_without_watchers, replies_to_discards}
use Rattle.dom_model.proofs.Erasure.{ErasedWorlds.Without, ErasedWorlds.first-left, ErasedLists.alike_from, ErasedObservers.no_command, ErasedObservers.none_barred, ErasedObservers.observers-erased, ErasedWatchers.none, ErasedWatchers.Unwatched, ErasedWatchers.watchers-erased}

pub observers-alike : (erased : ℕ → Bool) (b : Bounds) (cs : List Command) → replies_to_discards (without_observers erased cs) (replies_to b first_world (without_observers erased cs)) ≡ replies_to_discards cs (replies_to b first_world cs) → replies_to b first_world (without_observers erased cs) ≡ replies_without_observers erased cs (replies_to b first_world cs)
observers-alike erased b cs a =
    alike_from b (is_by_observer erased) (left_by_observers erased) no_command (Without erased true) (observers-erased erased b) cs first_world first_world (none_barred cs) (first-left erased true) a

pub watchers-alike : (b : Bounds) (cs : List Command) → makes_no_edit_by_range cs ≡ true → replies_to_discards (without_watchers cs) (replies_to b first_world (without_watchers cs)) ≡ replies_to_discards cs (replies_to b first_world cs) → replies_to b first_world (without_watchers cs) ≡ replies_without_watchers cs (replies_to b first_world cs)
watchers-alike b cs r a = alike_from b only_watches (λ c r. r) edits_by_range Unwatched (watchers-erased b) cs first_world first_world r (first-left none false) a
