-- What is erased may be what refuses a discard, so the laws of erasing leave `discard` out: a registration, and a range. Ours.
use Rattle.std.proofs.Common.{◌≡◌, refl, codes, ◌==◌, List, [], ◌∷◌, Some, true}
use Rattle.dom_model.specs.Definitions.{first_world, Command, CreateElement, CreateObserver, Observe, CreateRange, SetStart, Discard, no_options, Nothing, Number, Done, Own, Bounds, replies_to, without_observers, replies_without_observers, without_watchers, replies_without_watchers}
use Rattle.dom_model.specs.declared.OwnError.TheVariants.{InUse}

abbrev bounds : Bounds
bounds = record { numbers = 4294967295; line = 1048576 }

abbrev pub observed_commands : List Command
observed_commands =
    CreateElement 0 (codes "p")
    ∷ CreateObserver
    ∷ Observe 0 1 (record no_options { child_list = Some true })
    ∷ Discard 1
    ∷ []

pub refused_by_registration : replies_without_observers (λ o. o == 0) observed_commands (replies_to bounds first_world observed_commands) ≡ Done (Number 1) ∷ Done (Number 0) ∷ Own InUse ∷ []
refused_by_registration = refl

pub done_without_observer : replies_to bounds first_world (without_observers (λ o. o == 0) observed_commands) ≡ Done (Number 1) ∷ Done (Number 0) ∷ Done Nothing ∷ []
done_without_observer = refl

abbrev pub watched_commands : List Command
watched_commands = CreateElement 0 (codes "p") ∷ CreateRange 0 ∷ SetStart 0 1 0 ∷ Discard 1 ∷ []

pub refused_by_range : replies_without_watchers watched_commands (replies_to bounds first_world watched_commands) ≡ Done (Number 1) ∷ Own InUse ∷ []
refused_by_range = refl

pub done_without_range : replies_to bounds first_world (without_watchers watched_commands) ≡ Done (Number 1) ∷ Done Nothing ∷ []
done_without_range = refl
