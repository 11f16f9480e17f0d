-- What observers keep at all times, in the words of what is seen of them.
use Rattle.std.specs.Prelude.{◌≡◌, ◌≢◌, ℕ, ◌&&◌, true, [], Some, IsSome, nat_eq}
use Rattle.std.specs.List.{AllByRecursion, IsDistinct, list_any}
use Rattle.std.specs.Map.{keys_of, lookup}
use Rattle.dom_model.specs.Worlds.World.{Registration}
use Rattle.dom_model.specs.MutationObservers.Records.{is_registered}
use Rattle.dom_observe.specs.WithoutRepeats.{same_options, same_registration}
use Rattle.dom_observe.specs.Watchers.{Watchers, queue_in, on}

-- of an observer that is there
abbrev pub IsThere : Watchers → Registration → Type 0
IsThere o r = IsSome (queue_in o r.observer)

-- where it is a transient one, its observer is registered on the source, with the same options
abbrev pub HasSource : Watchers → Registration → Type 0
HasSource o r = (m : ℕ) → r.source ≡ Some m → list_any (λ s. is_registered r.observer m s && same_options s.options r.options) (on m o.nodes) ≡ true

-- Each node is listed once, and with a registration; each registration stands on its node, of an observer that is there, and where it is a
-- transient one so does its source; no node has two that are equal in every field; each pending observer is there.
pub record AreSoundWatchers (o : Watchers) : Type 0 where
  pub listed : IsDistinct nat_eq (keys_of o.nodes)
  pub filled : (n : ℕ) → lookup (nat_eq n) o.nodes ≢ Some []
  pub here : (n : ℕ) → AllByRecursion (λ (r : Registration). r.node ≡ n) (on n o.nodes)
  pub observers : (n : ℕ) → AllByRecursion (IsThere o) (on n o.nodes)
  pub sources : (n : ℕ) → AllByRecursion (HasSource o) (on n o.nodes)
  pub apart : (n : ℕ) → IsDistinct same_registration (on n o.nodes)
  pub pending : AllByRecursion (λ i. IsSome (queue_in o i)) o.pending
