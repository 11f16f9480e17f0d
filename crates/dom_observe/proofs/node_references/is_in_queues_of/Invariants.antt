-- What is inside waits for an observer that is left.
use Rattle.std.proofs.Common.{◌≡◌, ℕ, drop, flat_map}
use Rattle.std.specs.List.{list_any}
use Rattle.dom_model.specs.Definitions.{among, inclusive_descendants, nodes_of_record}
use Rattle.dom_observe.specs.{Roster.queues_by, Watchers.records_at}
use Rattle.dom_observe.proofs.node_references.is_in_queues_of.Given as goal

abbrev pub invariant-loop-observer : goal.invariant-loop-observer
invariant-loop-observer g l =
    list_any (λ (o : ℕ). list_any (λ m. among m (inclusive_descendants l.tree.forest l.top)) (flat_map nodes_of_record (records_at (queues_by l.roster) o))) (drop l.observer-index l.observer-items)
    ≡ list_any (λ (o : ℕ). list_any (λ m. among m (inclusive_descendants l.tree.forest l.top)) (flat_map nodes_of_record (records_at (queues_by l.roster) o))) l.observers.keys
