-- The keys ahead of the place are those of what comes from lower nodes.
use Rattle.std.proofs.Common.{ltb, rules}
use Rattle.std.proofs.lemmas.List.Sorted.{IsPartitionPoint-from_clause, IsPartitionedBy-ltb}
use Rattle.dom_observe.specs.Registrations.{at, origin_at}
use Rattle.dom_observe.proofs.OrderedLemmas.{non_decreasing, first_from}
use Rattle.dom_observe.proofs.registrations.Registrations.place_from.Goals as goal

pub returns-clause-place : goal.returns-clause-place
returns-clause-place c = λ ordered.
    let u = at c.args.self.now in
    let keys = c.args.keys.now in
    let node = c.args.node in
    let parted = IsPartitionedBy-ltb (origin_at u) keys node (non_decreasing u keys ordered) in
    let point = IsPartitionPoint-from_clause (λ k. ltb (origin_at u k) node) keys c.partition_point.result c.partition_point.ensures.partitioned parted (λ a r q k. search rules) in
    first_from u node keys c.partition_point.result c.partition_point.ensures.bound point
