-- The keys behind the place are those of what comes from higher nodes.
use Rattle.std.proofs.Common.{leb, rules}
use Rattle.std.proofs.lemmas.List.Sorted.{IsPartitionPoint-from_clause, IsPartitionedBy-leb}
use Rattle.dom_observe.specs.Registrations.{at, origin_at}
use Rattle.dom_observe.proofs.OrderedLemmas.{non_decreasing, past_last}
use Rattle.dom_observe.proofs.registrations.Registrations.place_past.Goals as goal

pub returns-clause-place : goal.returns-clause-place
returns-clause-place c = λ ordered.
    let u = at c.args.self.now in
    let keys = c.args.keys.now in
    let node = c.args.node in
    let parted = IsPartitionedBy-leb (origin_at u) keys node (non_decreasing u keys ordered) in
    let point = IsPartitionPoint-from_clause (λ k. leb (origin_at u k) node) keys c.partition_point.result c.partition_point.ensures.partitioned parted (λ a r q k. search rules) in
    past_last u node keys c.partition_point.result c.partition_point.ensures.bound point
