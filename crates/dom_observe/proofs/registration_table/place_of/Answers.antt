-- The keys ahead of the place are those with lower turns.
use Rattle.std.proofs.Common.{ltb, rules}
use Rattle.std.proofs.lemmas.List.Sorted.{IsPartitionPoint-from_clause, IsPartitionedBy-ltb}
use Rattle.dom_observe.specs.Turns.{turn_at}
use Rattle.dom_observe.proofs.TurnLemmas.{non_decreasing, place-removes}
use Rattle.dom_observe.proofs.registration_table.place_of.Goals as goal

pub returns-clause-inside : goal.returns-clause-inside
returns-clause-inside c =
    let turn = turn_at c.args.table.now in
    let keys = c.args.keys.now in
    let key = c.args.key in
    let parted = IsPartitionedBy-ltb turn keys (turn key) (non_decreasing turn keys c.requires.rising) in
    let point = IsPartitionPoint-from_clause (λ k. ltb (turn k) (turn key)) keys c.partition_point.result c.partition_point.ensures.partitioned parted (λ a r q k. search rules) in
    (place-removes turn key keys c.partition_point.result c.requires.rising c.requires.there c.partition_point.ensures.bound point).0

pub returns-clause-place : goal.returns-clause-place
returns-clause-place c =
    let turn = turn_at c.args.table.now in
    let keys = c.args.keys.now in
    let key = c.args.key in
    let parted = IsPartitionedBy-ltb turn keys (turn key) (non_decreasing turn keys c.requires.rising) in
    let point = IsPartitionPoint-from_clause (λ k. ltb (turn k) (turn key)) keys c.partition_point.result c.partition_point.ensures.partitioned parted (λ a r q k. search rules) in
    (place-removes turn key keys c.partition_point.result c.requires.rising c.requires.there c.partition_point.ensures.bound point).1
