use Rattle.std.proofs.Common.{arith}
use Rattle.std.proofs.lemmas.Grind.{common_steps}
use Rattle.dom_model.specs.Definitions.{Range}
use Rattle.dom_wrap.proofs.{InsertedNode.insert-passes, InsertedNode.may-insert, StandByEditsLemmas.stand-by_insert_node}
use Rattle.dom_wrap.proofs.insert_into_range.insert_node.Goals as goal

pub insert_at_start-requires-clause-allowed : goal.insert_at_start-requires-clause-allowed
insert_at_start-requires-clause-allowed c =
    let range : Range = record { start = c.ends-start.result.0; end = c.ends-start.result.1 } in
    may-insert c.args.world.now c.requires.whole c.args.range c.args.node range c.ends-start.ensures.ends c.requires.node_held c.in_default.ensures.start c.in_default.ensures.insert

pub returns-clause-markers : goal.returns-clause-markers
returns-clause-markers c =
    stand-by_insert_node c.args.world.now c.insert_at_start.new.world c.requires.whole c.insert_at_start.ensures.whole c.args.range c.args.node c.requires.node_held
    c.in_ok-insert_at_start.ensures.allowed c.in_ok-insert_at_start.ensures.inserted

pub check-requires-clause-start_held : goal.check-requires-clause-start_held
check-requires-clause-start_held c = grind (arith, common_steps)

pub insert_at_start-requires-clause-room : goal.insert_at_start-requires-clause-room
insert_at_start-requires-clause-room c =
    let range : Range = record { start = c.ends-start.result.0; end = c.ends-start.result.1 } in
    c.requires.room (insert-passes c.args.world.now c.requires.whole c.args.range c.args.node range c.ends-start.ensures.ends c.requires.node_held c.in_default.ensures.start c.in_default.ensures.insert)
