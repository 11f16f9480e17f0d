use Rattle.edit_cases.proofs.WholeWorlds.{whole-watched}
use Rattle.edit_cases.proofs.small_world.watch.Goals as goal

pub returns-in-Ok : goal.returns-in-Ok
returns-in-Ok g c = whole-watched c.args.world.now c.requires c.held-node.result c.observe.new.self (cc) c.observe.ensures.names
