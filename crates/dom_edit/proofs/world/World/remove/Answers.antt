use Rattle.std.proofs.lemmas.Result.{on_ok_weaker}
use Rattle.dom_edit.proofs.StandByEditsLemmas.{stand-by_remove}
use Rattle.dom_edit.proofs.world.World.remove.Goals as goal

pub returns-clause-markers : goal.returns-clause-markers
returns-clause-markers c =
    on_ok_weaker c.remove_node.result
    (stand-by_remove c.args.self.now c.remove_node.new.self c.requires.whole c.remove_node.ensures.whole c.args.node) c.remove_node.ensures.removed
