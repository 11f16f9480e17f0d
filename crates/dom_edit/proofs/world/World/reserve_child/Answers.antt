use Rattle.std.proofs.Common.{ap}
use Rattle.dom_model.specs.Definitions.{Grove, Content}
use Rattle.dom_edit.proofs.world.World.reserve_child.Goals as goal

pub returns : goal.returns
returns c = ap (λ (t : Grove Content). record c.args.self.now { tree = t }) c.reserve_blocks.ensures
