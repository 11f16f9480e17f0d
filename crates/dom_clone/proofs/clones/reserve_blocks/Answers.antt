use Rattle.std.proofs.Common.{ap}
use Rattle.dom_model.specs.Definitions.{Grove, Content}
use Rattle.dom_clone.proofs.clones.reserve_blocks.Goals as goal

pub returns : goal.returns
returns c = ap (λ (t : Grove Content). record c.args.world.now { tree = t }) c.reserve_blocks.ensures
