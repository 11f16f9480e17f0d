use Rattle.std.proofs.Common.{ap}
use Rattle.dom_edit.specs.declared.world.World.{World}
use Rattle.dom_clone.proofs.LeavesAllLemmas.{left-same, left-covered, left-made, either-way}
use Rattle.dom_clone.proofs.clones.copy_node.Goals as goal

pub returns-in_err-label-clause-left : goal.returns-in_err-label-clause-left
returns-in_err-label-clause-left c = left-same c.args.world.now

pub returns-in_err-content-clause-left : goal.returns-in_err-content-clause-left
returns-in_err-content-clause-left c = left-same c.args.world.now

pub returns-clause-left : goal.returns-clause-left
returns-clause-left c =
    either-way c.make.result c.make.ensures.made c.make.ensures.kept
    (left-made c.args.world.now c.make.new.self _ _ _ (ap (λ (w : World). w.observers) c.make.ensures.parts))
    (left-covered c.args.world.now c.make.new.self)
