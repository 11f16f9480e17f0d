use Rattle.std.proofs.Common.{sym, subst}
use Rattle.dom_edit.specs.OlderNodes.{LeavesAll}
use Rattle.dom_clone.proofs.LeavesAllLemmas.{after_error, left-same}
use Rattle.dom_clone.proofs.clones.copy_under.Goals as goal

pub returns-in_err-reserve_blocks-clause-failed : goal.returns-in_err-reserve_blocks-clause-failed
returns-in_err-reserve_blocks-clause-failed c =
    after_error c.from_residual.result (subst (LeavesAll c.args.world.now) (sym c.reserve_blocks.ensures) (left-same c.args.world.now))
