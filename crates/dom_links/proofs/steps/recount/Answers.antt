use Rattle.dom_links.specs.LinkSteps.{recounted}
use Rattle.dom_links.proofs.{CellsLemmas.same_ptr_refl, CellsLemmas.put_length, PoolStepLemmas.look-step}
use Rattle.dom_links.proofs.steps.recount.Goals as goal

pub returns-clause-nodes : goal.returns-clause-nodes
returns-clause-nodes g c =
    look-step (recounted c.args.ptr c.args.count) c.args.ptr c.get_mut.result.now _ c.args.pool.now.cells c.get_mut.ensures.value (rw (same_ptr_refl c.args.ptr)) (λ q m e. rw e)

pub returns-clause-many : goal.returns-clause-many
returns-clause-many g c = put_length _ _ _
