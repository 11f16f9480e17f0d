use Rattle.dom_links.specs.LinkSteps.{with_links}
use Rattle.dom_links.proofs.{CellsLemmas.same_ptr_refl, CellsLemmas.put_length, PoolStepLemmas.look-step}
use Rattle.dom_links.proofs.steps.write_links.Goals as goal

pub returns-clause-nodes : goal.returns-clause-nodes
returns-clause-nodes g c =
    look-step (with_links c.args.ptr c.args.parent c.args.prev c.args.next) c.args.ptr c.get_mut-node.result.now _ c.args.pool.now.cells c.get_mut-node.ensures.value (rw (same_ptr_refl c.args.ptr)) (λ q m e. rw e)

pub returns-clause-many : goal.returns-clause-many
returns-clause-many g c = put_length _ _ _
