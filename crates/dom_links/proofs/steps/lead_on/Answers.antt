use Rattle.std.proofs.Common.{Some, None, sym, ◌∙◌}
use Rattle.dom_links.specs.LinkSteps.{with_next}
use Rattle.dom_links.proofs.{CellsLemmas.same_ptr_refl, CellsLemmas.put_length, PoolStepLemmas.look-step}
use Rattle.dom_links.proofs.steps.lead_on.Goals as goal

pub returns-in-Some-clause-nodes : goal.returns-in-Some-clause-nodes
returns-in-Some-clause-nodes g c =
    rw (sym c.ptr.ensures ∙ c.in-Some.is) (look-step (with_next c.args.top (Some c.in-Some.ptr) c.args.next) c.in-Some.ptr c.get_mut.result.now _ c.args.pool.now.cells c.get_mut.ensures.value (rw (same_ptr_refl c.in-Some.ptr)) (λ q m e. rw e))

pub returns-in-Some-clause-many : goal.returns-in-Some-clause-many
returns-in-Some-clause-many g c = put_length _ _ _

pub returns-in-None-clause-nodes : goal.returns-in-None-clause-nodes
returns-in-None-clause-nodes g c =
    rw (sym c.ptr.ensures ∙ c.in-None.is) (look-step (with_next c.args.top None c.args.next) c.args.top c.get_mut-in-None.result.now _ c.args.pool.now.cells c.get_mut-in-None.ensures.value (rw (same_ptr_refl c.args.top)) (λ q m e. rw e))

pub returns-in-None-clause-many : goal.returns-in-None-clause-many
returns-in-None-clause-many g c = put_length _ _ _
