-- The parts of a record are named one after another.
use Rattle.std.proofs.Common.{◌||◌, nat_eq, ap, ◌∙◌}
use Rattle.indexmap.specs.IndexSet.{contains}
use Rattle.dom_model.specs.Definitions.{among, Record, if_any, nodes_of_record}
use Rattle.dom_observe.proofs.NamesNodesLemmas.{name-parts}
use Rattle.dom_observe.proofs.queue.name_nodes_of.Goals as goal

pub returns-clause-named : goal.returns-clause-named
returns-clause-named c = λ n.
    let r = c.told.inside in
    let before = contains nat_eq c.args.named.now n in
    let added = c.name_all.ensures.named n ∙ (λ i. c.name.ensures.named n i || among n (c.as_slice.ensures.value i)) in
    let removed = c.name_all-2.ensures.named n ∙ (λ i. added i || among n (c.as_slice-2.ensures.value i)) in
    c.name_any-2.ensures.named n
    ∙ ap (λ b. b || among n (if_any r.next)) (c.name_any.ensures.named n ∙ ap (λ b. b || among n (if_any r.previous)) removed)
    ∙ name-parts n before r.target r.added.items r.removed.items (if_any r.previous) (if_any r.next)
    ∙ ap (λ (t : Record). before || among n (nodes_of_record t)) c.told.view_is
