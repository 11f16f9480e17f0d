use Rattle.std.proofs.Common.{ap, sym, ◌∙◌, subst, arith, []}
use Rattle.std.proofs.lemmas.Bool.Decides.{nat_tests}
use Rattle.dom_model.specs.Definitions.{Grove, HasNode, Content}
use Rattle.dom_model.proofs.Forests.Entries.{HasNode-occurs}
use Rattle.dom_edit.proofs.PlacedInLemmas.{may-put, placed-same, there-put}
use Rattle.dom_edit.proofs.root_insertion.put_in.Goals as goal

pub put-requires-clause-no_cycle : goal.put-requires-clause-no_cycle
put-requires-clause-no_cycle c = (may-put c.args.tree.now c.state_law.ensures c.args.parent c.args.node c.args.child [] c.requires.ready).outside

pub set_document-requires : goal.set_document-requires
set_document-requires c = subst (λ (h : Grove Content). HasNode h.forest c.args.node) (sym c.put.ensures) (there-put c.args.tree.now c.state_law.ensures c.args.parent c.args.node c.args.child [] c.requires.ready)

pub returns-else-ne : goal.returns-else-ne
returns-else-ne c =
    let g = c.args.tree.now in
    let there = HasNode-occurs g.forest c.args.parent c.requires.ready.parent_there in
    let e = placed-same g.forest c.state_law.ensures.once c.requires.owned.documents c.args.parent c.args.node c.document_of-document.result c.document_of-own.result c.args.child there c.document_of-document.ensures c.document_of-own.ensures (let e = sym c.ne.ensures ∙ c.if-ne.false in grind (arith, nat_tests)) in
    c.put.ensures ∙ ap (λ h. record { forest = h; made = g.made }) (sym e)
