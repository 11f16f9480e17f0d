use Rattle.std.proofs.Common.{ap, ◌∙◌, refl}
use Rattle.dom_model.specs.Definitions.{parent_of}
use Rattle.dom_model.proofs.PlainLists.Numbers.{same_or, same, apart}
use Rattle.dom_model.proofs.Forests.Entries.{parent-cut}
use Rattle.uses.proofs.tree.detach.Goals as goal

pub returns-clause-root : goal.returns-clause-root
returns-clause-root c =
    let n = c.args.node in
    ap (λ g. parent_of g.forest n) c.cut.ensures ∙ parent-cut c.args.tree.now.forest c.state_law.ensures.once n n
    ∙ elim (same_or n n) [ same e v ↦ rw v refl | apart ne v ↦ absurd (ne refl) ]
