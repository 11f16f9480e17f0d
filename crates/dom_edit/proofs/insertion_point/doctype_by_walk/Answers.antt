use Rattle.std.proofs.Common.{◌∙◌}
use Rattle.dom_edit.proofs.InsertionPointLemmas.{doctype-refused, listed-once}
use Rattle.dom_edit.proofs.insertion_point.doctype_by_walk.Goals as goal

pub returns : goal.returns
returns c n =
    let g = c.args.tree.now in
    c.refuses_doctype.ensures
    ∙ doctype-refused g.forest c.args.document c.args.place c.look_around.result c.requires.under c.look_around.ensures (λ m e. listed-once g c.state_law.ensures c.args.document m e) n
