-- The root goes into itself first.
use Rattle.std.proofs.Common.{refl, ap, ◌∙◌}
use Rattle.dom_model.specs.Definitions.{Grove, parent_of, children_of, without, in_document}
use Rattle.dom_tree.specs.NodeDocuments.{document_in}
use Rattle.dom_tree.proofs.DocumentsKept.{documents-set, parent-set, children-set, without-with_node}
use Rattle.dom_tree.proofs.tree.Tree.take_root.Goals as goal

pub take_alone-requires-clause-no_parent : goal.take_alone-requires-clause-no_parent
take_alone-requires-clause-no_parent g c =
    ap (λ (q : Grove g.row.X.Denot). parent_of q.forest c.args.id) c.move_to.ensures
    ∙ parent-set c.args.self.now.forest c.state_law.ensures.once c.args.id c.args.id c.args.id ∙ c.requires.no_parent

pub take_alone-requires-clause-no_child : goal.take_alone-requires-clause-no_child
take_alone-requires-clause-no_child g c =
    ap (λ (q : Grove g.row.X.Denot). children_of q.forest c.args.id) c.move_to.ensures
    ∙ children-set c.args.self.now.forest c.state_law.ensures.once c.args.id c.args.id c.args.id ∙ c.requires.no_child

pub take_alone-requires-clause-itself : goal.take_alone-requires-clause-itself
take_alone-requires-clause-itself g c =
    ap (λ (q : Grove g.row.X.Denot). document_in q.forest c.args.id) c.move_to.ensures
    ∙ documents-set c.args.self.now.forest c.state_law.ensures.once c.args.id c.args.id c.requires.held

pub returns : goal.returns
returns g c =
    c.take_alone.ensures
    ∙ ap (λ (q : Grove g.row.X.Denot). record q { forest = without c.args.id q.forest }) c.move_to.ensures
    ∙ ap (λ f. record c.args.self.now { forest = f }) (without-with_node c.args.id (in_document c.args.id) (λ x. refl) c.args.self.now.forest)
