-- The steps of a move find what its list says.
use Rattle.std.proofs.Common.{ap, sym, ◌∙◌}
use Rattle.dom_model.specs.declared.{Move.Move, Move.TheVariants.ParentNode, Move.TheVariants.FirstChild, Move.TheVariants.LastChild, Move.TheVariants.PreviousSibling, Move.TheVariants.NextSibling, Move.TheVariants.PreviousNode, Move.TheVariants.NextNode}
use Rattle.dom_model.specs.Definitions.{Walker, found_by_steps, walk_found}
use Rattle.dom_model.proofs.Traversal.WalksMirrored.{walk-by_steps}
use Rattle.dom_traverse.proofs.walker.TreeWalker.found.Goals as goal

pub returns-in-ParentNode : goal.returns-in-ParentNode
returns-in-ParentNode g c =
    let f = c.args.tree.now.forest in
    c.parent_node.ensures ∙ ap (λ (w : Walker). found_by_steps ParentNode f w.filter w.root w.current) c.self.view_is ∙ sym (walk-by_steps f c.state_law.ensures.once ParentNode c.args.self.now) ∙ ap (λ (m : Move). walk_found m f c.args.self.now) (sym c.in-ParentNode.is)

pub returns-in-FirstChild : goal.returns-in-FirstChild
returns-in-FirstChild g c =
    let f = c.args.tree.now.forest in
    c.child.ensures ∙ ap (λ (w : Walker). found_by_steps FirstChild f w.filter w.root w.current) c.self.view_is ∙ sym (walk-by_steps f c.state_law.ensures.once FirstChild c.args.self.now) ∙ ap (λ (m : Move). walk_found m f c.args.self.now) (sym c.in-FirstChild.is)

pub returns-in-LastChild : goal.returns-in-LastChild
returns-in-LastChild g c =
    let f = c.args.tree.now.forest in
    c.child-in-LastChild.ensures ∙ ap (λ (w : Walker). found_by_steps LastChild f w.filter w.root w.current) c.self.view_is ∙ sym (walk-by_steps f c.state_law.ensures.once LastChild c.args.self.now) ∙ ap (λ (m : Move). walk_found m f c.args.self.now) (sym c.in-LastChild.is)

pub returns-in-PreviousSibling : goal.returns-in-PreviousSibling
returns-in-PreviousSibling g c =
    let f = c.args.tree.now.forest in
    c.sibling.ensures ∙ ap (λ (w : Walker). found_by_steps PreviousSibling f w.filter w.root w.current) c.self.view_is ∙ sym (walk-by_steps f c.state_law.ensures.once PreviousSibling c.args.self.now) ∙ ap (λ (m : Move). walk_found m f c.args.self.now) (sym c.in-PreviousSibling.is)

pub returns-in-NextSibling : goal.returns-in-NextSibling
returns-in-NextSibling g c =
    let f = c.args.tree.now.forest in
    c.sibling-in-NextSibling.ensures ∙ ap (λ (w : Walker). found_by_steps NextSibling f w.filter w.root w.current) c.self.view_is ∙ sym (walk-by_steps f c.state_law.ensures.once NextSibling c.args.self.now) ∙ ap (λ (m : Move). walk_found m f c.args.self.now) (sym c.in-NextSibling.is)

pub returns-in-PreviousNode : goal.returns-in-PreviousNode
returns-in-PreviousNode g c =
    let f = c.args.tree.now.forest in
    c.previous_node.ensures ∙ ap (λ (w : Walker). found_by_steps PreviousNode f w.filter w.root w.current) c.self.view_is ∙ sym (walk-by_steps f c.state_law.ensures.once PreviousNode c.args.self.now) ∙ ap (λ (m : Move). walk_found m f c.args.self.now) (sym c.in-PreviousNode.is)

pub returns-in-NextNode : goal.returns-in-NextNode
returns-in-NextNode g c =
    let f = c.args.tree.now.forest in
    c.next_node.ensures ∙ ap (λ (w : Walker). found_by_steps NextNode f w.filter w.root w.current) c.self.view_is ∙ sym (walk-by_steps f c.state_law.ensures.once NextNode c.args.self.now) ∙ ap (λ (m : Move). walk_found m f c.args.self.now) (sym c.in-NextNode.is)
