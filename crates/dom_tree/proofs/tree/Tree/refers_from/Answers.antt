-- A node is in the tree where the top is an ancestor.
use Rattle.std.proofs.Common.{true, false, not, sym, ap, ◌∙◌}
use Rattle.dom_model.proofs.Forests.ToTheRoot.{inside-same}
use Rattle.dom_tree.proofs.RefersLemmas.{inside-none, refers-document}
use Rattle.dom_tree.proofs.tree.Tree.refers_from.Goals as goal

pub returns-then-not-holds-2 : goal.returns-then-not-holds-2
returns-then-not-holds-2 g c =
    sym (refers-document c.state_law.ensures c.args.top c.args.id c.document_of-document.result c.document_of-document.ensures (sym c.holds.ensures ∙ c.if-not-holds.false) false (inside-none c.state_law.ensures c.args.top c.document_of-document.result (sym c.holds-2.ensures ∙ c.if-not-holds-2.true)))

pub returns-then-not-is_ancestor : goal.returns-then-not-is_ancestor
returns-then-not-is_ancestor g c =
    sym (refers-document c.state_law.ensures c.args.top c.args.id c.document_of-document.result c.document_of-document.ensures (sym c.holds.ensures ∙ c.if-not-holds.false) false (sym (inside-same c.state_law.ensures c.args.top c.document_of-document.result) ∙ sym c.is_ancestor.ensures ∙ c.if-not-is_ancestor.true))

pub returns : goal.returns
returns g c =
    sym (refers-document c.state_law.ensures c.args.top c.args.id c.document_of-document.result c.document_of-document.ensures (sym c.holds.ensures ∙ c.if-not-holds.false) true (sym (inside-same c.state_law.ensures c.args.top c.document_of-document.result) ∙ sym c.is_ancestor.ensures ∙ c.if-not-is_ancestor.false)
    ∙ ap not (sym (inside-same c.state_law.ensures c.args.top c.args.id) ∙ sym c.is_ancestor-2.ensures))
