-- Its place among the children tells it.
use Rattle.std.proofs.Common.{sym, ◌∙◌, arith}
use Rattle.dom_edit.proofs.{InsertionPointLemmas.listed-once, IsAroundLemmas.known-ahead}
use Rattle.dom_edit.proofs.insertion_point.is_ahead.Goals as goal

pub returns : goal.returns
returns c =
    let g = c.args.tree.now in
    c.comes_before.ensures
    ∙ known-ahead c.args.kind g.forest c.args.document c.in_ok-known.known c.in_ok-child.child c.args.place (λ m e. listed-once g c.state_law.ensures c.args.document m e) (sym c.in_ok-child.ensures) c.requires.under c.in_ok-known.ensures.child c.in_ok-known.ensures.kind
    (omega (arith, c.in_ok-count.ensures, c.if-count-ne1.false))
