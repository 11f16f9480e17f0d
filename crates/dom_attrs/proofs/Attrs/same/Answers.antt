-- The same list has the same attributes.
use Rattle.std.proofs.Common.{sym, ◌∙◌}
use Rattle.dom_attrs.proofs.AttributeLemmas.{same-list}
use Rattle.dom_attrs.proofs.Attrs.same.Goals as goal

pub returns-then-is_in_order_of : goal.returns-then-is_in_order_of
returns-then-is_in_order_of c =
    c.if-is_in_order_of.true ∙ sym (same-list c.args.self.now c.args.other.now (c.is_in_order_of.ensures c.if-is_in_order_of.true))
