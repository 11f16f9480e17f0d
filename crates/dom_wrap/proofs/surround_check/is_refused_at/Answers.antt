use Rattle.std.proofs.Common.{◌∙◌}
use Rattle.dom_wrap.proofs.{InsertedNode.reference-held, AllowCode.error-at}
use Rattle.dom_wrap.proofs.surround_check.is_refused_at.Goals as goal

pub check_insert-requires-clause-child_held : goal.check_insert-requires-clause-child_held
check_insert-requires-clause-child_held c =
    reference-held c.args.world.now c.requires.whole c.args.point c.requires.point_held c.reference_at-reference.result c.reference_at-reference.ensures

pub returns : goal.returns
returns c =
    c.is_err.ensures.value
    ∙ error-at c.args.world.now c.requires.whole c.args.point c.args.node c.requires.node_held c.requires.element
    c.parent_at-parent.result c.parent_at-parent.ensures.parent c.reference_at-reference.result c.reference_at-reference.ensures c.check_insert.result c.check_insert.ensures
