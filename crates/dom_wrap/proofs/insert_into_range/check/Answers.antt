use Rattle.dom_wrap.proofs.InsertedNode.{reference-held}
use Rattle.dom_wrap.proofs.insert_into_range.check.Goals as goal

pub check_insert-requires-clause-child_held : goal.check_insert-requires-clause-child_held
check_insert-requires-clause-child_held c =
    reference-held c.args.world.now c.requires.whole c.args.start c.requires.start_held c.reference_at-reference.result c.reference_at-reference.ensures
