-- The child that the path begins with has a parent, and stands under the ancestor; a path that is empty leads from the ancestor to itself.
use Rattle.std.proofs.Common.{refl, sym, ◌∙◌}
use Rattle.dom_content.proofs.ChildrenBetween.{way-child, way-held}
use Rattle.dom_content.proofs.deletion.new_place.Goals as goal

pub point_after-requires : goal.point_after-requires
point_after-requires c = way-held c.args.tree.now.forest c.requires.way.0 c.args.start.node c.args.path.now c.in-Some.child c.requires.way.1 (sym c.head.ensures ∙ c.in-Some.is)

pub unwrap-requires : goal.unwrap-requires
unwrap-requires c =
    let i = way-child c.args.tree.now.forest c.requires.way.0 c.args.start.node c.args.path.now c.in-Some.child c.requires.way.1 (sym c.head.ensures ∙ c.in-Some.is) in
    rw (c.point_after.ensures, i.1) refl
