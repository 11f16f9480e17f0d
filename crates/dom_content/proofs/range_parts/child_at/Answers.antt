-- The path begins with a child, or the point stands in the node itself.
use Rattle.std.proofs.Common.{sym, ◌∙◌}
use Rattle.dom_content.proofs.ChildrenBetween.{at-some}
use Rattle.dom_content.proofs.range_parts.child_at.Goals as goal

pub returns-in-Some : goal.returns-in-Some
returns-in-Some c = at-some c.args.tree.now.forest c.state_law.ensures.once c.args.parent c.args.point c.args.path.now c.in-Some.child c.requires.way (sym c.head.ensures ∙ c.in-Some.is)
