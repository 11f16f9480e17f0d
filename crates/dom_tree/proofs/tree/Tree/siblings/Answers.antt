-- A parent is there.
use Rattle.std.proofs.Common.{sym, ◌∙◌}
use Rattle.dom_model.proofs.Forests.Above.{above}
use Rattle.dom_tree.proofs.tree.Tree.siblings.Goals as goal

pub count-requires : goal.count-requires
count-requires g c = (above c.state_law.ensures c.args.id c.in-Some.parent c.requires (sym c.parent.ensures ∙ c.in-Some.is)).there
