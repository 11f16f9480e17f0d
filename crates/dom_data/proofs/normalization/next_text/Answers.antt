-- The next sibling is there.
use Rattle.std.proofs.Common.{sym, ◌∙◌}
use Rattle.dom_tree.proofs.SiblingLemmas.{forward-step}
use Rattle.dom_data.proofs.normalization.next_text.Goals as goal

pub is_of_kind-requires : goal.is_of_kind-requires
is_of_kind-requires c = (forward-step c.state_law.ensures c.args.node c.in-Some.next c.requires.held (sym c.next.ensures ∙ c.in-Some.is)).1.1
