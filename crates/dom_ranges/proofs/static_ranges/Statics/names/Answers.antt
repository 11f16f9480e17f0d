use Rattle.std.proofs.Common.{ap, ◌∙◌, flat_map}
use Rattle.dom_model.specs.Definitions.{among, nodes_of_range, nodes_unless_released}
use Rattle.dom_ranges.proofs.AreCountsLemmas.{named-counted}
use Rattle.dom_ranges.proofs.static_ranges.Statics.names.Goals as goal

pub returns : goal.returns
returns c =
    c.stands_in.ensures ∙ named-counted c.state_law.ensures.slotted c.self.invariant c.args.node
    ∙ ap (λ rs. among c.args.node (flat_map (nodes_unless_released nodes_of_range) rs)) c.self.view_is
