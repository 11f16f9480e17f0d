-- By the nodes inside, or by each end.
use Rattle.std.proofs.Common.{ℕ, List, Option, ap, ◌∙◌, rules, of_calls}
use Rattle.std.specs.List.{list_any, flat_map}
use Rattle.dom_model.specs.Definitions.{among, inclusive_descendants, Range, nodes_of_range, nodes_unless_released}
use Rattle.dom_tree.proofs.FirstFoundLemmas.{asked-found}
use Rattle.dom_ranges.proofs.AreCountsLemmas.{any-by_slot}
use Rattle.dom_ranges.proofs.static_ranges.Statics.refers.Goals as goal

pub returns-in-Some : goal.returns-in-Some
returns-in-Some g c =
    let names = flat_map (nodes_unless_released nodes_of_range) c.args.self.now in
    asked-found _ _ names (c.in-Some.ensures.asked (λ m. among m names) (λ n passes called. search (rules, of_calls)))

pub returns-in-None : goal.returns-in-None
returns-in-None g c =
    let inside = λ (m : ℕ). among m (inclusive_descendants c.args.tree.now.forest c.args.top) in
    c.refer.ensures
    ∙ ap (λ (rs : List Range). list_any inside (flat_map nodes_of_range rs)) c.items.ensures
    ∙ any-by_slot inside nodes_of_range c.state_law.ensures.slotted
    ∙ ap (λ (rs : List (Option Range)). list_any inside (flat_map (nodes_unless_released nodes_of_range) rs)) c.self.view_is
