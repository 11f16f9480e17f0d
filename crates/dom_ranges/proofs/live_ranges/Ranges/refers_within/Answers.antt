-- By the nodes inside, else by each end.
use Rattle.std.proofs.Common.{◌∙◌, tests, rules, of_calls}
use Rattle.dom_model.specs.Definitions.{among, inclusive_descendants}
use Rattle.dom_tree.proofs.FirstFoundLemmas.{asked-found}
use Rattle.dom_ranges.specs.Tables.{live_nodes}
use Rattle.dom_ranges.proofs.RangeTableLemmas.{any-told}
use Rattle.dom_ranges.proofs.live_ranges.Ranges.refers_within.Goals as goal

pub returns-then-is_idle : goal.returns-then-is_idle
returns-then-is_idle g c = search (tests, rules)

pub returns-in-Some : goal.returns-in-Some
returns-in-Some g c = asked-found _ _ (live_nodes c.args.self.now) (c.in-Some.ensures.asked (λ m. among m (live_nodes c.args.self.now)) (λ n passes called. search (rules, of_calls)))

pub returns-in-None : goal.returns-in-None
returns-in-None g c =
    c.refer.ensures ∙ any-told c.state_law.ensures.fit c.self.inside.chains c.self.invariant _ c.self.view_is (λ m. among m (inclusive_descendants c.args.tree.now.forest c.args.top))
