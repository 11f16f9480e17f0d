-- The walk tells, or each node of the set.
use Rattle.std.proofs.Common.{rules, of_calls}
use Rattle.dom_model.specs.Definitions.{among}
use Rattle.dom_tree.proofs.FirstFoundLemmas.{asked-found}
use Rattle.dom_observe.proofs.ResultLemmas.{by_either}
use Rattle.dom_observe.proofs.queue.is_named_inside.Goals as goal

pub returns : goal.returns
returns g c =
    by_either c.any_inside.result _ c.unwrap_or_else.result _ c.unwrap_or_else.ensures
    (asked-found _ _ c.args.named.now.keys (c.any_inside.ensures.asked (λ m. among m c.args.named.now.keys) (λ n passes called. search (rules, of_calls))))
    (λ called. search (rules, of_calls))
