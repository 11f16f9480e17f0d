-- The walk tells, or each node with keys.
use Rattle.std.proofs.Common.{rules, of_calls}
use Rattle.std.specs.Map.{keys_of}
use Rattle.dom_model.specs.Definitions.{among}
use Rattle.dom_tree.proofs.FirstFoundLemmas.{asked-found}
use Rattle.dom_observe.proofs.ResultLemmas.{by_either}
use Rattle.dom_observe.proofs.node_references.is_named.Goals as goal

pub returns : goal.returns
returns g c =
    by_either c.any_inside.result _ c.unwrap_or_else.result _ c.unwrap_or_else.ensures
    (asked-found _ _ (keys_of c.args.registrations.now.lists) (c.any_inside.ensures.asked (λ m. among m (keys_of c.args.registrations.now.lists)) (λ n passes called. search (rules, of_calls))))
    (λ called. search (rules, of_calls))
