-- What the walk asks of a node is whether it is named.
use Rattle.std.proofs.Common.{◌≡◌, sym, ◌∙◌, rules, of_calls}
use Rattle.dom_model.specs.Definitions.{among}
use Rattle.dom_tree.proofs.FirstFoundLemmas.{asked-found}
use Rattle.dom_traverse.specs.NamedNodes.{is_named}
use Rattle.dom_traverse.proofs.references.names_inside.Goals as goal

pub returns : goal.returns
returns g c =
    λ nodes names.
    asked-found _ _ nodes (c.any_inside.ensures.asked (λ m. among m nodes) (λ n passes called.
    let e : passes ≡ is_named c.args.roots.now c.args.standing.now n = search (rules, of_calls) in
    e ∙ sym (names n)))
