-- Those that stand at a node have its place.
use Rattle.std.proofs.Common.{◌≡◌, ℕ, nat_eq, Option, Some, None, length, refl, ap, ◌∙◌, rules, of_calls}
use Rattle.std.specs.{List.list_any, Option.option_eq}
use Rattle.dom_model.specs.Definitions.{is_number}
use Rattle.dom_traverse.specs.PositionsByNode.{bucket_of, item_nodes}
use Rattle.dom_traverse.proofs.AreSpreadLemmas.{spread-any}
use Rattle.dom_traverse.proofs.positions_by_node.PositionsByNode.names.Goals as goal

same-number : (o : Option ℕ) (n : ℕ) → option_eq nat_eq o (Some n) ≡ is_number o n
same-number None n = refl
same-number (Some m) n = refl

pub returns : goal.returns
returns c =
    c.any_at.ensures (λ o. is_number o c.args.node) (λ o passes called.
    let e : passes ≡ option_eq nat_eq o (Some c.number.result) = search (rules, of_calls) in
    e ∙ same-number o c.number.result ∙ ap (is_number o) c.number.ensures)
    ∙ spread-any (item_nodes c.self.inside.chains.items) c.self.inside.chains c.self.invariant c.args.node c.place_of-place.result (c.place_of-place.ensures.place ∙ ap (λ k. bucket_of k (Some c.number.result)) c.key_count.ensures ∙ ap (λ m. bucket_of (length c.self.inside.chains.covered) (Some m)) c.number.ensures)
    ∙ ap (λ ns. list_any (λ o. is_number o c.args.node) ns) c.self.view_is
