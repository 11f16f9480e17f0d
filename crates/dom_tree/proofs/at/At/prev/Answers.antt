-- What the links say by place, by number.
use Rattle.std.proofs.Common.{◌≡◌, None, option_map, rules, ap, sym, ◌∙◌}
use Rattle.dom_tree.specs.{Places.called, Spots.node_at}
use Rattle.dom_tree.proofs.SpotLemmas.{previous-spot}
use Rattle.dom_tree.proofs.at.At.prev.Goals as goal

pub returns-in_err-place-clause-node : goal.returns-in_err-place-clause-node
returns-in_err-place-clause-node g c =
    let none : c.from_residual.result ≡ None = search rules in
    ap node_at none ∙ ap (option_map (called c.self.inside.links.now)) (sym c.in_err-place.was) ∙ previous-spot c.self.invariant c.self.view_is c.state_law.ensures c.prev.result c.prev.ensures

pub returns-clause-node : goal.returns-clause-node
returns-clause-node g c =
    ap (option_map (called c.self.inside.links.now)) (sym c.in_ok-place.was) ∙ previous-spot c.self.invariant c.self.view_is c.state_law.ensures c.prev.result c.prev.ensures
