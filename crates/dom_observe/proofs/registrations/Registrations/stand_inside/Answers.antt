-- A node with any is one of the keys.
use Rattle.std.proofs.Common.{ℕ, ap, sym, ◌∙◌, tests, rules}
use Rattle.std.specs.{List.list_any, Map.keys_of}
use Rattle.std.proofs.lemmas.{Iterator.Search.any_from_yields_List, Iterator.Consumers.YieldsList-from_rest, Map.Made.keys_of-map_values}
use Rattle.dom_model.specs.Definitions.{among, inclusive_descendants}
use Rattle.dom_observe.specs.{Keys.Keys, Registrations.Registered}
use Rattle.dom_observe.proofs.registrations.Registrations.stand_inside.Goals as goal

pub returns : goal.returns
returns g c =
    let es = c.self.inside.nodes.entries in
    let test = λ (m : ℕ). among m (inclusive_descendants c.args.tree.now.forest c.args.top) in
    any_from_yields_List test _ _ c.any.result c.any.ensures.ran (YieldsList-from_rest _ c.keys.ensures.rest) (λ x b q k. search (rules, tests))
    ∙ ap (list_any test) (sym (keys_of-map_values (λ (l : Keys). l.items) es)) ∙ ap (λ (r : Registered). list_any test (keys_of r.lists)) c.self.view_is
