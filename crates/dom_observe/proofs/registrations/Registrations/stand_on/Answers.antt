use Rattle.std.proofs.Common.{ap, sym, ◌∙◌}
use Rattle.std.specs.Map.{keys_of}
use Rattle.std.proofs.lemmas.Map.Made.{keys_of-map_values}
use Rattle.dom_model.specs.Definitions.{among}
use Rattle.dom_observe.specs.{Keys.Keys, Registrations.Registered}
use Rattle.dom_observe.proofs.KeysLemmas.{some-lookup}
use Rattle.dom_observe.proofs.registrations.Registrations.stand_on.Goals as goal

pub returns : goal.returns
returns c =
    let es = c.self.inside.nodes.entries in
    c.contains_key.ensures ∙ some-lookup c.number.result es ∙ ap (λ n. among n (keys_of es)) c.number.ensures
    ∙ ap (among c.args.node) (sym (keys_of-map_values (λ (l : Keys). l.items) es)) ∙ ap (λ (r : Registered). among c.args.node (keys_of r.lists)) c.self.view_is
