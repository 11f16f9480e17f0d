use Rattle.std.proofs.Common.{◌≡◌, ◌∙◌, ap, sym, string_bytes, Some, map, bytes_eq}
use Rattle.std.specs.List.{list_any}
use Rattle.dom_model.specs.Definitions.{name_passes}
use Rattle.dom_observe.specs.Names.{names_of, given_name}
use Rattle.dom_observe.proofs.ListAnyLemmas.{list_any-map}
use Rattle.dom_observe.proofs.options.Options.passes.Goals as goal

pub returns-in-Some-name : goal.returns-in-Some-name
returns-in-Some-name c =
    let name = c.in-Some-name.name.now in
    let names = c.in-Some.names.items in
    let filter : c.args.self.now.attribute_filter ≡ Some (map string_bytes names) = sym (ap (λ o. o.attribute_filter) c.self.view_is) ∙ ap names_of c.in-Some.is in
    c.is_one_of.ensures
    ∙ ap (list_any (λ other. bytes_eq name (string_bytes other))) c.as_slice.ensures.value
    ∙ sym (list_any-map (bytes_eq name) string_bytes names)
    ∙ ap (λ f. name_passes f (Some name)) (sym filter)
    ∙ ap (λ t. name_passes c.args.self.now.attribute_filter (given_name t)) (sym c.in-Some-name.is)
