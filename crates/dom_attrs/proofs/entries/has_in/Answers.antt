use Rattle.std.proofs.Common.{ap, sym, refl, ◌∙◌, option_copied, bytes_eq}
use Rattle.dom_model.specs.Definitions.{Attribute}
use Rattle.dom_attrs.specs.Entries.{entry_attributes}
use Rattle.dom_attrs.proofs.{AttributeLemmas.has_value, EntriesLemmas.list_any-lookup}
use Rattle.dom_attrs.proofs.entries.has_in.Goals as goal

pub returns-in-None : goal.returns-in-None
returns-in-None c =
    let a : Attribute = record { name = c.args.name.now; value = c.args.value.now } in
    let told = list_any-lookup a c.args.map.now.entries (entry_attributes c.args.map.now.entries) refl c.requires (option_copied c.get.result) c.get.ensures.value in
    sym (ap (λ r. has_value a.value (option_copied r)) c.in-None.is) ∙ told

pub returns-in-Some : goal.returns-in-Some
returns-in-Some c =
    let a : Attribute = record { name = c.args.name.now; value = c.args.value.now } in
    let told = list_any-lookup a c.args.map.now.entries (entry_attributes c.args.map.now.entries) refl c.requires (option_copied c.get.result) c.get.ensures.value in
    let is = ap (λ r. has_value a.value (option_copied r)) c.in-Some.is in
    c.eq.ensures ∙ (λ i. bytes_eq (c.units.ensures i) (c.units-in-Some.ensures i)) ∙ sym is ∙ told
