-- The set answers as the list does.
use Rattle.std.proofs.Common.{ap, ◌∙◌, subst}
use Rattle.dom_model.specs.Definitions.{name_passes}
use Rattle.dom_observe.specs.Names.{given_name, Sifts}
use Rattle.dom_observe.proofs.FilterSetLemmas.{sifted}
use Rattle.dom_observe.proofs.filter.Interests.passes.Goals as goal

pub returns-in-Some : goal.returns-in-Some
returns-in-Some c =
    let a = c.self.inside in
    c.has_name.ensures
    ∙ sifted a.options.attribute_filter c.in-Some.set (subst (Sifts a.options.attribute_filter) c.in-Some.is c.self.invariant) (given_name c.args.name)
    ∙ ap (λ o. name_passes o.attribute_filter (given_name c.args.name)) c.self.view_is
