use Rattle.std.proofs.Common.{ap, sym, ◌∙◌, subst}
use Rattle.dom_observe.specs.Watchers.{Watchers, Watches, registrations_in}
use Rattle.dom_observe.proofs.{RegistrationCountLemmas.registrations-counted, RegistrationSumLemmas.registrations-summed}
use Rattle.dom_observe.proofs.observers.Observers.registrations.Goals as goal

pub returns-clause-watched : goal.returns-clause-watched
returns-clause-watched c = λ x w.
    let a = c.self.inside in
    let shown = subst (λ (o : Watchers). Watches o x) (sym c.self.view_is) w in
    c.len.ensures ∙ registrations-counted a.registrations c.self.invariant.0.are.placed x.registrations shown.registrations

pub returns-clause-own : goal.returns-clause-own
returns-clause-own c =
    let a = c.self.inside in
    c.len.ensures ∙ registrations-summed a.registrations c.self.invariant.0.are ∙ ap registrations_in c.self.view_is
