-- Where no node has keys, no node has registrations.
use Rattle.std.proofs.Common.{◌==◌, length, ap, sym, ◌∙◌, subst}
use Rattle.std.proofs.lemmas.List.{length-map}
use Rattle.dom_model.specs.Definitions.{registered_on}
use Rattle.dom_observe.specs.{WithoutRepeats.once, Watchers.Watchers, Watchers.Watches, Registrations.found, Registrations.at, Invariant.has_queue, Roster.queues_by}
use Rattle.dom_observe.proofs.InvariantLemmas.{none_listed, on-registered_nodes, none_in}
use Rattle.dom_observe.proofs.observers.Observers.is_idle.Goals as goal

pub returns-clause-idle : goal.returns-clause-idle
returns-clause-idle c = λ x w yes.
    let a = c.self.inside in
    let shown = subst (λ (o : Watchers). Watches o x) (sym c.self.view_is) w in
    none_in a.registrations (sym c.is_empty.ensures ∙ yes) x.registrations shown.registrations

pub returns-clause-observing : goal.returns-clause-observing
returns-clause-observing c = λ x w gone.
    let a = c.self.inside in
    let shown = subst (λ (o : Watchers). Watches o x) (sym c.self.view_is) w in
    let none = none_listed (at a.registrations) a.registrations.lists (has_queue (queues_by a.roster)) c.self.invariant.0.stand c.self.invariant.0.are.full (λ n. sym (on-registered_nodes a.registrations n) ∙ shown.registrations n ∙ ap (λ rs. once (registered_on n rs)) gone) in
    c.is_empty.ensures ∙ ap (λ n. n == 0) none

pub returns-clause-own : goal.returns-clause-own
returns-clause-own c =
    let a = c.self.inside in
    c.is_empty.ensures ∙ ap (λ n. n == 0) (sym (length-map a.registrations.lists (λ e. (e.0, found a.registrations e.1)))) ∙ ap (λ (o : Watchers). length o.nodes == 0) c.self.view_is
