use Rattle.std.proofs.Common.{is_some, count_by, ap, sym, ◌∙◌}
use Rattle.dom_observe.specs.Watchers.{Watchers}
use Rattle.dom_observe.proofs.QueueCountLemmas.{queues-counted, places-counted}
use Rattle.dom_observe.proofs.observers.Observers.count.Goals as goal

pub returns-clause-count : goal.returns-clause-count
returns-clause-count c = c.count.ensures ∙ sym (queues-counted c.self.inside.roster) ∙ ap (λ (o : Watchers). count_by is_some o.queues) c.self.view_is

pub returns-clause-watched : goal.returns-clause-watched
returns-clause-watched c = λ x w. returns-clause-count c ∙ places-counted c.args.self.now x w
