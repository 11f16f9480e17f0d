-- One queue is emptied, and the keys stay.
use Rattle.std.proofs.Common.{[], Some, refl, ap, sym, ◌∙◌, slice_set, unwrap_or}
use Rattle.dom_observe.specs.Roster.{queues_by}
use Rattle.dom_observe.proofs.RosterLemmas.{has-kept, queue-there, keys-same, queues-set}
use Rattle.dom_observe.proofs.queues.take_from.Goals as goal

pub get_mut-kept-requires : goal.get_mut-kept-requires
get_mut-kept-requires c = sym (has-kept c.args.roster.now c.args.observer) ∙ c.requires

pub returns-clause-records : goal.returns-clause-records
returns-clause-records c =
    c.take.ensures.records ∙ sym (ap (λ q. unwrap_or q []) (queue-there c.args.roster.now c.args.observer c.get_mut-kept.result.now c.get_mut-kept.ensures.value))

pub returns-clause-emptied : goal.returns-clause-emptied
returns-clause-emptied c =
    queues-set c.args.roster.now c.args.observer _ ∙ ap (λ q. slice_set (queues_by c.args.roster.now) c.args.observer (Some q)) c.take.ensures.emptied

pub returns-clause-keys : goal.returns-clause-keys
returns-clause-keys c = keys-same c.args.roster.now c.args.observer c.get_mut-kept.result.now c.get_mut-kept.ensures.value _ refl refl
