-- Its keys of transient registrations are none; the others, and its queue, stay.
use Rattle.std.proofs.Common.{refl, ap, sym, ◌∙◌, slice_set}
use Rattle.dom_observe.specs.Roster.{passing_by}
use Rattle.dom_observe.proofs.RosterLemmas.{has-kept, passing-set, lasting-same, queues-same}
use Rattle.dom_observe.proofs.registration_removal.forget_passing.Goals as goal

pub get_mut-kept-requires : goal.get_mut-kept-requires
get_mut-kept-requires c = sym (has-kept c.args.roster.now c.args.observer) ∙ c.requires

pub returns-clause-keys : goal.returns-clause-keys
returns-clause-keys c =
    passing-set c.args.roster.now c.args.observer (record c.get_mut-kept.result.now { passing = c.clear.new.self })
    ∙ ap (slice_set (passing_by c.args.roster.now) c.args.observer) c.clear.ensures.items

pub returns-clause-lasting : goal.returns-clause-lasting
returns-clause-lasting c = lasting-same c.args.roster.now c.args.observer c.get_mut-kept.result.now c.get_mut-kept.ensures.value (record c.get_mut-kept.result.now { passing = c.clear.new.self }) refl

pub returns-clause-queues : goal.returns-clause-queues
returns-clause-queues c = queues-same c.args.roster.now c.args.observer c.get_mut-kept.result.now c.get_mut-kept.ensures.value (record c.get_mut-kept.result.now { passing = c.clear.new.self }) refl
