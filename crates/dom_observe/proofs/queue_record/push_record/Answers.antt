-- A record comes last in the queue, and the keys stay.
use Rattle.std.proofs.Common.{◌==◌, if◌then◌else◌, [], ◌∷◌, ◌++◌, is_some, refl, ap, sym, ◌∙◌}
use Rattle.dom_observe.specs.{Watchers.queue_at, Watchers.records_at, Roster.queues_by}
use Rattle.dom_observe.proofs.{ResultLemmas.on_ok, ResultLemmas.on_err, QueueListLemmas.records-pushed, RosterLemmas.has-kept, RosterLemmas.queue-there, RosterLemmas.keys-same, RosterLemmas.queues-set, RosterLemmas.roster-same}
use Rattle.dom_observe.proofs.queue_record.push_record.Goals as goal

pub get_mut-kept-requires : goal.get_mut-kept-requires
get_mut-kept-requires c = sym (has-kept c.args.roster.now c.new.result) ∙ ap (λ i. is_some (queue_at (queues_by c.args.roster.now) i)) c.new.ensures ∙ c.requires

pub returns-clause-ok : goal.returns-clause-ok
returns-clause-ok c =
    on_ok c.push.result c.push.ensures.ok (λ pushed p.
    let roster = c.args.roster.now in
    let kept = c.get_mut-kept.result.now in
    let at = queue-there roster c.new.result kept c.get_mut-kept.ensures.value in
    ap (λ qs. records_at qs p) (queues-set roster c.new.result (record kept { queue = c.push.new.self }))
    ∙ records-pushed (queues_by roster) c.new.result kept.queue.records at c.push.new.self.records c.args.told pushed p
    ∙ ap (λ i. if i == p then records_at (queues_by roster) p ++ c.args.told ∷ [] else records_at (queues_by roster) p) c.new.ensures)

pub returns-clause-err : goal.returns-clause-err
returns-clause-err c =
    on_err c.push.result c.push.ensures.err (λ left.
    roster-same c.args.roster.now c.new.result c.get_mut-kept.result.now c.get_mut-kept.ensures.value (record c.get_mut-kept.result.now { queue = c.push.new.self }) (λ j. record c.get_mut-kept.result.now { queue = left j }))

pub returns-clause-keys : goal.returns-clause-keys
returns-clause-keys c = keys-same c.args.roster.now c.new.result c.get_mut-kept.result.now c.get_mut-kept.ensures.value (record c.get_mut-kept.result.now { queue = c.push.new.self }) refl refl
