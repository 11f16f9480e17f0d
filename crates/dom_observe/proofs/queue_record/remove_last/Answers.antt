-- The last record goes, and the keys stay.
use Rattle.std.proofs.Common.{◌==◌, ◌-◌, if◌then◌else◌, length, take, is_some, refl, ap, sym, ◌∙◌}
use Rattle.dom_observe.specs.{Watchers.queue_at, Watchers.records_at, Roster.queues_by}
use Rattle.dom_observe.proofs.{QueueListLemmas.records-shortened, RosterLemmas.has-kept, RosterLemmas.queue-there, RosterLemmas.keys-same, RosterLemmas.queues-set}
use Rattle.dom_observe.proofs.queue_record.remove_last.Goals as goal

pub get_mut-kept-requires : goal.get_mut-kept-requires
get_mut-kept-requires c = sym (has-kept c.args.roster.now c.new.result) ∙ ap (λ i. is_some (queue_at (queues_by c.args.roster.now) i)) c.new.ensures ∙ c.requires

pub returns-clause-keys : goal.returns-clause-keys
returns-clause-keys c = keys-same c.args.roster.now c.new.result c.get_mut-kept.result.now c.get_mut-kept.ensures.value (record c.get_mut-kept.result.now { queue = c.remove_last.new.self }) refl refl

pub returns-clause-left : goal.returns-clause-left
returns-clause-left c = λ p.
    let roster = c.args.roster.now in
    let kept = c.get_mut-kept.result.now in
    let at = queue-there roster c.new.result kept c.get_mut-kept.ensures.value in
    ap (λ qs. records_at qs p) (queues-set roster c.new.result (record kept { queue = c.remove_last.new.self }))
    ∙ records-shortened (queues_by roster) c.new.result kept.queue.records at c.remove_last.new.self.records c.remove_last.ensures p
    ∙ ap (λ i. if i == p then take (length (records_at (queues_by roster) p) - 1) (records_at (queues_by roster) p) else records_at (queues_by roster) p) c.new.ensures
