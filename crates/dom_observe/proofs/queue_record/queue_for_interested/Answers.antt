-- One listener alone, or each of them, gets a record and is pending.
use Rattle.std.proofs.Common.{◌≡◌, ℕ, ◌==◌, ◌++◌, [], Bool, true, if◌then◌else◌, Some, None, ap, sym, ◌∙◌, subst, append-nil, arith, length}
use Rattle.std.specs.{List.list_any, Map.keys_of}
use Rattle.indexmap.specs.IndexSet.{spare}
use Rattle.dom_model.specs.Definitions.{among, with_all_last, nodes_of_record}
use Rattle.dom_observe.specs.{Invariant.AllThere, Names.given_name, Registrations.at, Roster.queues_by, Roster.is_there, Roster.records_of, Interested.listeners, Interested.flag_of, Interested.delivered, Watchers.records_at}
use Rattle.dom_observe.proofs.{NamedNodesLemmas.tells-delivered, ResultLemmas.on_ok, ResultLemmas.on_err, ResultLemmas.by_one, ResultLemmas.by_both, QueueRecordLemmas.unheard, InterestedLemmas.stay-last, InterestedLemmas.stay-all_last, InterestedLemmas.there-last, InterestedLemmas.there-all_last, InterestedLemmas.all_last-twice, UndoingLemmas.long-listeners, UndoingLemmas.room-queued}
use Rattle.dom_observe.proofs.queue_record.queue_for_interested.Goals as goal

pub queue_for_one-requires : goal.queue_for_one-requires
queue_for_one-requires c = c.in-Some.ensures.known (is_there c.args.roster.now) c.requires

pub returns-in-Some-clause-stay : goal.returns-in-Some-clause-stay
returns-in-Some-clause-stay c = λ p h.
    by_one c.queue_for_one.result c.queue_for_one.ensures.pending c.queue_for_one.ensures.err_pending
    (λ pended. subst (λ ks. among p ks ≡ true) (sym pended) (stay-last p c.in-Some.listener.0 c.args.pending.now.keys h))
    (λ same. subst (λ ks. among p ks ≡ true) (sym same) h)

pub returns-in-Some-clause-there : goal.returns-in-Some-clause-there
returns-in-Some-clause-there c = λ p s b.
    by_one c.queue_for_one.result c.queue_for_one.ensures.pending c.queue_for_one.ensures.err_pending
    (λ pended. subst (AllThere p) (sym pended) (there-last p c.in-Some.listener.0 c.args.pending.now.keys b (c.in-Some.ensures.known p s)))
    (λ same. subst (AllThere p) (sym same) b)

pub returns-in-Some-clause-others : goal.returns-in-Some-clause-others
returns-in-Some-clause-others c = λ p off.
    let q = c.question-question.result in
    let l : ℕ × Bool = c.in-Some.listener in
    let ls = listeners (at c.args.registrations.now) q.what q.target (given_name q.name) c.args.standing.now in
    let old = records_of c.args.roster.now p in
    by_both c.queue_for_one.result c.queue_for_one.ensures.told c.queue_for_one.ensures.pending c.queue_for_one.ensures.err
    (λ told pended.
    told p
    ∙ ap (λ v. old ++ delivered c.args.mutation.now v) (sym (c.in-Some.ensures.only.flags p) ∙ unheard p ls c.args.pending.now.keys c.queue_for_one.new.pending.keys (pended ∙ sym (c.in-Some.ensures.only.pends c.args.pending.now.keys)) off)
    ∙ append-nil old)
    (λ same. ap (λ r. records_of r p) same)

pub returns-in-Some-clause-err : goal.returns-in-Some-clause-err
returns-in-Some-clause-err c = on_err c.queue_for_one.result c.queue_for_one.ensures.err (λ same. ap queues_by same)

-- records of those who have theirs name nothing else
pub returns-in-Some-clause-names : goal.returns-in-Some-clause-names
returns-in-Some-clause-names c = λ p nameless none o.
    let l : ℕ × Bool = c.in-Some.listener in
    let old = records_at (queues_by c.args.roster.now) o in
    by_one c.queue_for_one.result c.queue_for_one.ensures.told c.queue_for_one.ensures.err
    (λ told. ap (list_any (λ r. list_any p (nodes_of_record r))) (told o) ∙ tells-delivered p c.args.mutation.now (if l.0 == o then Some l.1 else None) old nameless (none o))
    (λ same. ap (λ r. list_any (λ r. list_any p (nodes_of_record r)) (records_at (queues_by r) o)) same ∙ none o)

pub queue_for_several-requires-clause-there : goal.queue_for_several-requires-clause-there
queue_for_several-requires-clause-there c = c.in_ok-heard.ensures.known (is_there c.args.roster.now) c.requires

pub returns-clause-pending : goal.returns-clause-pending
returns-clause-pending c =
    let q = c.question-question.result in
    let u = at c.args.registrations.now in
    let ks = keys_of (listeners u q.what q.target (given_name q.name) c.args.standing.now) in
    let asked = c.question-question.ensures in
    on_ok c.queue_for_several.result c.queue_for_several.ensures.pending (λ pended.
    pended
    ∙ ap (with_all_last c.args.pending.now.keys) c.in_ok-heard.ensures.order
    ∙ all_last-twice c.args.pending.now.keys [] ks
    ∙ (λ i. with_all_last c.args.pending.now.keys (keys_of (listeners u (asked.what i) (asked.target i) (asked.name i) c.args.standing.now))))

pub returns-clause-stay : goal.returns-clause-stay
returns-clause-stay c = λ p h.
    by_one c.queue_for_several.result c.queue_for_several.ensures.pending c.queue_for_several.ensures.err_pending
    (λ pended. subst (λ ks. among p ks ≡ true) (sym pended) (stay-all_last p c.args.pending.now.keys (keys_of c.in_ok-heard.heard.entries) h))
    (λ same. subst (λ ks. among p ks ≡ true) (sym same) h)

pub returns-clause-there : goal.returns-clause-there
returns-clause-there c = λ p s b.
    by_one c.queue_for_several.result c.queue_for_several.ensures.pending c.queue_for_several.ensures.err_pending
    (λ pended. subst (AllThere p) (sym pended) (there-all_last p c.args.pending.now.keys (keys_of c.in_ok-heard.heard.entries) b (c.in_ok-heard.ensures.known p s)))
    (λ same. subst (AllThere p) (sym same) b)

pub returns-clause-others : goal.returns-clause-others
returns-clause-others c = λ p off.
    let q = c.question-question.result in
    let ls = listeners (at c.args.registrations.now) q.what q.target (given_name q.name) c.args.standing.now in
    let old = records_of c.args.roster.now p in
    by_both c.queue_for_several.result c.queue_for_several.ensures.told c.queue_for_several.ensures.pending c.queue_for_several.ensures.err
    (λ told pended.
    let ordered = pended ∙ ap (with_all_last c.args.pending.now.keys) c.in_ok-heard.ensures.order ∙ all_last-twice c.args.pending.now.keys [] (keys_of ls) in
    told p
    ∙ ap (λ v. old ++ delivered c.args.mutation.now v) (c.in_ok-heard.ensures.heard p ∙ unheard p ls c.args.pending.now.keys c.queue_for_several.new.pending.keys ordered off)
    ∙ append-nil old)
    (λ same. ap (λ qs. records_at qs p) same)

pub returns-clause-names : goal.returns-clause-names
returns-clause-names c = λ p nameless none o.
    let q = c.question-question.result in
    let ls = listeners (at c.args.registrations.now) q.what q.target (given_name q.name) c.args.standing.now in
    let old = records_at (queues_by c.args.roster.now) o in
    by_one c.queue_for_several.result c.queue_for_several.ensures.told c.queue_for_several.ensures.err
    (λ told. ap (list_any (λ r. list_any p (nodes_of_record r))) (told o ∙ ap (λ v. old ++ delivered c.args.mutation.now v) (c.in_ok-heard.ensures.heard o)) ∙ tells-delivered p c.args.mutation.now (flag_of o ls) old nameless (none o))
    (λ same. ap (λ qs. list_any (λ r. list_any p (nodes_of_record r)) (records_at qs o)) same ∙ none o)

-- and there is room for them

pub returns-in-Some-clause-room : goal.returns-in-Some-clause-room
returns-in-Some-clause-room c = λ had.
    let q = c.question-question.result in
    let u = at c.args.registrations.now in
    let ls = listeners u q.what q.target (given_name q.name) c.args.standing.now in
    let old = c.args.pending.now.keys in
    by_one c.queue_for_one.result c.queue_for_one.ensures.pending c.queue_for_one.ensures.err_pending
    (λ pended.
    room-queued old c.queue_for_one.new.pending.keys (keys_of ls) c.args.standing.now (spare c.reserve.new.self)
    (pended ∙ sym (c.in-Some.ensures.only.pends old)) (long-listeners u q.what q.target (given_name q.name) c.args.standing.now)
    (omega (arith, c.in_ok-reserve.ensures.ok, c.len.ensures.len)))
    (λ same. omega (arith, ap length same, c.reserve.ensures.room.0, had))

pub returns-clause-room : goal.returns-clause-room
returns-clause-room c = λ had.
    let q = c.question-question.result in
    let u = at c.args.registrations.now in
    let ls = listeners u q.what q.target (given_name q.name) c.args.standing.now in
    let old = c.args.pending.now.keys in
    by_one c.queue_for_several.result c.queue_for_several.ensures.pending c.queue_for_several.ensures.err_pending
    (λ pended.
    room-queued old c.queue_for_several.new.pending.keys (keys_of ls) c.args.standing.now (spare c.reserve.new.self)
    (pended ∙ ap (with_all_last old) c.in_ok-heard.ensures.order ∙ all_last-twice old [] (keys_of ls)) (long-listeners u q.what q.target (given_name q.name) c.args.standing.now)
    (omega (arith, c.in_ok-reserve.ensures.ok, c.len.ensures.len)))
    (λ same. omega (arith, ap length same, c.reserve.ensures.room.0, had))
