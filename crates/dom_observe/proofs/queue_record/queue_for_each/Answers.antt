-- Each listener gets its record once.
use Rattle.std.proofs.Common.{◌≡◌, ℕ, ◌==◌, ◌++◌, Bool, true, false, if◌then◌else◌, List, Option, Some, None, take, nat_eq, refl, ap, sym, ◌∙◌, append-nil, arith, suc, ◌+◌, option_map, Bor, slice_get}
use Rattle.std.proofs.lemmas.List.{take_all}
use Rattle.std.specs.Map.{lookup, keys_of}
use Rattle.dom_model.specs.Definitions.{Mutation, Record}
use Rattle.dom_observe.specs.{Invariant.has_queue, Roster.queues_by, Interested.delivered, Watchers.records_at}
use Rattle.dom_observe.proofs.{InterestedLemmas.key-at, InterestedLemmas.lookup-next, InterestedLemmas.take-none, RosterLemmas.has-same, RosterLemmas.queues-alike, RegistrationTableLemmas.all_imply, queue_record.queue_for_each.Goals.in-Some+in_default-push_record_of, queue_record.queue_for_each.Goals.in_default}
use Rattle.dom_observe.proofs.queue_record.queue_for_each.Goals as goal

-- one more record, or none
one_more : (m : Mutation) (old here next : List Record) (asks b : Bool) (before after : Option Bool) → here ≡ old ++ delivered m before
    → next ≡ here ++ delivered m (if b then Some asks else None) → after ≡ (if b then Some asks else before) → (b ≡ true → before ≡ None) → next ≡ old ++ delivered m after
one_more m old here next asks true before after h n a fresh =
    n
    ∙ ap (λ rs. rs ++ delivered m (Some asks)) (h ∙ ap (λ v. old ++ delivered m v) (fresh refl) ∙ append-nil old)
    ∙ sym (ap (λ v. old ++ delivered m v) a)
one_more m old here next asks false before after h n a fresh = n ∙ append-nil here ∙ h ∙ sym (ap (λ v. old ++ delivered m v) a)

pub push_record_of-requires : goal.push_record_of-requires
push_record_of-requires c =
    let at : slice_get c.args.heard.now.entries c.loop-index.index ≡ Some (c.in-Some.observer.now, c.in-Some.asks.now) = sym c.in-Some.ensures.entry in
    let first = key-at (λ o. has_queue (queues_by c.args.roster.now) o ≡ true) c.args.heard.now.entries c.loop-index.index _ at c.requires.there in
    has-same c.args.roster.now c.loop-index.roster c.loop-index.invariant.keys c.in-Some.observer.now ∙ first

pub returns-clause-ok : goal.returns-clause-ok
returns-clause-ok c = λ p.
    let es = c.args.heard.now.entries in
    let whole = take_all c.loop-index.index es (omega (arith, c.loop-index-test.false, c.len-index-end.ensures.len)) in
    c.loop-index.invariant.told p ∙ ap (λ (k : List (ℕ × Bool)). records_at (queues_by c.args.roster.now) p ++ delivered c.args.mutation.now (lookup (nat_eq p) k)) whole

pub returns-in-Err-clause-err : goal.returns-in-Err-clause-err
returns-in-Err-clause-err c =
    let same = c.in-Err.ensures.err in
    queues-alike c.args.roster.now c.take_back.new.roster (c.take_back.ensures.keys ∙ c.push_record_of.ensures.keys ∙ c.loop-index.invariant.keys)
    (c.take_back.ensures.left c.args.mutation.now (λ p. records_at (queues_by c.args.roster.now) p) (λ p. ap (λ r. records_at (queues_by r) p) same ∙ c.loop-index.invariant.told p))

pub take_back-requires-clause-there : goal.take_back-requires-clause-there
take_back-requires-clause-there c =
    let keys = c.push_record_of.ensures.keys ∙ c.loop-index.invariant.keys in
    all_imply (λ o. has_queue (queues_by c.args.roster.now) o ≡ true) (λ o. has_queue (queues_by c.push_record_of.new.roster) o ≡ true) (λ o there. has-same c.args.roster.now c.push_record_of.new.roster keys o ∙ there) (keys_of c.args.heard.now.entries) c.requires.there

pub loop-index-preserved : goal.loop-index-preserved
loop-index-preserved c =
    let m = c.args.mutation.now in
    let es = c.args.heard.now.entries in
    let i = c.loop-index.index in
    let inv = c.loop-index.invariant in
    let next : i + 1 ≡ suc i = omega arith in
    elim c.match-get_index.branch [
      | in-Some+in_default-push_record_of w ↦
          let at : slice_get es i ≡ Some (w.in-Some.observer.now, w.in-Some.asks.now) = sym w.in-Some.ensures.entry in
          rw w.roster-is (record {
            keys = w.push_record_of.ensures.keys ∙ inv.keys;
            told = λ p.
                let n = lookup-next p es i (w.in-Some.observer.now, w.in-Some.asks.now) c.requires.unique at in
                one_more m _ _ _ w.in-Some.asks.now (w.in-Some.observer.now == p) (lookup (nat_eq p) (take i es)) (lookup (nat_eq p) (take (i + 1) es))
                (inv.told p) (w.in_default-push_record_of.ensures.told p) (ap (λ k. lookup (nat_eq p) (take k es)) next ∙ n.0) n.1;
          })
      | in_default w ↦
          let none : slice_get es i ≡ None = sym c.get_index.ensures.entry ∙ ap (option_map (λ (p : Bor ℕ × Bor Bool). (p.0.now, p.1.now))) w.in_default.is in
          let same_entries : take (i + 1) es ≡ take i es = ap (λ k. take k es) next ∙ take-none es i none in
          rw w.roster-is (record {
            keys = inv.keys;
            told = λ p. inv.told p ∙ sym (ap (λ k. records_at (queues_by c.args.roster.now) p ++ delivered m (lookup (nat_eq p) k)) same_entries);
          })
    ]
