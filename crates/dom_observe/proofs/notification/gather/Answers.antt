-- The next pending observer is told what waits for it.
use Rattle.std.proofs.Common.{◌≡◌, suc, ◌+◌, ◌==◌, [], Bool, true, false, if◌then◌else◌, List, Some, None, length, filter, map, take, refl, ap, sym, ◌∙◌, arith, option_copied, nat_eq, tests, rules, slice_get}
use Rattle.std.proofs.lemmas.List.{take_all}
use Rattle.std.specs.List.{IsDistinct, list_any}
use Rattle.dom_model.specs.Definitions.{among, Record, has_records, nodes_of_record}
use Rattle.dom_observe.specs.{Invariant.has_queue, Notification.notification_for, Roster.queues_by, Watchers.records_at}
use Rattle.dom_observe.proofs.{LeftByLemmas.at-get, RosterLemmas.has-same, GatherLemmas.told-some, GatherLemmas.told-none, GatherLemmas.left-next, InterestedLemmas.take-none, NamedNodesLemmas.tells-left, notification.gather.Goals.in-Some+then-not-is_empty, notification.gather.Goals.in-Some+else-not-is_empty, notification.gather.Goals.in_default}
use Rattle.dom_observe.proofs.notification.gather.Goals as goal

-- the next pending observer is still there
pub take_from-records-requires : goal.take_from-records-requires
take_from-records-requires c =
    let next : slice_get c.args.pending.now.keys c.loop-index.index ≡ Some c.in-Some.observer.now = sym c.get_index.ensures.key ∙ ap option_copied c.in-Some.is in
    has-same c.args.roster.now c.loop-index.roster c.loop-index.invariant.keys c.in-Some.observer.now
    ∙ at-get (λ o. has_queue (queues_by c.args.roster.now) o ≡ true) c.args.pending.now.keys c.loop-index.index c.in-Some.observer.now c.requires next

pub push_reserved-requires : goal.push_reserved-requires
push_reserved-requires c = omega (arith, c.loop-index.invariant.many, c.loop-index.invariant.room, c.loop-index-test.true, c.len-index-end.ensures.len)

pub loop-index-preserved : goal.loop-index-preserved
loop-index-preserved c =
    let keys = c.args.pending.now.keys in
    let i = c.loop-index.index in
    let inv = c.loop-index.invariant in
    let qs0 = queues_by c.args.roster.now in
    let qs = queues_by c.loop-index.roster in
    let unique : IsDistinct nat_eq keys = c.len-index-end.ensures.unique in
    let next : i + 1 ≡ suc i = omega arith in
    elim c.match-get_index.branch [
      | in-Some+then-not-is_empty w ↦
          let o = w.in-Some.observer.now in
          let at : slice_get keys i ≡ Some o = sym c.get_index.ensures.key ∙ ap option_copied w.in-Some.is in
          let there = has-same c.args.roster.now c.loop-index.roster inv.keys o ∙ at-get (λ p. has_queue qs0 p ≡ true) keys i o c.requires at in
          let some : (length w.take_from-records.result.items == 0) ≡ false = ap (λ l. l == 0) (sym w.take_from-records.result.ok.0) ∙ sym w.is_empty.ensures ∙ w.if-not-is_empty.true in
          let left = left-next qs0 qs (queues_by w.take_from-records.new.roster) keys i o at unique there inv.left w.take_from-records.ensures.emptied in
          let told = told-some qs0 qs (queues_by w.take_from-records.new.roster) keys i o at unique there inv.left w.take_from-records.ensures.emptied w.take_from-records.result.items w.take_from-records.ensures.records some c.loop-index.told.items inv.told in
          rw (w.roster-is, w.told-is) (record {
            keys = w.take_from-records.ensures.keys ∙ inv.keys;
            told = w.push_reserved.ensures.items ∙ told ∙ ap (λ j. filter has_records (map (notification_for qs0) (take j keys))) (sym next);
            left = λ p. left p ∙ ap (λ j. if among p (take j keys) then [] else records_at qs0 p) (sym next);
            many = omega (arith, inv.many, w.push_reserved.ensures.len);
            room = omega (arith, inv.room, w.push_reserved.ensures.capacity);
          })
      | in-Some+else-not-is_empty w ↦
          let o = w.in-Some.observer.now in
          let at : slice_get keys i ≡ Some o = sym c.get_index.ensures.key ∙ ap option_copied w.in-Some.is in
          let there = has-same c.args.roster.now c.loop-index.roster inv.keys o ∙ at-get (λ p. has_queue qs0 p ≡ true) keys i o c.requires at in
          let none : (length w.take_from-records.result.items == 0) ≡ true = ap (λ l. l == 0) (sym w.take_from-records.result.ok.0) ∙ sym w.is_empty.ensures ∙ w.if-not-is_empty.false in
          let left = left-next qs0 qs (queues_by w.take_from-records.new.roster) keys i o at unique there inv.left w.take_from-records.ensures.emptied in
          let told = told-none qs0 qs (queues_by w.take_from-records.new.roster) keys i o at unique there inv.left w.take_from-records.ensures.emptied w.take_from-records.result.items w.take_from-records.ensures.records none in
          rw (w.roster-is, w.told-is) (record {
            keys = w.take_from-records.ensures.keys ∙ inv.keys;
            told = inv.told ∙ told ∙ ap (λ j. filter has_records (map (notification_for qs0) (take j keys))) (sym next);
            left = λ p. left p ∙ ap (λ j. if among p (take j keys) then [] else records_at qs0 p) (sym next);
            many = omega (arith, inv.many);
            room = inv.room;
          })
      | in_default w ↦
          let none : slice_get keys i ≡ None = sym c.get_index.ensures.key ∙ ap option_copied w.in_default.is in
          let same_keys : take i keys ≡ take (i + 1) keys = sym (ap (λ j. take j keys) next ∙ take-none keys i none) in
          rw (w.roster-is, w.told-is) (record {
            keys = inv.keys;
            told = inv.told ∙ ap (λ ks. filter has_records (map (notification_for qs0) ks)) same_keys;
            left = λ p. inv.left p ∙ ap (λ ks. if among p ks then [] else records_at qs0 p) same_keys;
            many = omega (arith, inv.many);
            room = inv.room;
          })
    ]

pub returns-clause-told : goal.returns-clause-told
returns-clause-told c =
    let whole = take_all c.loop-index.index c.args.pending.now.keys (omega (arith, c.loop-index-test.false, c.len-index-end.ensures.len)) in
    c.loop-index.invariant.told ∙ ap (λ ks. filter has_records (map (notification_for (queues_by c.args.roster.now)) ks)) whole

pub returns-clause-emptied : goal.returns-clause-emptied
returns-clause-emptied c = λ p.
    let whole = take_all c.loop-index.index c.args.pending.now.keys (omega (arith, c.loop-index-test.false, c.len-index-end.ensures.len)) in
    c.loop-index.invariant.left p ∙ ap (λ b. if b then [] else records_at (queues_by c.args.roster.now) p) (ap (among p) whole)

-- what was empty is empty
left_empty : (b : Bool) (rs : List Record) → rs ≡ [] → (if b then [] else rs) ≡ []
left_empty true rs e = refl
left_empty false rs e = e

pub returns-clause-empty : goal.returns-clause-empty
returns-clause-empty c = λ p e. c.loop-index.invariant.left p ∙ left_empty (among p (take c.loop-index.index c.args.pending.now.keys)) (records_at (queues_by c.args.roster.now) p) e

pub returns-clause-keys : goal.returns-clause-keys
returns-clause-keys c = search (tests, rules)

pub returns-clause-names : goal.returns-clause-names
returns-clause-names c = λ p none o.
    ap (list_any (λ r. list_any p (nodes_of_record r))) (c.loop-index.invariant.left o)
    ∙ tells-left p (among o (take c.loop-index.index c.args.pending.now.keys)) (records_at (queues_by c.args.roster.now) o) (none o)
