-- Each listener loses its record once.
use Rattle.std.proofs.Common.{◌≡◌, ℕ, ◌-◌, ◌==◌, ◌++◌, Bool, true, false, if◌then◌else◌, List, Option, Some, None, length, take, nat_eq, refl, ap, sym, ◌∙◌, append-nil, arith, suc, option_map, Bor, slice_get}
use Rattle.std.specs.Map.{lookup}
use Rattle.dom_model.specs.Definitions.{Mutation, Record, record_with}
use Rattle.dom_observe.specs.{Invariant.has_queue, Roster.queues_by, Interested.delivered, Watchers.records_at}
use Rattle.dom_observe.proofs.{InterestedLemmas.key-at, InterestedLemmas.lookup-next, InterestedLemmas.take-none, RosterLemmas.has-same, UndoingLemmas.without-last}
use Rattle.dom_observe.proofs.queue_record.take_back.Goals as goal

-- one record less, or none
one_less : (m : Mutation) (before here next : List Record) (asks b : Bool) (told rest : Option Bool) → here ≡ before ++ delivered m told → next ≡ (if b then take (length here - 1) here else here)
    → told ≡ (if b then Some asks else rest) → (b ≡ true → rest ≡ None) → next ≡ before ++ delivered m rest
one_less m before here next asks true told rest h n t fresh =
    n
    ∙ ap (λ (rs : List Record). take (length rs - 1) rs) (h ∙ ap (λ v. before ++ delivered m v) t)
    ∙ without-last before (record_with m (if asks then m.old_value else None))
    ∙ sym (ap (λ v. before ++ delivered m v) (fresh refl) ∙ append-nil before)
one_less m before here next asks false told rest h n t fresh = n ∙ h ∙ ap (λ v. before ++ delivered m v) t

pub remove_last-requires : goal.remove_last-requires
remove_last-requires c =
    has-same c.args.roster.now c.loop-left.roster c.loop-left.invariant.keys c.in-Some.observer.now
    ∙ key-at (λ o. has_queue (queues_by c.args.roster.now) o ≡ true) c.args.heard.now.entries (c.loop-left.left - 1) _ (sym c.in-Some.ensures.entry) c.requires.there

pub loop-left-preserved-in-Some : goal.loop-left-preserved-in-Some
loop-left-preserved-in-Some c =
    let es = c.args.heard.now.entries in
    let i = c.loop-left.left - 1 in
    let next : suc i ≡ c.loop-left.left = omega (arith, c.loop-left-test.true) in
    let at : slice_get es i ≡ Some (c.in-Some.observer.now, c.in-Some.field-0-1.now) = sym c.in-Some.ensures.entry in
    record {
      keys = c.remove_last.ensures.keys ∙ c.loop-left.invariant.keys;
      left = λ m before told p.
          let n = lookup-next p es i _ c.requires.unique at in
          one_less m (before p) (records_at (queues_by c.loop-left.roster) p) (records_at (queues_by c.remove_last.new.roster) p) c.in-Some.field-0-1.now (c.in-Some.observer.now == p)
          (lookup (nat_eq p) (take c.loop-left.left es)) (lookup (nat_eq p) (take i es))
          (c.loop-left.invariant.left m before told p) (c.remove_last.ensures.left p) (ap (λ (j : ℕ). lookup (nat_eq p) (take j es)) (sym next) ∙ n.0) n.1;
    }

pub loop-left-preserved : goal.loop-left-preserved
loop-left-preserved c =
    let es = c.args.heard.now.entries in
    let i = c.loop-left.left - 1 in
    let next : suc i ≡ c.loop-left.left = omega (arith, c.loop-left-test.true) in
    let none : slice_get es i ≡ None = sym c.get_index.ensures.entry ∙ ap (option_map (λ (p : Bor ℕ × Bor Bool). (p.0.now, p.1.now))) c.in_default.is in
    let same_entries : take c.loop-left.left es ≡ take i es = ap (λ (j : ℕ). take j es) (sym next) ∙ take-none es i none in
    record {
      keys = c.loop-left.invariant.keys;
      left = λ m before told p. c.loop-left.invariant.left m before told p ∙ ap (λ k. before p ++ delivered m (lookup (nat_eq p) k)) same_entries;
    }

pub returns-clause-left : goal.returns-clause-left
returns-clause-left c = λ m before told p.
    let es = c.args.heard.now.entries in
    let none : c.loop-left.left ≡ 0 = omega (arith, c.loop-left-test.false) in
    c.loop-left.invariant.left m before told p
    ∙ ap (λ (j : ℕ). before p ++ delivered m (lookup (nat_eq p) (take j es))) none
    ∙ append-nil (before p)
