-- Each observer is pending once.
use Rattle.std.proofs.Common.{◌≡◌, ℕ, suc, ◌+◌, ◌==◌, ◌&&◌, true, if◌then◌else◌, Some, List, take, length, slice_get, ap, sym, ◌∙◌, arith}
use Rattle.std.proofs.lemmas.{List.take_all, Option.slice_get-get_or}
use Rattle.dom_model.specs.Definitions.{among, ancestors}
use Rattle.dom_observe.specs.{Names.given_name, Registrations.at, Roster.queues_by, Roster.is_there, Undoing.hears_at, Watchers.records_at}
use Rattle.dom_observe.proofs.{LeftByLemmas.at-get, RosterLemmas.has-same, UndoingLemmas.shorter, UndoingLemmas.among-next, UndoingLemmas.one_shorter, UndoingLemmas.none_shorter, undoing.take_back_each.Goals.then-is_interested, undoing.take_back_each.Goals.else-is_interested}
use Rattle.dom_observe.proofs.undoing.take_back_each.Goals as goal

pub remove_last-requires : goal.remove_last-requires
remove_last-requires g c =
    let items = c.as_slice-observer-items.result.now in
    let i = c.loop-observer.observer-index in
    let o = c.observer-item.result in
    let at : slice_get items i ≡ Some o = slice_get-get_or items i o c.loop-observer-test.true ∙ ap Some (sym c.observer-item.is) in
    let listed = ap (λ l. slice_get l i) (sym c.as_slice-observer-items.ensures.keys) ∙ at in
    has-same c.args.roster.now c.loop-observer.roster c.loop-observer.invariant.keys c.number.result
    ∙ ap (is_there c.args.roster.now) c.number.ensures
    ∙ at-get (λ p. is_there c.args.roster.now p ≡ true) c.args.pending.now.keys i o c.requires.there listed

pub loop-observer-preserved : goal.loop-observer-preserved
loop-observer-preserved g c =
    let q = c.args.question.now in
    let hears = λ (p : ℕ). hears_at (at c.args.registrations.now) c.args.registrations.now.lists q.what q.target (given_name q.name) (ancestors q.target c.args.tree.now.forest) p in
    let ks = c.args.pending.now.keys in
    let items = c.as_slice-observer-items.result.now in
    let i = c.loop-observer.observer-index in
    let o = c.observer-item.result in
    let inv = c.loop-observer.invariant in
    let at : slice_get items i ≡ Some o = slice_get-get_or items i o c.loop-observer-test.true ∙ ap Some (sym c.observer-item.is) in
    let listed = ap (λ l. slice_get l i) (sym c.as_slice-observer-items.ensures.keys) ∙ at in
    let next : i + 1 ≡ suc i = omega arith in
    let old = λ (p : ℕ). records_at (queues_by c.args.roster.now) p in
    let here = λ (p : ℕ). records_at (queues_by c.loop-observer.roster) p in
    elim c.if-is_interested.branch [
      | then-is_interested w ↦
          rw w.roster-is (record {
            keys = w.remove_last.ensures.keys ∙ inv.keys;
            left = λ p.
                let n = among-next p ks i o c.as_slice-observer-items.ensures.unique listed in
                one_shorter hears p o (old p) (here p) (records_at (queues_by w.remove_last.new.roster) p) (among p (take i ks)) (among p (take (i + 1) ks)) (inv.left p) (ap (λ j. among p (take j ks)) next ∙ n.0) n.1
                (sym c.is_interested.ensures ∙ w.if-is_interested.true) (w.remove_last.ensures.left p ∙ ap (λ k. if k == p then shorter (here p) else here p) w.number.ensures);
          })
      | else-is_interested w ↦
          rw w.roster-is (record {
            keys = inv.keys;
            left = λ p.
                let n = among-next p ks i o c.as_slice-observer-items.ensures.unique listed in
                none_shorter hears p o (old p) (here p) (here p) (among p (take i ks)) (among p (take (i + 1) ks)) (inv.left p) (ap (λ j. among p (take j ks)) next ∙ n.0) n.1
                (sym c.is_interested.ensures ∙ w.if-is_interested.false);
          })
    ]

pub returns-clause-left : goal.returns-clause-left
returns-clause-left g c = λ p.
    let q = c.args.question.now in
    let old = records_at (queues_by c.args.roster.now) p in
    let whole = take_all c.loop-observer.observer-index c.args.pending.now.keys (omega (arith, c.loop-observer-test.false, ap length c.as_slice-observer-items.ensures.keys)) in
    c.loop-observer.invariant.left p
    ∙ ap (λ (ks : List ℕ). if among p ks && hears_at (at c.args.registrations.now) c.args.registrations.now.lists q.what q.target (given_name q.name) (ancestors q.target c.args.tree.now.forest) p then shorter old else old) whole
