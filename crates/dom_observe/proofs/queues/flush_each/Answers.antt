-- Each observer is there.
use Rattle.std.proofs.Common.{◌≡◌, true, Some, slice_get, refl, ap, sym, ◌∙◌}
use Rattle.std.proofs.lemmas.Option.{slice_get-get_or}
use Rattle.dom_observe.specs.{Invariant.has_queue, Roster.is_there}
use Rattle.dom_observe.proofs.{LeftByLemmas.at-get, RosterLemmas.has-kept, RosterLemmas.keys-same, RosterLemmas.queues-same}
use Rattle.dom_observe.proofs.queues.flush_each.Goals as goal

pub get_mut-kept-requires : goal.get_mut-kept-requires
get_mut-kept-requires c =
    let items = c.as_slice-observer-items.result.now in
    let i = c.loop-observer.observer-index in
    let o = c.observer-item.result in
    let at : slice_get items i ≡ Some o = slice_get-get_or items i o c.loop-observer-test.true ∙ ap Some (sym c.observer-item.is) in
    let listed = ap (λ l. slice_get l i) (sym c.as_slice-observer-items.ensures.keys) ∙ at in
    sym (has-kept c.loop-observer.roster o)
    ∙ ap (λ qs. has_queue qs o) c.loop-observer.invariant.queues
    ∙ at-get (λ p. is_there c.args.roster.now p ≡ true) c.args.observers.now.keys i o c.requires listed

pub loop-observer-preserved : goal.loop-observer-preserved
loop-observer-preserved c =
    let kept = c.get_mut-kept.result.now in
    let o = c.observer-item.result in
    record {
      queues = queues-same c.loop-observer.roster o kept c.get_mut-kept.ensures.value (record kept { queue = c.flush_pending.new.self }) c.flush_pending.ensures ∙ c.loop-observer.invariant.queues;
      keys = keys-same c.loop-observer.roster o kept c.get_mut-kept.ensures.value (record kept { queue = c.flush_pending.new.self }) refl refl ∙ c.loop-observer.invariant.keys;
    }
