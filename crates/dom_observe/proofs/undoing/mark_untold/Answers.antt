-- The next observer comes last.
use Rattle.std.proofs.Common.{◌≡◌, suc, ◌+◌, ◌∷◌, drop, ap, sym, ◌∙◌, arith, drop-cons, add-one, drop_of_length-le}
use Rattle.dom_model.specs.Definitions.{with_all_last}
use Rattle.dom_observe.proofs.undoing.mark_untold.Goals as goal

pub loop-observer-preserved : goal.loop-observer-preserved
loop-observer-preserved c =
    let os = c.args.observers.now in
    let i = c.loop-observer.observer-index in
    let o = c.observer-item.result in
    let next : drop i os ≡ o ∷ drop (i + 1) os = rw (add-one, drop-cons os i o c.loop-observer-test.true) (ap (λ s. s ∷ drop (suc i) os) (sym c.observer-item.is)) in
    record {
      keys = ap (λ ks. with_all_last ks (drop (i + 1) os)) c.mark_pending_reserved.ensures.keys ∙ sym (ap (with_all_last c.loop-observer.untold.keys) next) ∙ c.loop-observer.invariant.keys;
      room = omega (arith, c.loop-observer.invariant.room, c.mark_pending_reserved.ensures.room);
    }

pub returns-clause-keys : goal.returns-clause-keys
returns-clause-keys c = sym (ap (with_all_last c.loop-observer.untold.keys) (drop_of_length-le c.args.observers.now (omega (arith, c.loop-observer-test.false)))) ∙ c.loop-observer.invariant.keys
