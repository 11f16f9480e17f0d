-- The next observer comes last.
use Rattle.std.proofs.Common.{◌≡◌, ℕ, ◌+◌, suc, Bool, None, take, ap, sym, ◌∙◌, arith, option_map, Bor, slice_get}
use Rattle.std.specs.Map.{keys_of}
use Rattle.dom_model.specs.Definitions.{with_last, with_all_last}
use Rattle.dom_observe.proofs.{InterestedLemmas.keys-next, InterestedLemmas.take-none, InterestedLemmas.all_last-append, queue_record.mark_each.Goals.in-Some, queue_record.mark_each.Goals.in_default}
use Rattle.dom_observe.proofs.queue_record.mark_each.Goals as goal

pub loop-index-preserved : goal.loop-index-preserved
loop-index-preserved c =
    let es = c.args.heard.now.entries in
    let i = c.loop-index.index in
    let inv = c.loop-index.invariant in
    let ks = c.args.pending.now.keys in
    let next : i + 1 ≡ suc i = omega arith in
    elim c.match-get_index.branch [
      | in-Some w ↦
          rw w.pending-is (record {
            keys = w.mark_pending_reserved.ensures.keys
                ∙ ap (with_last c.loop-index.pending.keys) w.new.ensures
                ∙ ap (λ ps. with_last ps w.in-Some.observer.now) inv.keys
                ∙ sym (ap (λ j. with_all_last ks (keys_of (take j es))) next
                ∙ ap (with_all_last ks) (keys-next es i _ (sym w.in-Some.ensures.entry))
                ∙ all_last-append ks (keys_of (take i es)) w.in-Some.observer.now);
            room = omega (arith, inv.room, w.mark_pending_reserved.ensures.room);
          })
      | in_default w ↦
          let none : slice_get es i ≡ None = sym c.get_index.ensures.entry ∙ ap (option_map (λ (p : Bor ℕ × Bor Bool). (p.0.now, p.1.now))) w.in_default.is in
          rw w.pending-is (record {
            keys = inv.keys ∙ sym (ap (λ k. with_all_last ks (keys_of k)) (ap (λ k. take k es) next ∙ take-none es i none));
            room = omega (arith, inv.room);
          })
    ]
