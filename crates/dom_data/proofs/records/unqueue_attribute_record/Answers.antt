-- The record that was queued last is taken back.
use Rattle.std.proofs.Common.{sym, ap, subst}
use Rattle.dom_model.specs.Definitions.{ancestors, Mutation}
use Rattle.dom_observe.specs.{Undoing.IsQueued, Watchers.Watchers}
use Rattle.dom_data.proofs.records.unqueue_attribute_record.Goals as goal

pub returns : goal.returns
returns c older queued pending =
    let v = c.args.world.now in
    let own = subst (λ (m : Mutation). IsQueued (ancestors m.target v.tree.forest) m older v.observers) (sym c.attribute_change-mutation.ensures) queued in
    ap (λ (o : Watchers). record v { observers = o }) (c.unqueue.ensures.undone older own pending)
