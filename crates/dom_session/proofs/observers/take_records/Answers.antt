use Rattle.std.proofs.Common.{◌≡◌, true, refl, is_some}
use Rattle.dom_observe.specs.Watchers.{queue_in}
use Rattle.dom_commands.specs.{declared.reply.Answer.TheVariants.Records, declared.reply.Reply.TheVariants.Done}
use Rattle.dom_session.proofs.ObserverSteps.{step-take}
use Rattle.dom_session.proofs.observers.take_records.Goals as goal

pub returns : goal.returns
returns c =
    let v = c.args.world.now in
    let there : is_some (queue_in v.observers c.args.observer) ≡ true = cc in
    record {
      step = λ b. step-take v c.requires.shown.shows.whole b c.args.observer c.take.result.items c.take.new.self (Done (Records c.take.result)) there refl
          c.take.ensures.records c.take.ensures.taken c.take.ensures.names;
    }
