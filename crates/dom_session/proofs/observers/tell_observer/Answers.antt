use Rattle.std.proofs.Common.{◌≡◌, true, refl, is_some}
use Rattle.dom_observe.specs.Watchers.{queue_in}
use Rattle.dom_commands.specs.{declared.reply.Answer.TheVariants.Records, declared.reply.Reply.TheVariants.Done}
use Rattle.dom_session.proofs.ObserverSteps.{step-tell_observer}
use Rattle.dom_session.proofs.observers.tell_observer.Goals as goal

pub returns : goal.returns
returns c =
    let v = c.args.world.now in
    let there : is_some (queue_in v.observers c.args.observer) ≡ true = cc in
    record {
      step = λ b. step-tell_observer v c.requires.shown.shows.whole b c.args.observer c.notify_one.result.items c.notify_one.new.self (Done (Records c.notify_one.result)) there refl
          c.notify_one.ensures.records c.notify_one.ensures.told c.notify_one.ensures.names;
    }
