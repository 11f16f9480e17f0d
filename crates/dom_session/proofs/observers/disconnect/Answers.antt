use Rattle.std.proofs.Common.{◌≡◌, true, refl, is_some}
use Rattle.dom_observe.specs.Watchers.{queue_in}
use Rattle.dom_commands.specs.{declared.brief.Brief.TheVariants.Nothing, declared.reply.Reply.TheVariants.Brief}
use Rattle.dom_session.proofs.ObserverSteps.{step-disconnect}
use Rattle.dom_session.proofs.observers.disconnect.Goals as goal

pub returns : goal.returns
returns c =
    let v = c.args.world.now in
    let there : is_some (queue_in v.observers c.args.observer) ≡ true = cc in
    record {
      step = λ b. step-disconnect v c.requires.shown.shows.whole b c.args.observer c.disconnect.new.self (Brief Nothing) there refl c.disconnect.ensures.ended c.disconnect.ensures.names;
    }
