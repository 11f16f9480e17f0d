use Rattle.std.proofs.Common.{refl}
use Rattle.dom_commands.specs.{declared.reply.Answer.TheVariants.Notified, declared.reply.Reply.TheVariants.Done}
use Rattle.dom_session.proofs.ObserverSteps.{step-notify}
use Rattle.dom_session.proofs.observers.notify.Goals as goal

pub returns : goal.returns
returns c = record {
  step = λ b. step-notify c.args.world.now c.requires.shown.shows.whole b c.in_ok-told.told.items c.notify.new.self (Done (Notified c.in_ok-told.told)) refl
      c.in_ok-told.ensures.told c.in_ok-told.ensures.after c.notify.ensures.names;
  unchanged = tt;
  left = tt;
}
