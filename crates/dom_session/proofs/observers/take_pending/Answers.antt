use Rattle.std.proofs.Common.{refl}
use Rattle.dom_commands.specs.{declared.reply.Answer.TheVariants.Numbers, declared.reply.Reply.TheVariants.Done}
use Rattle.dom_session.proofs.ObserverSteps.{step-take_pending}
use Rattle.dom_session.proofs.observers.take_pending.Goals as goal

pub returns : goal.returns
returns c = record {
  step = λ b. step-take_pending c.args.world.now c.requires.shown.shows.whole b c.in_ok-numbers.numbers.items c.take_pending.new.self (Done (Numbers c.in_ok-numbers.numbers)) refl
      c.in_ok-numbers.ensures c.in_ok-take_pending.ensures.taken c.take_pending.ensures.names;
  unchanged = tt;
  left = tt;
}
