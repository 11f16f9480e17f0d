use Rattle.std.proofs.Common.{◌≡◌, ◌+◌, nat_lt, length, false, ap, ◌∙◌, arith}
use Rattle.std.proofs.lemmas.Bool.Decides.{nat_tests}
use Rattle.dom_model.specs.Commands.Reply as model_reply
use Rattle.dom_commands.specs.{declared.brief.Brief.TheVariants.Number, declared.reply.Reply.TheVariants.Brief}
use Rattle.dom_session.specs.{AnswerBounds.numbered}
use Rattle.dom_session.proofs.ObserverSteps.{step-create}
use Rattle.dom_session.proofs.observers.create_observer.Goals as goal

pub returns : goal.returns
returns c =
    let v = c.args.world.now in
    let room : nat_lt c.args.numbers (length v.observers.queues + 1) ≡ false = grind (arith, nat_tests) in
    let number : c.number.result ≡ length v.observers.queues = c.number.ensures ∙ c.in_ok-id.ensures.number in
    record {
      step = step-create v c.requires.shown.shows.whole (numbered c.args.numbers) c.make.new.self (Brief (Number c.number.result)) room (ap (λ k. model_reply.Done (model_reply.Number k)) number)
          c.in_ok-id.ensures.ok c.make.ensures.names;
      left = tt;
      unchanged = tt;
    }
