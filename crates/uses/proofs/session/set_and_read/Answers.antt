use Rattle.std.proofs.Common.{◌≡◌, subst}
use Rattle.dom_model.specs.Definitions.{SetData, GetData, answer}
use Rattle.dom_commands.specs.{Views.reply_view}
use Rattle.dom_session.specs.{SessionViews.StandsFor}
use Rattle.uses.specs.Turns.{after_command}
use Rattle.uses.proofs.session.set_and_read.Goals as goal

pub returns-clause-replies : goal.returns-clause-replies
returns-clause-replies c = λ w stands.
    let old = c.args.session.now in
    let first = c.in_ok-set.ensures.answers w stands in
    let next = after_command old.bounds w (SetData c.args.node c.args.text) in
    let second = c.in_ok-read.ensures.answers next first.world_is in
    let same = c.apply.ensures.bounds in
    record {
      first_is = first.reply_is;
      second_is = subst (λ b. reply_view c.in_ok-read.read ≡ (answer b next (GetData c.args.node)).reply) same second.reply_is;
      world_is = subst (λ b. StandsFor c.apply-2.new.self (answer b next (GetData c.args.node)).world) same second.world_is;
    }
