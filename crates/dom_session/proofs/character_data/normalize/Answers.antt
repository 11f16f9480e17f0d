use Rattle.std.proofs.Common.{◌≡◌, true, refl, is_some}
use Rattle.dom_model.specs.Definitions.{entry_in, normalize, Normalize}
use Rattle.dom_commands.specs.{declared.brief.Brief.TheVariants.Nothing, declared.reply.Reply.TheVariants.Brief}
use Rattle.dom_session.proofs.{GuardedLemmas.step-follows, NodeData.answer-normalize}
use Rattle.dom_session.proofs.character_data.normalize.Goals as goal

pub returns : goal.returns
returns c =
    let v = c.args.world.now in
    let held : is_some (entry_in v.tree.forest c.args.node) ≡ true = cc in
    record {
      step = λ b. step-follows b (Normalize c.args.node) (Brief Nothing) v c.normalize.new.world (normalize c.args.node) refl
          (λ w shown. answer-normalize v b w shown c.args.node held)
          c.in_ok-normalize.ensures.normalized c.normalize.ensures.whole;
      left = tt;
    }
