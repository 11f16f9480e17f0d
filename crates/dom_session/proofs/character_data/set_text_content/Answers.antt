use Rattle.std.proofs.Common.{◌≡◌, ◌+◌, nat_lt, true, false, refl, arith, is_some}
use Rattle.std.proofs.lemmas.Bool.Decides.{nat_tests}
use Rattle.dom_model.specs.Definitions.{entry_in, set_text_content, SetTextContent}
use Rattle.dom_commands.specs.{declared.brief.Brief.TheVariants.Nothing, declared.reply.Reply.TheVariants.Brief}
use Rattle.dom_session.specs.{AnswerBounds.numbered}
use Rattle.dom_session.proofs.{GuardedLemmas.step-follows, NodeData.answer-set_text_content}
use Rattle.dom_session.proofs.character_data.set_text_content.Goals as goal

pub returns : goal.returns
returns c =
    let v = c.args.world.now in
    let held : is_some (entry_in v.tree.forest c.args.node) ≡ true = cc in
    let room : nat_lt c.args.numbers (v.tree.made + 1) ≡ false = grind (arith, nat_tests) in
    record {
      step = step-follows (numbered c.args.numbers) (SetTextContent c.args.node c.args.text) (Brief Nothing) v c.set_text_content.new.world (set_text_content c.args.node c.args.text) refl
          (λ w shown. answer-set_text_content v (numbered c.args.numbers) w shown c.args.node c.args.text held room)
          c.in_ok-set_text_content.ensures.set c.set_text_content.ensures.whole;
      left = tt;
    }
