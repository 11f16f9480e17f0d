use Rattle.std.proofs.Common.{◌≡◌, true, refl, is_some}
use Rattle.dom_model.specs.Definitions.{collapsed, Collapse}
use Rattle.dom_ranges.specs.Tables.{range_in}
use Rattle.dom_commands.specs.{declared.brief.Brief.TheVariants.Nothing, declared.reply.Reply.TheVariants.Brief}
use Rattle.dom_session.proofs.{RangeTableLemmas.step-set, RangeAnswers.answer-collapse}
use Rattle.dom_session.proofs.range_setters.collapse.Goals as goal

pub returns : goal.returns
returns c =
    let old = c.args.world.now in
    let r = c.args.range in
    let live : is_some (range_in old.ranges r) ≡ true = cc in
    record {
      step = λ b. step-set b (Collapse r c.args.to_start) (Brief Nothing) old c.collapse.new.self r (range_in old.ranges r) (λ range. collapsed c.args.to_start range) refl c.requires.shown live c.collapse.ensures.set
          (λ range held w shown. answer-collapse old b w shown r c.args.to_start range held);
    }
