use Rattle.std.proofs.Common.{◌≡◌, true, refl, subst, ◌∙◌, arith, IfSome, is_some}
use Rattle.std.proofs.lemmas.Grind.{common_steps}
use Rattle.dom_model.specs.Definitions.{entry_in, IsBoundary, start_set}
use Rattle.dom_ranges.specs.Tables.{range_in}
use Rattle.dom_commands.specs.{declared.brief.Brief.TheVariants.Nothing, declared.reply.Reply.TheVariants.Brief}
use Rattle.dom_session.proofs.{RangeTableLemmas.step-set, RangeFacts.node-covered, RangeAnswers.answer-sets_start}
use Rattle.dom_session.proofs.range_setters.set_start_beside.Goals as goal

pub set_start-requires-clause-covered : goal.set_start-requires-clause-covered
set_start-requires-clause-covered c =
    let f = c.args.world.now.tree.forest in
    let b : IsBoundary f c.in-Some.point = subst (λ o. IfSome o (IsBoundary f)) c.in-Some.is c.requires.boundary in
    node-covered c.args.world.now c.requires.shown.shows.whole c.in-Some.point.node b.there

pub returns-in-Ok : goal.returns-in-Ok
returns-in-Ok c =
    let old = c.args.world.now in
    let r = c.args.range in
    let n = c.args.node in
    let live : is_some (range_in old.ranges r) ≡ true = cc in
    let there : is_some (entry_in old.tree.forest n) ≡ true = cc in
    record {
      step = λ b d e. rw c.set_start.ensures.kept (step-set b d (Brief Nothing) old c.set_start.new.self r (range_in old.ranges r) (λ range. start_set old.tree.forest c.in-Some.point range) refl c.requires.shown live c.in-Ok.ensures.set
          (λ range held w shown. e w shown ∙ answer-sets_start old b w shown r n live there c.args.point c.in-Some.point range c.in-Some.is held));
    }

pub set_start-requires-clause-stands : goal.set_start-requires-clause-stands
set_start-requires-clause-stands c = grind (arith, common_steps)
