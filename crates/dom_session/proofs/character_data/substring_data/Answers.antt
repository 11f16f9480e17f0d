use Rattle.std.proofs.Common.{refl, sym, Option, Some, None}
use Rattle.dom_model.specs.declared.DomError.{DomError}
use Rattle.dom_model.specs.Definitions.{check_offset, substring_data, SubstringData}
use Rattle.dom_edit.specs.{Whole.unwatched, declared.world.World.World, declared.refusal.Refusal.Refusal, Refusals.IsRefused}
use Rattle.dom_edit.specs.declared.refusal.Refusal.TheVariants as refusal
use Rattle.dom_data.specs.SubstringRefusal.{IsNamed}
use Rattle.dom_commands.specs.{declared.reply.Answer.TheVariants.Units, declared.reply.Reply.TheVariants.Done, Views.reply_view}
use Rattle.dom_session.proofs.{GuardedLemmas.step-stays, GuardedLemmas.steps-refused, NodeData.answer-substring_data, NodeData.refused-substring_data}
use Rattle.dom_session.proofs.character_data.substring_data.Goals as goal

-- a question leaves the world
left : (r : Refusal) (check : Option DomError) (v : World) → IsNamed r check → IsRefused r check v v
left (refusal.Dom e) check v named = (named, refl)
left refusal.Memory check v named = tt

pub returns-in-Ok : goal.returns-in-Ok
returns-in-Ok c b =
    let v = c.args.world.now in
    step-stays b (SubstringData c.args.node c.args.offset c.args.count) (Done (Units c.in-Ok.units)) v
    (λ w shown. answer-substring_data v b w shown c.args.node c.args.offset c.args.count c.in-Ok.units None (sym c.in_default.ensures) c.in-Ok.ensures.allowed c.in-Ok.ensures.units)

pub returns-in-Err : goal.returns-in-Err
returns-in-Err c =
    let v = c.args.world.now in
    let n = c.args.node in
    let check = check_offset (unwatched v) n c.args.offset in
    steps-refused v v (SubstringData n c.args.offset c.args.count) c.in-Err.refusal check c.reply_to.result c.reply_to.ensures (left c.in-Err.refusal check v c.in-Err.ensures.refused)
    (λ b e named w shown. answer-substring_data v b w shown n c.args.offset c.args.count (substring_data (unwatched v) n c.args.offset c.args.count) (Some e) (sym c.in_default.ensures) named refl)

pub returns-in-Some : goal.returns-in-Some
returns-in-Some c b =
    let v = c.args.world.now in
    step-stays b (SubstringData c.args.node c.args.offset c.args.count) c.in-Some.reply v
    (λ w shown. refused-substring_data v b w shown c.args.node c.args.offset c.args.count (reply_view c.in-Some.reply) (sym c.in-Some.ensures))
