use Rattle.std.proofs.Common.{refl}
use Rattle.dom_model.specs.Definitions.{InsertData, ReplaceData, Bounds}
use Rattle.dom_commands.specs.{declared.reply.Reply.Reply}
use Rattle.dom_session.specs.{SessionViews.IsStep}
use Rattle.dom_session.proofs.NodeData.{ok-more, step-same}
use Rattle.dom_session.proofs.character_data.insert_data.Goals as goal

pub returns : goal.returns
returns c =
    let old = c.args.world.now in
    let new = c.replace_data.new.world in
    let n = c.args.node in
    let replace = ReplaceData n c.args.offset 0 c.args.text.now in
    let command = InsertData n c.args.offset c.args.text.now in
    let P : Reply → Type 0 = λ reply. (b : Bounds) → IsStep old new b replace reply in
    let Q : Reply → Type 0 = λ reply. (b : Bounds) → IsStep old new b command reply in
    record {
      step = ok-more c.replace_data.result P Q
          (λ reply h b. step-same old new b replace command reply (λ w shown. refl) (h b))
          c.replace_data.ensures.step;
      left = c.replace_data.ensures.left;
      unchanged = c.replace_data.ensures.unchanged;
    }
