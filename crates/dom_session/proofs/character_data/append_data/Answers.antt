use Rattle.std.proofs.Common.{◌≡◌, true, is_some}
use Rattle.dom_model.specs.Definitions.{entry_in, AppendData, ReplaceData, Bounds}
use Rattle.dom_commands.specs.{declared.reply.Reply.Reply}
use Rattle.dom_session.specs.{SessionViews.IsStep}
use Rattle.dom_session.proofs.NodeData.{ok-more, step-same, answer-append_data}
use Rattle.dom_session.proofs.character_data.append_data.Goals as goal

pub returns : goal.returns
returns c =
    let old = c.args.world.now in
    let new = c.replace_data.new.world in
    let n = c.args.node in
    let held : is_some (entry_in old.tree.forest n) ≡ true = cc in
    let replace = ReplaceData n c.length-end.result 0 c.args.text.now in
    let command = AppendData n c.args.text.now in
    let P : Reply → Type 0 = λ reply. (b : Bounds) → IsStep old new b replace reply in
    let Q : Reply → Type 0 = λ reply. (b : Bounds) → IsStep old new b command reply in
    record {
      step = ok-more c.replace_data.result P Q
          (λ reply h b. step-same old new b replace command reply (λ w shown. answer-append_data old b w shown n c.length-end.result c.args.text.now held c.length-end.ensures) (h b))
          c.replace_data.ensures.step;
      left = c.replace_data.ensures.left;
      unchanged = c.replace_data.ensures.unchanged;
    }
