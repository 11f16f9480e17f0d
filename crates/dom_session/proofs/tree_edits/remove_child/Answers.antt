use Rattle.std.proofs.Common.{◌≡◌, true, false, refl, is_some}
use Rattle.dom_model.specs.Definitions.{entry_in, RemoveChild, remove}
use Rattle.dom_commands.specs.{declared.brief.Brief.TheVariants.Number, declared.reply.Reply.TheVariants.Brief}
use Rattle.dom_edit.specs.Refusals.{check_remove_child}
use Rattle.dom_session.proofs.{GuardedLemmas.step-follows, GuardedLemmas.steps-refused-briefly, TreeEdits.answer-remove_child, TreeEdits.refused-remove_child, KeepsWholeWorldLemmas.kept_nodes}
use Rattle.dom_session.proofs.tree_edits.remove_child.Goals as goal
use Rattle.dom_data.proofs.ResultLemmas.{on_err}

pub returns-in-Ok : goal.returns-in-Ok
returns-in-Ok c =
    let old = c.args.world.now in
    let p = c.args.parent in
    let child = c.args.child in
    let hp : is_some (entry_in old.tree.forest p) ≡ true = cc in
    let hc : is_some (entry_in old.tree.forest child) ≡ true = cc in
    record {
      step = λ b. rw c.number.ensures (step-follows b (RemoveChild p child) (Brief (Number child)) old c.remove_child.new.self (remove false child) refl
          (λ w shown. answer-remove_child old b p child w shown hp hc c.in-Ok.ensures.allowed)
          c.in-Ok.ensures.removed c.remove_child.ensures.whole);
      left = tt;
      unchanged = tt;
    }

pub returns-in-Err : goal.returns-in-Err
returns-in-Err c =
    let old = c.args.world.now in
    let p = c.args.parent in
    let child = c.args.child in
    let hp : is_some (entry_in old.tree.forest p) ≡ true = cc in
    let hc : is_some (entry_in old.tree.forest child) ≡ true = cc in
    record {
      step = steps-refused-briefly old c.remove_child.new.self (RemoveChild p child) c.in-Err.refusal (check_remove_child old.tree.forest p child) c.brief_to.result c.brief_to.ensures c.in-Err.ensures.refused
          (λ b e named w shown. refused-remove_child old b p child w shown hp hc e named);
      left = on_err c.brief_to.result (kept_nodes old c.remove_child.new.self c.remove_child.ensures.kept c.remove_child.ensures.whole);
      unchanged = on_err c.brief_to.result c.in-Err.ensures.unchanged;
    }
