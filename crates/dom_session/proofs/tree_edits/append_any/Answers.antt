use Rattle.std.proofs.Common.{◌≡◌, true, Some, None, refl, is_some}
use Rattle.dom_model.specs.Definitions.{entry_in, AppendChild, check_insert, append}
use Rattle.dom_commands.specs.{declared.brief.Brief.TheVariants.Number, declared.reply.Reply.TheVariants.Brief}
use Rattle.dom_session.proofs.{GuardedLemmas.step-follows, GuardedLemmas.steps-refused-briefly, TreeEdits.answer-append_child, KeepsWholeWorldLemmas.kept_nodes}
use Rattle.dom_session.proofs.GoingOn.{alone-or-unobserved}
use Rattle.dom_session.proofs.tree_edits.append_any.Goals as goal
use Rattle.dom_data.proofs.ResultLemmas.{on_err}

pub returns-in-Ok : goal.returns-in-Ok
returns-in-Ok c =
    let old = c.args.world.now in
    let p = c.args.parent in
    let n = c.args.node in
    let hp : is_some (entry_in old.tree.forest p) ≡ true = cc in
    let hn : is_some (entry_in old.tree.forest n) ≡ true = cc in
    record {
      step = λ b. rw c.number.ensures (step-follows b (AppendChild p n) (Brief (Number n)) old c.append.new.self (append n p) refl
          (λ w shown. answer-append_child old b p n w None shown hp hn c.in-Ok.ensures.allowed)
          c.in-Ok.ensures.appended c.append.ensures.whole);
      left = tt;
      same = λ may. tt;
    }

pub returns-in-Err : goal.returns-in-Err
returns-in-Err c =
    let old = c.args.world.now in
    let p = c.args.parent in
    let n = c.args.node in
    let hp : is_some (entry_in old.tree.forest p) ≡ true = cc in
    let hn : is_some (entry_in old.tree.forest n) ≡ true = cc in
    record {
      step = steps-refused-briefly old c.append.new.self (AppendChild p n) c.in-Err.refusal (check_insert old.tree.forest p n None) c.brief_to.result c.brief_to.ensures c.in-Err.ensures.refused
          (λ b e named w shown. answer-append_child old b p n w (Some e) shown hp hn named);
      left = on_err c.brief_to.result (kept_nodes old c.append.new.self c.append.ensures.kept c.append.ensures.whole);
      same = λ may. on_err c.brief_to.result (alone-or-unobserved old n may c.in-Err.ensures.unchanged c.in-Err.ensures.alone);
    }
