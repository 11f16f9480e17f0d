use Rattle.std.proofs.Common.{◌≡◌, true, not, Some, None, refl, is_some}
use Rattle.std.proofs.lemmas.Bool.{not-true}
use Rattle.dom_model.specs.Definitions.{entry_in, InsertBefore, check_insert, pre_insert}
use Rattle.dom_commands.specs.{declared.brief.Brief.TheVariants.Number, declared.reply.Reply.TheVariants.Brief}
use Rattle.dom_session.specs.{Refusals.lacks_given}
use Rattle.dom_session.proofs.{GuardedLemmas.step-follows, GuardedLemmas.steps-refused-briefly, TreeEdits.answer-insert_before, KeepsWholeWorldLemmas.kept_nodes}
use Rattle.dom_session.proofs.GoingOn.{alone-or-unobserved}
use Rattle.dom_session.proofs.tree_edits.insert_before.Goals as goal
use Rattle.dom_data.proofs.ResultLemmas.{on_err}

pub returns-in-Ok : goal.returns-in-Ok
returns-in-Ok c =
    let old = c.args.world.now in
    let p = c.args.parent in
    let n = c.args.node in
    let child = c.args.child in
    let hp : is_some (entry_in old.tree.forest p) ≡ true = cc in
    let hn : is_some (entry_in old.tree.forest n) ≡ true = cc in
    let given : not (lacks_given old child) ≡ true = cc in
    let hc = not-true (lacks_given old child) given in
    record {
      step = λ b. rw c.number.ensures (step-follows b (InsertBefore p n child) (Brief (Number n)) old c.insert_before.new.self (pre_insert n p child) refl
          (λ w shown. answer-insert_before old b p n child w None shown hp hn hc c.in-Ok.ensures.allowed)
          c.in-Ok.ensures.inserted c.insert_before.ensures.whole);
      left = tt;
      same = λ may. tt;
    }

pub returns-in-Err : goal.returns-in-Err
returns-in-Err c =
    let old = c.args.world.now in
    let p = c.args.parent in
    let n = c.args.node in
    let child = c.args.child in
    let hp : is_some (entry_in old.tree.forest p) ≡ true = cc in
    let hn : is_some (entry_in old.tree.forest n) ≡ true = cc in
    let given : not (lacks_given old child) ≡ true = cc in
    let hc = not-true (lacks_given old child) given in
    record {
      step = steps-refused-briefly old c.insert_before.new.self (InsertBefore p n child) c.in-Err.refusal (check_insert old.tree.forest p n child) c.brief_to.result c.brief_to.ensures c.in-Err.ensures.refused
          (λ b e named w shown. answer-insert_before old b p n child w (Some e) shown hp hn hc named);
      left = on_err c.brief_to.result (kept_nodes old c.insert_before.new.self c.insert_before.ensures.kept c.insert_before.ensures.whole);
      same = λ may. on_err c.brief_to.result (alone-or-unobserved old n may c.in-Err.ensures.unchanged c.in-Err.ensures.alone);
    }
