use Rattle.std.proofs.Common.{◌≡◌, true, Some, None, refl, tests, rules, is_some}
use Rattle.dom_model.specs.Definitions.{entry_in, ReplaceChild, check_replace, replace}
use Rattle.dom_commands.specs.{declared.brief.Brief.TheVariants.Number, declared.reply.Reply.TheVariants.Brief}
use Rattle.dom_session.proofs.{GuardedLemmas.step-follows, GuardedLemmas.steps-refused-briefly, TreeEdits.answer-replace_child, KeepsWholeWorldLemmas.kept_nodes}
use Rattle.dom_session.proofs.GoingOn.{none-listed}
use Rattle.dom_session.proofs.tree_edits.replace_child.Goals as goal
use Rattle.dom_data.proofs.ResultLemmas.{on_err}

pub returns-in-Ok : goal.returns-in-Ok
returns-in-Ok c =
    let old = c.args.world.now in
    let p = c.args.parent in
    let n = c.args.node in
    let child = c.args.child in
    let hp : is_some (entry_in old.tree.forest p) ≡ true = cc in
    let hn : is_some (entry_in old.tree.forest n) ≡ true = cc in
    let hc : is_some (entry_in old.tree.forest child) ≡ true = cc in
    record {
      step = λ b. rw c.number.ensures (step-follows b (ReplaceChild p n child) (Brief (Number child)) old c.replace.new.self (replace child n p) refl
          (λ w shown. answer-replace_child old b p n child w None shown hp hn hc c.in-Ok.ensures.allowed)
          c.in-Ok.ensures.replaced c.replace.ensures.whole);
      left = tt;
      same = λ none. tt;
    }

pub returns-then-not-holds : goal.returns-then-not-holds
returns-then-not-holds c = search (tests, rules)

pub returns-in-Err : goal.returns-in-Err
returns-in-Err c =
    let old = c.args.world.now in
    let p = c.args.parent in
    let n = c.args.node in
    let child = c.args.child in
    let hp : is_some (entry_in old.tree.forest p) ≡ true = cc in
    let hn : is_some (entry_in old.tree.forest n) ≡ true = cc in
    let hc : is_some (entry_in old.tree.forest child) ≡ true = cc in
    record {
      step = steps-refused-briefly old c.replace.new.self (ReplaceChild p n child) c.in-Err.refusal (check_replace old.tree.forest p n child) c.brief_to.result c.brief_to.ensures c.in-Err.ensures.refused
          (λ b e named w shown. answer-replace_child old b p n child w (Some e) shown hp hn hc named);
      left = on_err c.brief_to.result (kept_nodes old c.replace.new.self c.replace.ensures.kept c.replace.ensures.whole);
      same = λ none. on_err c.brief_to.result (c.in-Err.ensures.unchanged (none-listed old.observers.nodes none));
    }
