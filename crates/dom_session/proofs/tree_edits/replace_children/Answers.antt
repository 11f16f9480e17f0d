use Rattle.std.proofs.Common.{◌≡◌, true, false, not, refl, ap, sym, ◌∙◌, is_some}
use Rattle.std.proofs.lemmas.Bool.{not-true}
use Rattle.dom_model.specs.Definitions.{entry_in, Label, may_be_parent, ReplaceChildren, replace_all}
use Rattle.dom_model.specs.declared.DomError.TheVariants.{TypeError}
use Rattle.dom_commands.specs.{declared.brief.Brief.TheVariants.Nothing, declared.brief.Brief.TheVariants.Dom, declared.reply.Reply.TheVariants.Brief}
use Rattle.dom_session.specs.{Refusals.lacks_given}
use Rattle.dom_edit.specs.Refusals.{check_only_child}
use Rattle.dom_session.proofs.{GuardedLemmas.step-follows, GuardedLemmas.step-stays, GuardedLemmas.steps-refused-briefly, TreeEdits.kind_passes-label, TreeEdits.answer-replace_children, TreeEdits.refused-replace_children, TreeEdits.refused-parent, KeepsWholeWorldLemmas.kept_nodes}
use Rattle.dom_session.proofs.GoingOn.{none-listed}
use Rattle.dom_session.proofs.tree_edits.replace_children.Goals as goal
use Rattle.dom_data.proofs.ResultLemmas.{on_err}

pub returns-then-not-may_be_parent : goal.returns-then-not-may_be_parent
returns-then-not-may_be_parent c =
    let old = c.args.world.now in
    let p = c.args.parent in
    let n = c.args.node in
    let hp : is_some (entry_in old.tree.forest p) ≡ true = cc in
    let given : not (lacks_given old n) ≡ true = cc in
    let hn = not-true (lacks_given old n) given in
    let test : may_be_parent c.label.result.now.kind ≡ false = cc in
    let kind = kind_passes-label may_be_parent old.tree.forest p c.label.result.now hp c.label.ensures ∙ test in
    record {
      step = λ b. step-stays b (ReplaceChildren p n) (Brief (Dom TypeError)) old (λ w shown. refused-parent old b p n w shown hp kind hn);
      left = tt;
      same = λ none. tt;
    }

pub returns-in-Ok : goal.returns-in-Ok
returns-in-Ok c =
    let old = c.args.world.now in
    let p = c.args.parent in
    let n = c.args.node in
    let hp : is_some (entry_in old.tree.forest p) ≡ true = cc in
    let given : not (lacks_given old n) ≡ true = cc in
    let hn = not-true (lacks_given old n) given in
    let test : may_be_parent c.label.result.now.kind ≡ true = sym (ap (λ (l : Label). may_be_parent l.kind) c.behind-world.view_is) ∙ sym c.may_be_parent.ensures ∙ c.if-not-may_be_parent.false in
    let kind = kind_passes-label may_be_parent old.tree.forest p c.label.result.now hp c.label.ensures ∙ test in
    record {
      step = λ b. step-follows b (ReplaceChildren p n) (Brief Nothing) old c.replace_children.new.self (replace_all n p) refl
          (λ w shown. answer-replace_children old b p w shown hp kind n hn c.in-Ok.ensures.allowed)
          c.in-Ok.ensures.replaced c.replace_children.ensures.whole;
      left = tt;
      same = λ none. tt;
    }

pub returns-in-Err : goal.returns-in-Err
returns-in-Err c =
    let old = c.args.world.now in
    let p = c.args.parent in
    let n = c.args.node in
    let hp : is_some (entry_in old.tree.forest p) ≡ true = cc in
    let given : not (lacks_given old n) ≡ true = cc in
    let hn = not-true (lacks_given old n) given in
    let test : may_be_parent c.label.result.now.kind ≡ true = sym (ap (λ (l : Label). may_be_parent l.kind) c.behind-world.view_is) ∙ sym c.may_be_parent.ensures ∙ c.if-not-may_be_parent.false in
    let kind = kind_passes-label may_be_parent old.tree.forest p c.label.result.now hp c.label.ensures ∙ test in
    record {
      step = steps-refused-briefly old c.replace_children.new.self (ReplaceChildren p n) c.in-Err.refusal (check_only_child old.tree.forest p n) c.brief_to.result c.brief_to.ensures c.in-Err.ensures.refused
          (λ b e named w shown. refused-replace_children old b p w shown hp kind n e hn named);
      left = on_err c.brief_to.result (kept_nodes old c.replace_children.new.self c.replace_children.ensures.kept c.replace_children.ensures.whole);
      same = λ none. on_err c.brief_to.result (c.in-Err.ensures.unchanged (none-listed old.observers.nodes none));
    }
