use Rattle.std.proofs.Common.{◌≡◌, true, false, refl, ◌∙◌, arith, is_some}
use Rattle.std.proofs.lemmas.Grind.{common_steps}
use Rattle.dom_model.specs.Definitions.{entry_in, Remove, is_child_node, kind_passes, remove}
use Rattle.dom_commands.specs.{declared.brief.Brief.TheVariants.Nothing, declared.reply.Reply.TheVariants.Brief}
use Rattle.dom_session.proofs.{GuardedLemmas.step-follows, TreeEdits.kind_passes-label, TreeEdits.answer-remove}
use Rattle.dom_session.proofs.tree_edits.remove.Goals as goal

pub returns : goal.returns
returns c =
    let old = c.args.world.now in
    let n = c.args.node in
    let hn : is_some (entry_in old.tree.forest n) ≡ true = cc in
    let test : is_child_node c.label.result.now.kind ≡ true = cc in
    let kind : kind_passes is_child_node old.tree.forest n ≡ true = kind_passes-label is_child_node old.tree.forest n c.label.result.now hn c.label.ensures ∙ test in
    record {
      step = λ b. step-follows b (Remove n) (Brief Nothing) old c.remove.new.self (remove false n) refl
          (λ w shown. answer-remove old b n w shown hn kind)
          c.in_ok-remove.ensures.removed c.remove.ensures.whole;
      left = tt;
      unchanged = tt;
    }

pub returns-then-not-is_child_node : goal.returns-then-not-is_child_node
returns-then-not-is_child_node c = grind (arith, common_steps)
