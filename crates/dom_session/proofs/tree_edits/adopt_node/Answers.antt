use Rattle.std.proofs.Common.{◌≡◌, true, refl, is_some}
use Rattle.dom_model.specs.Definitions.{entry_in, is_kind, AdoptNode, kind_passes, adopt}
use Rattle.dom_model.specs.declared.Kind.TheVariants.{Document}
use Rattle.dom_commands.specs.{declared.brief.Brief.TheVariants.Number, declared.reply.Reply.TheVariants.Brief}
use Rattle.dom_edit.specs.Refusals.{check_adopt}
use Rattle.dom_session.proofs.{GuardedLemmas.step-follows, GuardedLemmas.steps-refused-briefly, TreeEdits.answer-adopt_node, TreeEdits.refused-adopt_node, KeepsWholeWorldLemmas.kept_nodes}
use Rattle.dom_session.proofs.tree_edits.adopt_node.Goals as goal
use Rattle.dom_data.proofs.ResultLemmas.{on_err}

pub returns-in-Ok : goal.returns-in-Ok
returns-in-Ok c =
    let old = c.args.world.now in
    let d = c.args.document in
    let n = c.args.node in
    let hd : is_some (entry_in old.tree.forest d) ≡ true = cc in
    let hn : is_some (entry_in old.tree.forest n) ≡ true = cc in
    let kind : kind_passes (is_kind Document) old.tree.forest d ≡ true = cc in
    record {
      step = λ b. rw c.number.ensures (step-follows b (AdoptNode d n) (Brief (Number n)) old c.adopt.new.self (adopt n d) refl
          (λ w shown. answer-adopt_node old b d n w shown hd hn kind c.in-Ok.ensures.allowed)
          c.in-Ok.ensures.adopted c.adopt.ensures.whole);
      left = tt;
      unchanged = tt;
    }

pub returns-in-Err : goal.returns-in-Err
returns-in-Err c =
    let old = c.args.world.now in
    let d = c.args.document in
    let n = c.args.node in
    let hd : is_some (entry_in old.tree.forest d) ≡ true = cc in
    let hn : is_some (entry_in old.tree.forest n) ≡ true = cc in
    let kind : kind_passes (is_kind Document) old.tree.forest d ≡ true = cc in
    record {
      step = steps-refused-briefly old c.adopt.new.self (AdoptNode d n) c.in-Err.refusal (check_adopt old.tree.forest n) c.brief_to.result c.brief_to.ensures c.in-Err.ensures.refused
          (λ b e named w shown. refused-adopt_node old b d n w shown hd hn kind e named);
      left = on_err c.brief_to.result (kept_nodes old c.adopt.new.self c.adopt.ensures.kept c.adopt.ensures.whole);
      unchanged = on_err c.brief_to.result c.in-Err.ensures.unchanged;
    }
