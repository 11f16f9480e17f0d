use Rattle.std.proofs.Common.{◌≡◌, ◌+◌, ◌*◌, nat_lt, true, false, refl, ◌∙◌, is_some}
use Rattle.dom_model.specs.declared.Kind.TheVariants.{Document}
use Rattle.dom_model.specs.Definitions.{is_kind, entry_in, size, kind_passes, import_node, ImportNode}
use Rattle.dom_edit.specs.Refusals.{check_adopt}
use Rattle.dom_commands.specs.{declared.brief.Brief.TheVariants.Number, declared.reply.Reply.TheVariants.Brief}
use Rattle.dom_session.specs.{AnswerBounds.numbered}
use Rattle.dom_session.proofs.{GuardedLemmas.step-follows, GuardedLemmas.step-refused, NodeCopies.room-copy, NodeCopies.answer-import_node, NodeCopies.refused-import_node, KeepsWholeWorldLemmas.kept_all}
use Rattle.dom_session.proofs.copies.import_node.Goals as goal
use Rattle.dom_data.proofs.ResultLemmas.{on_err}

pub import-requires-clause-room : goal.import-requires-clause-room
import-requires-clause-room c =
    let v = c.args.world.now in
    let room : nat_lt c.args.numbers (v.tree.made + (2 * size v.tree.forest + 8)) ≡ false = cc in
    λ _. room-copy c.args.numbers v.tree.made c.args.deep c.args.node v.tree.forest c.requires.numbers room

pub returns-in-Ok : goal.returns-in-Ok
returns-in-Ok c =
    let v = c.args.world.now in
    let f = v.tree.forest in
    let document : is_some (entry_in f c.args.document) ≡ true = cc in
    let held : is_some (entry_in f c.args.node) ≡ true = cc in
    let kind : kind_passes (is_kind Document) f c.args.document ≡ true = cc in
    let room : nat_lt c.args.numbers (v.tree.made + (2 * size f + 8)) ≡ false = cc in
    record {
      step = rw (c.number.ensures ∙ c.in-Ok.ensures.number) (step-follows (numbered c.args.numbers) (ImportNode c.args.document c.args.node c.args.deep) (Brief (Number v.tree.made)) v c.import.new.world (import_node c.args.document c.args.deep c.args.node) refl
          (λ w shown. answer-import_node v c.args.numbers w shown c.args.document c.args.node c.args.deep document held kind room c.in-Ok.ensures.allowed)
          c.in-Ok.ensures.imported c.import.ensures.whole);
      left = tt;
    }

pub returns-in-Err : goal.returns-in-Err
returns-in-Err c =
    let v = c.args.world.now in
    let f = v.tree.forest in
    let document : is_some (entry_in f c.args.document) ≡ true = cc in
    let held : is_some (entry_in f c.args.node) ≡ true = cc in
    let kind : kind_passes (is_kind Document) f c.args.document ≡ true = cc in
    let room : nat_lt c.args.numbers (v.tree.made + (2 * size f + 8)) ≡ false = cc in
    record {
      step = step-refused v c.import.new.world (ImportNode c.args.document c.args.node c.args.deep) c.in-Err.refusal (check_adopt f c.args.node) c.reply_to.result c.reply_to.ensures c.in-Err.ensures.refused (numbered c.args.numbers)
          (λ e named w shown. refused-import_node v c.args.numbers w shown c.args.document c.args.node c.args.deep document held kind room e named);
      left = on_err c.reply_to.result (kept_all v c.import.new.world c.import.ensures.left c.import.ensures.whole);
    }
