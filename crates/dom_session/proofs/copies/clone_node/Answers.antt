use Rattle.std.proofs.Common.{◌≡◌, ◌+◌, ◌*◌, nat_lt, true, false, refl, ◌∙◌, is_some}
use Rattle.dom_model.specs.Definitions.{entry_in, size, clone_node, CloneNode}
use Rattle.dom_commands.specs.{declared.brief.Brief.TheVariants.Number, declared.reply.Reply.TheVariants.Brief}
use Rattle.dom_session.specs.{AnswerBounds.numbered}
use Rattle.dom_session.proofs.{GuardedLemmas.step-follows, NodeCopies.room-copy, NodeCopies.answer-clone_node, KeepsWholeWorldLemmas.kept_all}
use Rattle.dom_session.proofs.copies.clone_node.Goals as goal
use Rattle.dom_data.proofs.ResultLemmas.{on_err}

pub clone_node-requires-clause-room : goal.clone_node-requires-clause-room
clone_node-requires-clause-room c =
    let v = c.args.world.now in
    let room : nat_lt c.args.numbers (v.tree.made + (2 * size v.tree.forest + 8)) ≡ false = cc in
    room-copy c.args.numbers v.tree.made c.args.deep c.args.node v.tree.forest c.requires.numbers room

pub returns : goal.returns
returns c =
    let v = c.args.world.now in
    let held : is_some (entry_in v.tree.forest c.args.node) ≡ true = cc in
    let room : nat_lt c.args.numbers (v.tree.made + (2 * size v.tree.forest + 8)) ≡ false = cc in
    record {
      step = rw (c.number.ensures ∙ c.in_ok-copy.ensures.number) (step-follows (numbered c.args.numbers) (CloneNode c.args.node c.args.deep) (Brief (Number v.tree.made)) v c.clone_node.new.world (clone_node c.args.deep c.args.node) refl
          (λ w shown. answer-clone_node v c.args.numbers w shown c.args.node c.args.deep held room)
          c.in_ok-copy.ensures.cloned c.clone_node.ensures.whole);
      left = tt;
    }

pub returns-in_err-copy-clause-left : goal.returns-in_err-copy-clause-left
returns-in_err-copy-clause-left c =
    on_err c.from_residual.result
    (kept_all c.args.world.now c.clone_node.new.world c.clone_node.ensures.left c.clone_node.ensures.whole)
