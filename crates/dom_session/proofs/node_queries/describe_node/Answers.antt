use Rattle.std.proofs.Common.{◌≡◌, true, sym, subst, is_some, IfSome}
use Rattle.dom_model.specs.Definitions.{entry_in, DescribeNode}
use Rattle.dom_commands.specs.{declared.reply.Answer.TheVariants.NodeAt, declared.reply.Reply.TheVariants.Done}
use Rattle.dom_session.proofs.{GuardedLemmas.step-stays, DescribeNodeLemmas.answer-node}
use Rattle.dom_session.proofs.node_queries.describe_node.Goals as goal

pub returns : goal.returns
returns c b =
    let v = c.args.world.now in
    let n = c.args.node in
    let h : is_some (entry_in v.tree.forest n) ≡ true = cc in
    let label = subst (λ l. IfSome (entry_in v.tree.forest n) (λ e. l ≡ e.value.label)) (sym c.in_ok-label.ensures) c.label.ensures in
    step-stays b (DescribeNode n) (Done (NodeAt c.in_ok-boxed.boxed)) v
    (λ w shown. rw c.in_ok-boxed.ensures.ok (answer-node v b n c.document_of.result c.in_ok-label.label c.next.result c.parent.result c.prev.result w shown h c.document_of.ensures label c.next.ensures c.parent.ensures c.prev.ensures))
