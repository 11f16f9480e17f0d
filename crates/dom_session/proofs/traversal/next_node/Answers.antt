use Rattle.std.proofs.Common.{sym, ◌∙◌}
use Rattle.dom_commands.specs.Brief.{reply_of}
use Rattle.dom_session.proofs.TraversalSteps.{step-next_node}
use Rattle.dom_session.proofs.traversal.next_node.Goals as goal

pub returns : goal.returns
returns c = record {
  step = λ b. step-next_node c.args.world.now c.requires.shown b c.args.iterator c.next-found.result c.next-found.new.self (reply_of c.brief_found.result) (sym c.holds.ensures ∙ c.if-not-holds.false) c.brief_found.ensures c.next-found.ensures.found c.next-found.ensures.moved;
}
