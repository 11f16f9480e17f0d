-- Each node takes its turn.
use Rattle.dom_edit.proofs.KeepsNodesLemmas.{labels-then}
use Rattle.dom_content.proofs.{StillHeldLemmas.labels-none, RemoveEachLemmas.leaving-node, RemoveEachLemmas.leaving-next, RemoveEachLemmas.leaving-end}
use Rattle.dom_content.proofs.deletion.remove_each.Goals as goal

pub remove-requires-clause-held : goal.remove-requires-clause-held
remove-requires-clause-held c =
    leaving-node c.args.world.now c.loop-node.world c.args.nodes.now c.loop-node.node-index c.loop-node.invariant.leaving c.node-item.result c.node-item.is c.loop-node-test.true

pub loop-node-init : goal.loop-node-init
loop-node-init c = record {
  leaving = record { whole = c.requires.whole; there = c.requires.held; rest = λ final f. f };
  kept = labels-none c.args.world.now;
}

pub loop-node-preserved : goal.loop-node-preserved
loop-node-preserved c = record {
  leaving = leaving-next c.args.world.now c.loop-node.world c.args.nodes.now c.loop-node.node-index c.loop-node.invariant.leaving c.remove.new.self c.node-item.result c.node-item.is
      c.loop-node-test.true c.in_ok-remove.ensures.removed c.in_ok-remove.ensures.whole;
  kept = labels-then c.args.world.now c.loop-node.world c.remove.new.self c.loop-node.invariant.kept c.in_ok-remove.ensures.kept.labelled;
}

pub returns-clause-removed : goal.returns-clause-removed
returns-clause-removed c =
    leaving-end c.args.world.now c.loop-node.world c.args.nodes.now c.loop-node.node-index c.loop-node.invariant.leaving c.loop-node-test.false
