-- Each node takes its turn.
use Rattle.dom_edit.proofs.KeepsNodesLemmas.{labels-then}
use Rattle.dom_content.proofs.{StillHeldLemmas.labels-none, PieceSteps.filling-first, PieceSteps.filling-may, PieceSteps.filling-room, PieceSteps.filling-held, PieceSteps.filling-next, PieceSteps.filling-end}
use Rattle.dom_content.proofs.content_pieces.children_into.Goals as goal

pub loop-node-init : goal.loop-node-init
loop-node-init c = record {
  filling = filling-first c.args.world.now c.args.moves c.args.into c.args.nodes.now c.requires.whole c.requires.may c.requires.room;
  kept = labels-none c.args.world.now;
  left = λ still a h newer l. l;
}

pub child_into-requires-clause-may : goal.child_into-requires-clause-may
child_into-requires-clause-may c =
    filling-may c.args.world.now c.loop-node.world c.args.moves c.args.into c.args.nodes.now c.loop-node.node-index c.loop-node.invariant.filling c.node-item.result c.node-item.is c.loop-node-test.true

pub child_into-requires-clause-held : goal.child_into-requires-clause-held
child_into-requires-clause-held c =
    filling-held c.args.world.now c.loop-node.world c.args.moves c.args.into c.args.nodes.now c.loop-node.node-index c.loop-node.invariant.filling c.node-item.result c.node-item.is c.loop-node-test.true

pub child_into-requires-clause-room : goal.child_into-requires-clause-room
child_into-requires-clause-room c =
    filling-room c.args.world.now c.loop-node.world c.args.moves c.args.into c.args.nodes.now c.loop-node.node-index c.loop-node.invariant.filling c.node-item.result c.node-item.is c.loop-node-test.true

pub loop-node-preserved : goal.loop-node-preserved
loop-node-preserved c = record {
  filling = filling-next c.args.world.now c.loop-node.world c.args.moves c.args.into c.args.nodes.now c.loop-node.node-index c.loop-node.invariant.filling c.node-item.result c.node-item.is c.loop-node-test.true
      c.child_into.new.world c.in_ok-child_into.ensures.drawn c.in_ok-child_into.ensures.stays c.in_ok-child_into.ensures.whole;
  kept = labels-then c.args.world.now c.loop-node.world c.child_into.new.world c.loop-node.invariant.kept c.in_ok-child_into.ensures.kept;
  left = λ still a h newer l. c.in_ok-child_into.ensures.left still a h newer (c.loop-node.invariant.left still a h newer l);
}

pub returns-clause-drawn : goal.returns-clause-drawn
returns-clause-drawn c = filling-end c.args.world.now c.loop-node.world c.args.moves c.args.into c.args.nodes.now c.loop-node.node-index c.loop-node.invariant.filling c.loop-node-test.false

pub returns-clause-stays : goal.returns-clause-stays
returns-clause-stays c = c.loop-node.invariant.filling.still

pub returns-in_err-child_into-clause-left : goal.returns-in_err-child_into-clause-left
returns-in_err-child_into-clause-left c still a h newer l = c.child_into.ensures.left still a h newer (c.loop-node.invariant.left still a h newer l)

pub returns-clause-left : goal.returns-clause-left
returns-clause-left c = c.loop-node.invariant.left
