-- None is a doctype up to the first that is.
use Rattle.dom_content.proofs.DrawnContents.{rest-there, found-here, found-later, found-none}
use Rattle.dom_content.proofs.extraction.has_doctype.Goals as goal

pub is_of_kind-requires : goal.is_of_kind-requires
is_of_kind-requires c = rest-there c.args.tree.now.forest c.args.nodes.now c.loop-node.node-index c.node-item.result c.requires.held c.node-item.is c.loop-node-test.true

pub returns-then-is_of_kind : goal.returns-then-is_of_kind
returns-then-is_of_kind c =
    found-here c.args.tree.now.forest c.args.nodes.now c.loop-node.node-index c.node-item.result c.is_of_kind.result c.node-item.is c.loop-node-test.true c.is_of_kind.ensures c.if-is_of_kind.true c.loop-node.invariant

pub loop-node-preserved : goal.loop-node-preserved
loop-node-preserved c =
    found-later c.args.tree.now.forest c.args.nodes.now c.loop-node.node-index c.node-item.result c.is_of_kind.result c.node-item.is c.loop-node-test.true c.is_of_kind.ensures c.if-is_of_kind.false c.loop-node.invariant

pub returns : goal.returns
returns c = found-none c.args.tree.now.forest c.args.nodes.now c.loop-node.node-index c.loop-node-test.false c.loop-node.invariant
