use Rattle.dom_edit.proofs.AppendLeafLemmas.{leaf-allowed, leaf-appended, leaf-marked, leaf-or_not}
use Rattle.dom_edit.proofs.world.World.append_leaf.Goals as goal

pub returns-then-is_idle-clause-allowed : goal.returns-then-is_idle-clause-allowed
returns-then-is_idle-clause-allowed c done = leaf-allowed c.args.self.now c.requires.whole c.args.parent c.args.node (c.put_leaf.ensures.leaf done)

pub returns-then-is_idle-clause-appended : goal.returns-then-is_idle-clause-appended
returns-then-is_idle-clause-appended c done =
    leaf-appended c.args.self.now c.requires.whole c.args.parent c.args.node (c.put_leaf.ensures.leaf done) c.put_leaf.new.self (c.put_leaf.ensures.put done)
    (λ x o. c.is_idle.ensures.idle x o c.if-is_idle.true)

pub returns-then-is_idle-clause-markers : goal.returns-then-is_idle-clause-markers
returns-then-is_idle-clause-markers c done =
    leaf-marked c.args.self.now c.requires.whole c.args.parent c.args.node (c.put_leaf.ensures.leaf done) c.put_leaf.new.self (c.put_leaf.ensures.put done)
    (λ x o. c.is_idle.ensures.idle x o c.if-is_idle.true)

pub returns-then-is_idle-clause-kept : goal.returns-then-is_idle-clause-kept
returns-then-is_idle-clause-kept c =
    (leaf-or_not c.args.self.now c.args.parent c.args.node c.put_leaf.result c.put_leaf.new.self c.requires.whole c.put_leaf.ensures.leaf c.put_leaf.ensures.put c.put_leaf.ensures.left).0

pub returns-then-is_idle-clause-whole : goal.returns-then-is_idle-clause-whole
returns-then-is_idle-clause-whole c =
    (leaf-or_not c.args.self.now c.args.parent c.args.node c.put_leaf.result c.put_leaf.new.self c.requires.whole c.put_leaf.ensures.leaf c.put_leaf.ensures.put c.put_leaf.ensures.left).1
