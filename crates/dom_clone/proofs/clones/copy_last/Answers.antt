use Rattle.std.proofs.Common.{◌≡◌}
use Rattle.dom_clone.proofs.PutUnderLemmas.{copy-may_go, copy-follows, put-whole}
use Rattle.dom_clone.proofs.clones.copy_last.Goals as goal

pub copy_node-requires-clause-document_kind : goal.copy_node-requires-clause-document_kind
copy_node-requires-clause-document_kind c x s =
    let k = c.document_in-document.ensures.kind in
    let e : c.document_in-document.result ≡ x = cc in
    rw e at k

pub put-requires-clause-parent_held : goal.put-requires-clause-parent_held
put-requires-clause-parent_held c =
    let m = copy-may_go c.args.world.now c.copy_node.new.world c.requires.whole c.args.node c.args.parent c.document_in-document.result c.requires.held c.requires.parent_held c.requires.kinds c.document_in-document.ensures.document c.in_ok-copy.ensures.copied in
    m.parent_held

pub put-requires-clause-child_held : goal.put-requires-clause-child_held
put-requires-clause-child_held c =
    let m = copy-may_go c.args.world.now c.copy_node.new.world c.requires.whole c.args.node c.args.parent c.document_in-document.result c.requires.held c.requires.parent_held c.requires.kinds c.document_in-document.ensures.document c.in_ok-copy.ensures.copied in
    rw c.in_ok-copy.ensures.number m.child_held

pub put-requires-clause-no_parent : goal.put-requires-clause-no_parent
put-requires-clause-no_parent c =
    let m = copy-may_go c.args.world.now c.copy_node.new.world c.requires.whole c.args.node c.args.parent c.document_in-document.result c.requires.held c.requires.parent_held c.requires.kinds c.document_in-document.ensures.document c.in_ok-copy.ensures.copied in
    rw c.in_ok-copy.ensures.number m.root

pub put-requires-clause-no_cycle : goal.put-requires-clause-no_cycle
put-requires-clause-no_cycle c =
    let m = copy-may_go c.args.world.now c.copy_node.new.world c.requires.whole c.args.node c.args.parent c.document_in-document.result c.requires.held c.requires.parent_held c.requires.kinds c.document_in-document.ensures.document c.in_ok-copy.ensures.copied in
    rw c.in_ok-copy.ensures.number m.outside

pub put-requires-clause-kinds : goal.put-requires-clause-kinds
put-requires-clause-kinds c =
    let m = copy-may_go c.args.world.now c.copy_node.new.world c.requires.whole c.args.node c.args.parent c.document_in-document.result c.requires.held c.requires.parent_held c.requires.kinds c.document_in-document.ensures.document c.in_ok-copy.ensures.copied in
    rw c.in_ok-copy.ensures.number m.kinds

pub returns-clause-copied : goal.returns-clause-copied
returns-clause-copied c =
    let k = copy-follows c.args.world.now c.copy_node.new.world c.requires.whole c.args.node c.args.parent c.document_in-document.result c.requires.held c.requires.parent_held c.requires.kinds c.document_in-document.ensures.document c.in_ok-copy.ensures.copied in
    rw (c.put.ensures, c.in_ok-copy.ensures.number) k

pub returns-clause-whole : goal.returns-clause-whole
returns-clause-whole c =
    let m = copy-may_go c.args.world.now c.copy_node.new.world c.requires.whole c.args.node c.args.parent c.document_in-document.result c.requires.held c.requires.parent_held c.requires.kinds c.document_in-document.ensures.document c.in_ok-copy.ensures.copied in
    rw (c.put.ensures, c.in_ok-copy.ensures.number) (put-whole c.copy_node.new.world c.in_ok-copy.ensures.whole c.args.parent c.args.world.now.tree.made c.document_in-document.result m)

pub returns-in_err-copy-clause-observers : goal.returns-in_err-copy-clause-observers
returns-in_err-copy-clause-observers c = c.copy_node.ensures.left.observers

pub returns-clause-observers : goal.returns-clause-observers
returns-clause-observers c = c.copy_node.ensures.left.observers
