use Rattle.std.proofs.Common.{ℕ, arith}
use Rattle.dom_model.specs.Definitions.{Node}
use Rattle.uses.proofs.NewChildren.{parent-held, child-held, child-root, child-no_cycle, child-kinds, child-parent, child-last}
use Rattle.uses.proofs.tree.make_under.Goals as goal

pub put-requires-clause-parent_held : goal.put-requires-clause-parent_held
put-requires-clause-parent_held c =
    let g = c.args.tree.now in
    let x : Node ℕ = record { number = g.made; document = c.document_of-document.result; label = c.args.label; body = c.args.body } in
    let made = c.in_ok-id.ensures.made in
    rw made (parent-held g.forest c.state_law.ensures.once x (c.state_law.ensures.small g.made (omega arith)) c.args.parent c.requires.held)

pub put-requires-clause-child_held : goal.put-requires-clause-child_held
put-requires-clause-child_held c =
    let g = c.args.tree.now in
    let x : Node ℕ = record { number = g.made; document = c.document_of-document.result; label = c.args.label; body = c.args.body } in
    rw (c.in_ok-id.ensures.number, c.in_ok-id.ensures.made) (child-held g.forest c.state_law.ensures.once x (c.state_law.ensures.small g.made (omega arith)) c.args.parent c.requires.held)

pub put-requires-clause-no_parent : goal.put-requires-clause-no_parent
put-requires-clause-no_parent c =
    let g = c.args.tree.now in
    let x : Node ℕ = record { number = g.made; document = c.document_of-document.result; label = c.args.label; body = c.args.body } in
    rw (c.in_ok-id.ensures.number, c.in_ok-id.ensures.made) (child-root g.forest c.state_law.ensures.once x (c.state_law.ensures.small g.made (omega arith)) c.args.parent c.requires.held)

pub put-requires-clause-no_cycle : goal.put-requires-clause-no_cycle
put-requires-clause-no_cycle c =
    let g = c.args.tree.now in
    let x : Node ℕ = record { number = g.made; document = c.document_of-document.result; label = c.args.label; body = c.args.body } in
    rw (c.in_ok-id.ensures.number, c.in_ok-id.ensures.made) (child-no_cycle g.forest c.state_law.ensures.once x (c.state_law.ensures.small g.made (omega arith)) c.args.parent c.requires.held)

pub put-requires-clause-kinds : goal.put-requires-clause-kinds
put-requires-clause-kinds c =
    let g = c.args.tree.now in
    let x : Node ℕ = record { number = g.made; document = c.document_of-document.result; label = c.args.label; body = c.args.body } in
    rw (c.in_ok-id.ensures.number, c.in_ok-id.ensures.made) (child-kinds g.forest c.state_law.ensures.once x (c.state_law.ensures.small g.made (omega arith)) c.args.parent c.requires.held c.requires.kinds)

pub returns-clause-under : goal.returns-clause-under
returns-clause-under c =
    let g = c.args.tree.now in
    let x : Node ℕ = record { number = g.made; document = c.document_of-document.result; label = c.args.label; body = c.args.body } in
    rw (c.put.ensures, c.in_ok-id.ensures.number, c.in_ok-id.ensures.made) (child-parent g.forest c.state_law.ensures.once x (c.state_law.ensures.small g.made (omega arith)) c.args.parent c.requires.held)

pub returns-clause-last : goal.returns-clause-last
returns-clause-last c =
    let g = c.args.tree.now in
    let x : Node ℕ = record { number = g.made; document = c.document_of-document.result; label = c.args.label; body = c.args.body } in
    rw (c.put.ensures, c.in_ok-id.ensures.number, c.in_ok-id.ensures.made) (child-last g.forest c.state_law.ensures.once x (c.state_law.ensures.small g.made (omega arith)) c.args.parent c.requires.held)
