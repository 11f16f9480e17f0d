-- The point's node itself, or the last node inside the child ahead of the point.
use Rattle.std.proofs.Common.{◌-◌, slice_get, ap, sym, subst, ◌∙◌, arith}
use Rattle.dom_model.specs.Definitions.{after, HasNode, children_of, inclusive_descendants, Point}
use Rattle.dom_content.proofs.{NodesAhead.ahead-itself, NodesAhead.ahead-inside, NodesAhead.child-held, NodesAhead.ahead-as, NodesBehind.behind-itself, NodesBehind.behind-childless, NodesBehind.behind-child}
use Rattle.dom_content.proofs.contained.last_ahead.Goals as goal

pub returns-then-offset-eq0-clause-ahead : goal.returns-then-offset-eq0-clause-ahead
returns-then-offset-eq0-clause-ahead c =
    let q : Point = record { node = c.point.inside.node; offset = c.point.inside.offset } in
    let held = subst (λ (p : Point). HasNode c.args.tree.now.forest p.node) (sym c.point.view_is) c.requires.held in
    (ahead-as c.args.tree.now c.args.point q c.point.inside.node c.point.view_is (ahead-itself c.args.tree.now q held)).ahead

pub last_inside-requires : goal.last_inside-requires
last_inside-requires c =
    child-held c.args.tree.now c.state_law.ensures c.point.inside.node (c.point.inside.offset - 1) c.in-Some.child (sym c.child_at.ensures ∙ c.in-Some.is)

pub returns-in-Some-clause-held : goal.returns-in-Some-clause-held
returns-in-Some-clause-held c =
    let q : Point = record { node = c.point.inside.node; offset = c.point.inside.offset } in
    (ahead-inside c.args.tree.now c.state_law.ensures q (c.point.inside.offset - 1) c.in-Some.child c.last_inside.result (omega arith) (sym c.child_at.ensures ∙ c.in-Some.is) (sym c.last_inside.ensures)).held

pub returns-in-Some-clause-one_root : goal.returns-in-Some-clause-one_root
returns-in-Some-clause-one_root c =
    let q : Point = record { node = c.point.inside.node; offset = c.point.inside.offset } in
    (ahead-as c.args.tree.now c.args.point q c.last_inside.result c.point.view_is
    (ahead-inside c.args.tree.now c.state_law.ensures q (c.point.inside.offset - 1) c.in-Some.child c.last_inside.result (omega arith) (sym c.child_at.ensures ∙ c.in-Some.is) (sym c.last_inside.ensures))).one_root

pub returns-in-Some-clause-ahead : goal.returns-in-Some-clause-ahead
returns-in-Some-clause-ahead c =
    let q : Point = record { node = c.point.inside.node; offset = c.point.inside.offset } in
    (ahead-as c.args.tree.now c.args.point q c.last_inside.result c.point.view_is
    (ahead-inside c.args.tree.now c.state_law.ensures q (c.point.inside.offset - 1) c.in-Some.child c.last_inside.result (omega arith) (sym c.child_at.ensures ∙ c.in-Some.is) (sym c.last_inside.ensures))).ahead

pub returns-in-None-clause-ahead : goal.returns-in-None-clause-ahead
returns-in-None-clause-ahead c =
    let q : Point = record { node = c.point.inside.node; offset = c.point.inside.offset } in
    let held = subst (λ (p : Point). HasNode c.args.tree.now.forest p.node) (sym c.point.view_is) c.requires.held in
    (ahead-as c.args.tree.now c.args.point q c.point.inside.node c.point.view_is (ahead-itself c.args.tree.now q held)).ahead

pub returns-then-offset-eq0-clause-behind : goal.returns-then-offset-eq0-clause-behind
returns-then-offset-eq0-clause-behind c = λ root next rooted within e.
    let i = ap (λ (p : Point). p.offset) c.point.view_is in
    behind-itself c.args.tree.now c.state_law.ensures c.args.point c.requires.held root rooted within next (omega arith)
    (ap (λ (p : Point). after p.node (inclusive_descendants c.args.tree.now.forest root)) (sym c.point.view_is) ∙ e)

pub returns-in-Some-clause-behind : goal.returns-in-Some-clause-behind
returns-in-Some-clause-behind c = λ root next rooted within e.
    let i = ap (λ (p : Point). p.offset) c.point.view_is in
    let k = c.point.inside.offset - 1 in
    behind-child c.args.tree.now c.state_law.ensures c.args.point c.requires.held root rooted within k c.in-Some.child c.last_inside.result next (omega arith)
    (ap (λ (p : Point). slice_get (children_of c.args.tree.now.forest p.node) k) (sym c.point.view_is) ∙ sym c.child_at.ensures ∙ c.in-Some.is) (sym c.last_inside.ensures) e

pub returns-in-None-clause-behind : goal.returns-in-None-clause-behind
returns-in-None-clause-behind c = λ root next rooted within e.
    let i = ap (λ (p : Point). p.offset) c.point.view_is in
    let k = c.point.inside.offset - 1 in
    behind-childless c.args.tree.now c.state_law.ensures c.args.point c.requires.held root rooted within next k (omega arith)
    (ap (λ (p : Point). slice_get (children_of c.args.tree.now.forest p.node) k) (sym c.point.view_is) ∙ sym c.child_at.ensures ∙ c.in-None.is)
    (ap (λ (p : Point). after p.node (inclusive_descendants c.args.tree.now.forest root)) (sym c.point.view_is) ∙ e)
