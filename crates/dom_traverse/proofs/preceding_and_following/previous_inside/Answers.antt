-- Back to the end of the previous sibling, else up to the parent.
use Rattle.std.proofs.Common.{◌≡◌, ◌==◌, true, false, if◌then◌else◌, Some, None, ap, sym, ◌∙◌}
use Rattle.dom_model.specs.Definitions.{last_of, Grove, previous_of, parent_of, inclusive_descendants}
use Rattle.dom_model.proofs.Traversal.PreviousInOrder.{led_back, before-inside}
use Rattle.dom_tree.specs.Spots.{Spot, node_at}
use Rattle.dom_traverse.proofs.SpotLemmas.{for-one}
use Rattle.dom_traverse.proofs.preceding_and_following.previous_inside.Goals as goal

pub returns-then-eq-clause-node : goal.returns-then-eq-clause-node
returns-then-eq-clause-node g c =
    let f = c.args.node.now.tree.forest in
    let n = c.args.node.now.node in
    let e : (n == c.args.top) ≡ true = ap (λ m. m == c.args.top) (sym c.number.ensures) ∙ sym c.eq.ensures ∙ c.if-eq.true in
    sym (before-inside f c.state_law.ensures.forest.once c.args.top n c.requires ∙ ap (λ v. if v then None else led_back f (previous_of f n) (parent_of f n)) e)

pub returns-in-Some-clause-tree : goal.returns-in-Some-clause-tree
returns-in-Some-clause-tree g c =
    for-one (λ (a : Spot g.row.X.Denot). a.tree ≡ c.args.node.now.tree) c.last_inside.result (c.last_inside.ensures.tree ∙ c.prev.ensures.tree c.in-Some.sibling c.in-Some.is)

pub returns-in-Some-clause-node : goal.returns-in-Some-clause-node
returns-in-Some-clause-node g c =
    let f = c.args.node.now.tree.forest in
    let n = c.args.node.now.node in
    let e : (n == c.args.top) ≡ false = ap (λ m. m == c.args.top) (sym c.number.ensures) ∙ sym c.eq.ensures ∙ c.if-eq.false in
    let p : previous_of f n ≡ Some c.in-Some.sibling.node = sym c.prev.ensures.node ∙ ap node_at c.in-Some.is in
    c.last_inside.ensures.node
    ∙ ap (λ (t : Grove g.row.X.Denot). last_of (inclusive_descendants t.forest c.in-Some.sibling.node)) (c.prev.ensures.tree c.in-Some.sibling c.in-Some.is)
    ∙ sym (before-inside f c.state_law.ensures.forest.once c.args.top n c.requires
    ∙ ap (λ v. if v then None else led_back f (previous_of f n) (parent_of f n)) e
    ∙ ap (λ o. led_back f o (parent_of f n)) p)

pub returns-in-None-clause-node : goal.returns-in-None-clause-node
returns-in-None-clause-node g c =
    let f = c.args.node.now.tree.forest in
    let n = c.args.node.now.node in
    let e : (n == c.args.top) ≡ false = ap (λ m. m == c.args.top) (sym c.number.ensures) ∙ sym c.eq.ensures ∙ c.if-eq.false in
    let p : previous_of f n ≡ None = sym c.prev.ensures.node ∙ ap node_at c.in-None.is in
    c.parent.ensures.node
    ∙ sym (before-inside f c.state_law.ensures.forest.once c.args.top n c.requires
    ∙ ap (λ v. if v then None else led_back f (previous_of f n) (parent_of f n)) e
    ∙ ap (λ o. led_back f o (parent_of f n)) p)
