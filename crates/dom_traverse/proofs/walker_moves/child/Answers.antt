-- The walk begins at the child.
use Rattle.std.proofs.Common.{rules, ◌≡◌, ℕ, None, ap, sym, ◌∙◌, subst}
use Rattle.dom_model.specs.Definitions.{Grove, at, ended}
use Rattle.dom_model.proofs.Forests.Entries.{occurs-HasNode}
use Rattle.dom_tree.specs.Spots.{node_at}
use Rattle.dom_traverse.specs.{declared.sibling_walk.Limit.TheVariants.Current, declared.sibling_walk.SiblingWalk.SiblingWalk, SiblingWalks.child_on, SiblingWalks.Ending, SiblingWalks.found_from}
use Rattle.dom_traverse.proofs.{SpotLemmas.told_at, WalkerMoveLemmas.child-walks, WalkerMoveLemmas.begin_none, WalkerMoveLemmas.begin_some}
use Rattle.dom_traverse.proofs.walker_moves.child.Goals as goal

pub returns-in_err-child : goal.returns-in_err-child
returns-in_err-child g c =
    let f = c.args.tree.now.forest in
    let filter = c.args.filter.now in
    let course : SiblingWalk = record { root = c.args.root; current = c.args.current; side = c.args.side; limit = Current } in
    let walks = child-walks f c.state_law.ensures.once filter c.args.root c.args.current (occurs-HasNode f c.args.current c.requires) c.args.side in
    let first = told_at c.at.ensures.tree c.at.ensures.node (λ (t : Grove g.row.X.Denot) (n : ℕ). child_on c.args.side t.forest n) c.child.ensures.node in
    let none : c.from_residual.result ≡ None = search rules in
    none ∙ begin_none (child_on c.args.side f c.args.current) walks (first ∙ ap node_at c.in_err-child.was)

pub run-requires : goal.run-requires
run-requires g c =
    let f = c.args.tree.now.forest in
    let filter = c.args.filter.now in
    let course : SiblingWalk = record { root = c.args.root; current = c.args.current; side = c.args.side; limit = Current } in
    let walks = child-walks f c.state_law.ensures.once filter c.args.root c.args.current (occurs-HasNode f c.args.current c.requires) c.args.side in
    let first = told_at c.at.ensures.tree c.at.ensures.node (λ (t : Grove g.row.X.Denot) (n : ℕ). child_on c.args.side t.forest n) c.child.ensures.node in
    let there = c.child.ensures.tree c.in_ok-child.child c.in_ok-child.was ∙ c.at.ensures.tree in
    let on = begin_some (child_on c.args.side f c.args.current) (ended None) c.in_ok-child.child.node walks (first ∙ ap node_at c.in_ok-child.was) in
    subst (λ (t : Grove g.row.X.Denot). Ending t.forest filter course (at c.in_ok-child.child.node)) (sym there) on.ends

pub returns : goal.returns
returns g c =
    let f = c.args.tree.now.forest in
    let filter = c.args.filter.now in
    let course : SiblingWalk = record { root = c.args.root; current = c.args.current; side = c.args.side; limit = Current } in
    let walks = child-walks f c.state_law.ensures.once filter c.args.root c.args.current (occurs-HasNode f c.args.current c.requires) c.args.side in
    let first = told_at c.at.ensures.tree c.at.ensures.node (λ (t : Grove g.row.X.Denot) (n : ℕ). child_on c.args.side t.forest n) c.child.ensures.node in
    let there = c.child.ensures.tree c.in_ok-child.child c.in_ok-child.was ∙ c.at.ensures.tree in
    let on = begin_some (child_on c.args.side f c.args.current) (ended None) c.in_ok-child.child.node walks (first ∙ ap node_at c.in_ok-child.was) in
    c.run.ensures ∙ ap (λ (t : Grove g.row.X.Denot). found_from t.forest filter course (at c.in_ok-child.child.node)) there ∙ on.finds
