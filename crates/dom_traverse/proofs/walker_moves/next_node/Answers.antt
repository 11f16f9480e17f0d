-- The walk begins at the first child, or past the current node.
use Rattle.std.proofs.Common.{rules, ◌≡◌, ℕ, None, ap, sym, ◌∙◌, subst}
use Rattle.dom_model.specs.Definitions.{head_of, Grove, children_of, at, leaving, ended, at_or}
use Rattle.dom_model.proofs.Forests.Entries.{occurs-HasNode}
use Rattle.dom_tree.specs.Spots.{node_at}
use Rattle.dom_traverse.specs.{declared.sibling_walk.Side.TheVariants.First, declared.sibling_walk.Limit.TheVariants.Root, declared.sibling_walk.SiblingWalk.SiblingWalk, SiblingWalks.past_in, SiblingWalks.Ending, SiblingWalks.LeadsTo, SiblingWalks.found_from}
use Rattle.dom_traverse.proofs.{SpotLemmas.told_at, SpotLemmas.come_at, SpotLemmas.gone_at, WalkerMoveLemmas.following-walks, WalkerMoveLemmas.following-leave, WalkerMoveLemmas.come_none, WalkerMoveLemmas.come_some, WalkerMoveLemmas.begin_some}
use Rattle.dom_traverse.proofs.walker_moves.next_node.Goals as goal

pub run-requires : goal.run-requires
run-requires g c =
    let f = c.args.tree.now.forest in
    let filter = c.args.filter.now in
    let course : SiblingWalk = record { root = c.args.root; current = c.args.current; side = First; limit = Root } in
    let first = told_at c.at-here.ensures.tree c.at-here.ensures.node (λ (t : Grove g.row.X.Denot) (n : ℕ). head_of (children_of t.forest n)) c.first.ensures.node in
    let there = c.first.ensures.tree c.in-Some.child c.in-Some.is ∙ c.at-here.ensures.tree in
    let on = begin_some (head_of (children_of f c.args.current)) (leaving c.args.current) c.in-Some.child.node (following-walks f c.state_law.ensures.once filter c.args.root c.args.current (occurs-HasNode f c.args.current c.requires)) (first ∙ ap node_at c.in-Some.is) in
    subst (λ (t : Grove g.row.X.Denot). Ending t.forest filter course (at c.in-Some.child.node)) (sym there) on.ends

pub returns-in-Some : goal.returns-in-Some
returns-in-Some g c =
    let f = c.args.tree.now.forest in
    let filter = c.args.filter.now in
    let course : SiblingWalk = record { root = c.args.root; current = c.args.current; side = First; limit = Root } in
    let first = told_at c.at-here.ensures.tree c.at-here.ensures.node (λ (t : Grove g.row.X.Denot) (n : ℕ). head_of (children_of t.forest n)) c.first.ensures.node in
    let there = c.first.ensures.tree c.in-Some.child c.in-Some.is ∙ c.at-here.ensures.tree in
    let on = begin_some (head_of (children_of f c.args.current)) (leaving c.args.current) c.in-Some.child.node (following-walks f c.state_law.ensures.once filter c.args.root c.args.current (occurs-HasNode f c.args.current c.requires)) (first ∙ ap node_at c.in-Some.is) in
    c.run.ensures ∙ ap (λ (t : Grove g.row.X.Denot). found_from t.forest filter course (at c.in-Some.child.node)) there ∙ on.finds

pub past-requires : goal.past-requires
past-requires g c =
    let f = c.args.tree.now.forest in
    let filter = c.args.filter.now in
    let course : SiblingWalk = record { root = c.args.root; current = c.args.current; side = First; limit = Root } in
    let first = told_at c.at-here.ensures.tree c.at-here.ensures.node (λ (t : Grove g.row.X.Denot) (n : ℕ). head_of (children_of t.forest n)) c.first.ensures.node in
    let walks = following-leave f c.state_law.ensures.once filter c.args.root c.args.current (occurs-HasNode f c.args.current c.requires) (first ∙ ap node_at c.in_default.is) in
    gone_at c.at-here.ensures.tree c.at-here.ensures.node (λ (t : Grove g.row.X.Denot) (n : ℕ). Ending t.forest filter course (past_in t.forest filter course n)) walks.ends

pub returns-in_err-next : goal.returns-in_err-next
returns-in_err-next g c =
    let f = c.args.tree.now.forest in
    let filter = c.args.filter.now in
    let course : SiblingWalk = record { root = c.args.root; current = c.args.current; side = First; limit = Root } in
    let first = told_at c.at-here.ensures.tree c.at-here.ensures.node (λ (t : Grove g.row.X.Denot) (n : ℕ). head_of (children_of t.forest n)) c.first.ensures.node in
    let walks = following-leave f c.state_law.ensures.once filter c.args.root c.args.current (occurs-HasNode f c.args.current c.requires) (first ∙ ap node_at c.in_default.is) in
    let leads = come_at c.at-here.ensures.tree c.at-here.ensures.node (λ (t : Grove g.row.X.Denot) (n : ℕ). LeadsTo t.forest filter course (past_in t.forest filter course n) (at_or (node_at c.past.result) (ended None))) c.past.ensures.leads in
    let none : c.from_residual.result ≡ None = search rules in
    none ∙ come_none _ (node_at c.past.result) walks leads (ap node_at c.in_err-next.was)

pub run-requires-2 : goal.run-requires-2
run-requires-2 g c =
    let f = c.args.tree.now.forest in
    let filter = c.args.filter.now in
    let course : SiblingWalk = record { root = c.args.root; current = c.args.current; side = First; limit = Root } in
    let first = told_at c.at-here.ensures.tree c.at-here.ensures.node (λ (t : Grove g.row.X.Denot) (n : ℕ). head_of (children_of t.forest n)) c.first.ensures.node in
    let walks = following-leave f c.state_law.ensures.once filter c.args.root c.args.current (occurs-HasNode f c.args.current c.requires) (first ∙ ap node_at c.in_default.is) in
    let leads = come_at c.at-here.ensures.tree c.at-here.ensures.node (λ (t : Grove g.row.X.Denot) (n : ℕ). LeadsTo t.forest filter course (past_in t.forest filter course n) (at_or (node_at c.past.result) (ended None))) c.past.ensures.leads in
    let there = c.past.ensures.tree c.in_ok-next.next c.in_ok-next.was ∙ c.at-here.ensures.tree in
    let on = come_some _ (node_at c.past.result) c.in_ok-next.next.node walks leads (ap node_at c.in_ok-next.was) in
    subst (λ (t : Grove g.row.X.Denot). Ending t.forest filter course (at c.in_ok-next.next.node)) (sym there) on.ends

pub returns : goal.returns
returns g c =
    let f = c.args.tree.now.forest in
    let filter = c.args.filter.now in
    let course : SiblingWalk = record { root = c.args.root; current = c.args.current; side = First; limit = Root } in
    let first = told_at c.at-here.ensures.tree c.at-here.ensures.node (λ (t : Grove g.row.X.Denot) (n : ℕ). head_of (children_of t.forest n)) c.first.ensures.node in
    let walks = following-leave f c.state_law.ensures.once filter c.args.root c.args.current (occurs-HasNode f c.args.current c.requires) (first ∙ ap node_at c.in_default.is) in
    let leads = come_at c.at-here.ensures.tree c.at-here.ensures.node (λ (t : Grove g.row.X.Denot) (n : ℕ). LeadsTo t.forest filter course (past_in t.forest filter course n) (at_or (node_at c.past.result) (ended None))) c.past.ensures.leads in
    let there = c.past.ensures.tree c.in_ok-next.next c.in_ok-next.was ∙ c.at-here.ensures.tree in
    let on = come_some _ (node_at c.past.result) c.in_ok-next.next.node walks leads (ap node_at c.in_ok-next.was) in
    c.run-2.ensures ∙ ap (λ (t : Grove g.row.X.Denot). found_from t.forest filter course (at c.in_ok-next.next.node)) there ∙ on.finds
