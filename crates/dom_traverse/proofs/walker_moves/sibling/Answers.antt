-- The walk begins past the current node.
use Rattle.std.proofs.Common.{rules, ◌≡◌, ℕ, None, ap, sym, ◌∙◌, subst}
use Rattle.dom_model.specs.Definitions.{Grove, at, ended, at_or}
use Rattle.dom_model.proofs.Forests.Entries.{occurs-HasNode}
use Rattle.dom_tree.specs.Spots.{node_at}
use Rattle.dom_traverse.specs.{declared.sibling_walk.Limit.TheVariants.Accepted, declared.sibling_walk.SiblingWalk.SiblingWalk, SiblingWalks.past_in, SiblingWalks.Ending, SiblingWalks.LeadsTo, SiblingWalks.found_from}
use Rattle.dom_traverse.proofs.{SpotLemmas.come_at, SpotLemmas.gone_at, WalkerMoveLemmas.sibling-walks, WalkerMoveLemmas.come_none, WalkerMoveLemmas.come_some}
use Rattle.dom_traverse.proofs.walker_moves.sibling.Goals as goal

pub past-requires : goal.past-requires
past-requires g c =
    let f = c.args.tree.now.forest in
    let filter = c.args.filter.now in
    let course : SiblingWalk = record { root = c.args.root; current = c.args.current; side = c.args.side; limit = Accepted } in
    let walks = sibling-walks f c.state_law.ensures.once filter c.args.root c.args.current (occurs-HasNode f c.args.current c.requires) c.args.side (sym c.eq.ensures ∙ c.if-eq.false) in
    gone_at c.at.ensures.tree c.at.ensures.node (λ (t : Grove g.row.X.Denot) (n : ℕ). Ending t.forest filter course (past_in t.forest filter course n)) walks.ends

pub returns-in_err-sibling : goal.returns-in_err-sibling
returns-in_err-sibling g c =
    let f = c.args.tree.now.forest in
    let filter = c.args.filter.now in
    let course : SiblingWalk = record { root = c.args.root; current = c.args.current; side = c.args.side; limit = Accepted } in
    let walks = sibling-walks f c.state_law.ensures.once filter c.args.root c.args.current (occurs-HasNode f c.args.current c.requires) c.args.side (sym c.eq.ensures ∙ c.if-eq.false) in
    let leads = come_at c.at.ensures.tree c.at.ensures.node (λ (t : Grove g.row.X.Denot) (n : ℕ). LeadsTo t.forest filter course (past_in t.forest filter course n) (at_or (node_at c.past.result) (ended None))) c.past.ensures.leads in
    let none : c.from_residual.result ≡ None = search rules in
    none ∙ come_none _ (node_at c.past.result) walks leads (ap node_at c.in_err-sibling.was)

pub run-requires : goal.run-requires
run-requires g c =
    let f = c.args.tree.now.forest in
    let filter = c.args.filter.now in
    let course : SiblingWalk = record { root = c.args.root; current = c.args.current; side = c.args.side; limit = Accepted } in
    let walks = sibling-walks f c.state_law.ensures.once filter c.args.root c.args.current (occurs-HasNode f c.args.current c.requires) c.args.side (sym c.eq.ensures ∙ c.if-eq.false) in
    let leads = come_at c.at.ensures.tree c.at.ensures.node (λ (t : Grove g.row.X.Denot) (n : ℕ). LeadsTo t.forest filter course (past_in t.forest filter course n) (at_or (node_at c.past.result) (ended None))) c.past.ensures.leads in
    let there = c.past.ensures.tree c.in_ok-sibling.sibling c.in_ok-sibling.was ∙ c.at.ensures.tree in
    let on = come_some _ (node_at c.past.result) c.in_ok-sibling.sibling.node walks leads (ap node_at c.in_ok-sibling.was) in
    subst (λ (t : Grove g.row.X.Denot). Ending t.forest filter course (at c.in_ok-sibling.sibling.node)) (sym there) on.ends

pub returns : goal.returns
returns g c =
    let f = c.args.tree.now.forest in
    let filter = c.args.filter.now in
    let course : SiblingWalk = record { root = c.args.root; current = c.args.current; side = c.args.side; limit = Accepted } in
    let walks = sibling-walks f c.state_law.ensures.once filter c.args.root c.args.current (occurs-HasNode f c.args.current c.requires) c.args.side (sym c.eq.ensures ∙ c.if-eq.false) in
    let leads = come_at c.at.ensures.tree c.at.ensures.node (λ (t : Grove g.row.X.Denot) (n : ℕ). LeadsTo t.forest filter course (past_in t.forest filter course n) (at_or (node_at c.past.result) (ended None))) c.past.ensures.leads in
    let there = c.past.ensures.tree c.in_ok-sibling.sibling c.in_ok-sibling.was ∙ c.at.ensures.tree in
    let on = come_some _ (node_at c.past.result) c.in_ok-sibling.sibling.node walks leads (ap node_at c.in_ok-sibling.was) in
    c.run.ensures ∙ ap (λ (t : Grove g.row.X.Denot). found_from t.forest filter course (at c.in_ok-sibling.sibling.node)) there ∙ on.finds
