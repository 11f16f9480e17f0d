-- One node after another.
use Rattle.std.proofs.Common.{tests, rules, ◌≡◌, Option, None, Some, refl, ap, sym, ◌∙◌, subst}
use Rattle.dom_model.specs.declared.Verdict.TheVariants.{Accept}
use Rattle.dom_model.specs.Definitions.{Grove, verdict_on, at, ended, at_or}
use Rattle.dom_model.proofs.Traversal.WalksEnd.{Leads-then}
use Rattle.dom_tree.specs.Spots.{Spot, node_at}
use Rattle.dom_traverse.specs.SiblingWalks.{Ending, GoesOnTo}
use Rattle.dom_traverse.proofs.{SiblingWalkLemmas.stays, SiblingWalkLemmas.accepted-here, SpotLemmas.told}
use Rattle.dom_traverse.proofs.sibling_walk.SiblingWalk.run.Goals as goal

pub loop-verdict-init : goal.loop-verdict-init
loop-verdict-init g c = record { tree = refl; leads = stays c.args.node.tree.forest c.args.filter.now c.args.self.now (at c.args.node.node) (at c.args.node.node) refl }

pub returns-then-eq : goal.returns-then-eq
returns-then-eq g c =
    let f = c.args.node.tree.forest in
    let filter = c.args.filter.now in
    let here = c.loop-verdict.here.node in
    let l = c.loop-verdict.invariant.leads in
    let accepted : c.judge-verdict.result ≡ Accept = search (tests, rules) in
    let v = told c.loop-verdict.invariant.tree (λ (t : Grove g.row.X.Denot). verdict_on t.forest filter here) c.judge-verdict.ensures ∙ accepted in
    ap Some c.number.ensures ∙ sym (l.finds c.requires ∙ (accepted-here f filter c.args.self.now here v).leads.finds (l.ends c.requires))

pub onward-requires-clause-ends : goal.onward-requires-clause-ends
onward-requires-clause-ends g c =
    subst (λ (t : Grove g.row.X.Denot). Ending t.forest c.args.filter.now c.args.self.now (at c.loop-verdict.here.node)) (sym c.loop-verdict.invariant.tree) (c.loop-verdict.invariant.leads.ends c.requires)

pub returns-in_err-here : goal.returns-in_err-here
returns-in_err-here g c =
    let here = c.loop-verdict.here.node in
    let l = c.loop-verdict.invariant.leads in
    let there = subst (λ (t : Grove g.row.X.Denot). GoesOnTo t.forest c.args.filter.now c.args.self.now (at here) (at_or (node_at c.onward.result) (ended None))) c.loop-verdict.invariant.tree c.onward.ensures.leads in
    let goes = subst (λ (o : Option (Spot g.row.X.Denot)). GoesOnTo c.args.node.tree.forest c.args.filter.now c.args.self.now (at here) (at_or (node_at o) (ended None))) c.in_err-here.was there in
    let none : c.from_residual.result ≡ None = search rules in
    none ∙ sym (l.finds c.requires ∙ goes.leads.finds (l.ends c.requires))

pub loop-verdict-smaller : goal.loop-verdict-smaller
loop-verdict-smaller g c =
    let here = c.loop-verdict.here.node in
    let there = subst (λ (t : Grove g.row.X.Denot). GoesOnTo t.forest c.args.filter.now c.args.self.now (at here) (at_or (node_at c.onward.result) (ended None))) c.loop-verdict.invariant.tree c.onward.ensures.leads in
    let goes = subst (λ (o : Option (Spot g.row.X.Denot)). GoesOnTo c.args.node.tree.forest c.args.filter.now c.args.self.now (at here) (at_or (node_at o) (ended None))) c.in_ok-here.was there in
    goes.fewer (c.loop-verdict.invariant.leads.ends c.requires)

pub loop-verdict-preserved : goal.loop-verdict-preserved
loop-verdict-preserved g c =
    let here = c.loop-verdict.here.node in
    let there = subst (λ (t : Grove g.row.X.Denot). GoesOnTo t.forest c.args.filter.now c.args.self.now (at here) (at_or (node_at c.onward.result) (ended None))) c.loop-verdict.invariant.tree c.onward.ensures.leads in
    let goes = subst (λ (o : Option (Spot g.row.X.Denot)). GoesOnTo c.args.node.tree.forest c.args.filter.now c.args.self.now (at here) (at_or (node_at o) (ended None))) c.in_ok-here.was there in
    record {
      tree = c.onward.ensures.tree c.in_ok-here.here c.in_ok-here.was ∙ c.loop-verdict.invariant.tree;
      leads = Leads-then c.loop-verdict.invariant.leads goes.leads;
    }
