-- On to a sibling, or up.
use Rattle.std.proofs.Common.{rules, ◌≡◌, false, None, refl, ap, sym, ◌∙◌, subst, Option}
use Rattle.dom_model.specs.Definitions.{Grove, parent_of, at, ended, at_or}
use Rattle.dom_model.proofs.Traversal.WalksEnd.{Leads-then}
use Rattle.dom_tree.specs.Spots.{Spot, node_at}
use Rattle.dom_traverse.specs.SiblingWalks.{past_in, sibling_on, blocks, stops, LeadsTo}
use Rattle.dom_traverse.proofs.{SiblingWalkLemmas.past-over, SiblingWalkLemmas.past-sibling, SiblingWalkLemmas.past-none, SiblingWalkLemmas.past-stop, SiblingWalkLemmas.past-parent, SiblingWalkLemmas.stays, SpotLemmas.told, SpotLemmas.for-one}
use Rattle.dom_traverse.proofs.sibling_walk.SiblingWalk.past.Goals as goal

pub loop-here-init : goal.loop-here-init
loop-here-init g c =
    let f = c.args.node.tree.forest in
    record { tree = refl; leads = stays f c.args.filter.now c.args.self.now (past_in f c.args.filter.now c.args.self.now c.args.node.node) (past_in f c.args.filter.now c.args.self.now c.args.node.node) refl }

pub loop-here-smaller : goal.loop-here-smaller
loop-here-smaller g c =
    let f = c.args.node.tree.forest in
    let filter = c.args.filter.now in
    let here = c.loop-here.here.node in
    let e = c.loop-here.invariant.tree in
    let off : blocks c.args.self.now.limit c.args.self.now.root here ≡ false = sym c.is_over.ensures ∙ c.loop-here-test.true in
    let none = told e (λ (t : Grove g.row.X.Denot). sibling_on c.args.self.now.side t.forest here) c.sibling.ensures.node ∙ ap node_at c.in_default.is in
    let above = told e (λ (t : Grove g.row.X.Denot). parent_of t.forest here) c.parent.ensures.node ∙ ap node_at c.in_ok-here.was in
    let there = c.parent.ensures.tree c.in_ok-here.here c.in_ok-here.was ∙ e in
    let goes = told there (λ (t : Grove g.row.X.Denot). stops c.args.self.now.limit t.forest filter c.args.self.now.root c.args.self.now.current c.in_ok-here.here.node) c.stops_at.ensures in
    let i = past-parent f filter c.args.self.now here c.in_ok-here.here.node off none above (goes ∙ c.if-stops_at.false) in
    i.fewer (c.loop-here.invariant.leads.ends c.requires)

pub loop-here-preserved : goal.loop-here-preserved
loop-here-preserved g c =
    let f = c.args.node.tree.forest in
    let filter = c.args.filter.now in
    let here = c.loop-here.here.node in
    let e = c.loop-here.invariant.tree in
    let off : blocks c.args.self.now.limit c.args.self.now.root here ≡ false = sym c.is_over.ensures ∙ c.loop-here-test.true in
    let none = told e (λ (t : Grove g.row.X.Denot). sibling_on c.args.self.now.side t.forest here) c.sibling.ensures.node ∙ ap node_at c.in_default.is in
    let above = told e (λ (t : Grove g.row.X.Denot). parent_of t.forest here) c.parent.ensures.node ∙ ap node_at c.in_ok-here.was in
    let there = c.parent.ensures.tree c.in_ok-here.here c.in_ok-here.was ∙ e in
    let goes = told there (λ (t : Grove g.row.X.Denot). stops c.args.self.now.limit t.forest filter c.args.self.now.root c.args.self.now.current c.in_ok-here.here.node) c.stops_at.ensures in
    let i = past-parent f filter c.args.self.now here c.in_ok-here.here.node off none above (goes ∙ c.if-stops_at.false) in
    record { tree = there; leads = Leads-then c.loop-here.invariant.leads i.leads }

pub returns-in-Some-clause-tree : goal.returns-in-Some-clause-tree
returns-in-Some-clause-tree g c =
    for-one (λ (a : Spot g.row.X.Denot). a.tree ≡ c.args.node.tree) c.in-Some.sibling (c.sibling.ensures.tree c.in-Some.sibling c.in-Some.is ∙ c.loop-here.invariant.tree)

pub returns-in-Some-clause-leads : goal.returns-in-Some-clause-leads
returns-in-Some-clause-leads g c =
    let f = c.args.node.tree.forest in
    let filter = c.args.filter.now in
    let here = c.loop-here.here.node in
    let e = c.loop-here.invariant.tree in
    let off : blocks c.args.self.now.limit c.args.self.now.root here ≡ false = sym c.is_over.ensures ∙ c.loop-here-test.true in
    let on = told e (λ (t : Grove g.row.X.Denot). sibling_on c.args.self.now.side t.forest here) c.sibling.ensures.node ∙ ap node_at c.in-Some.is in
    Leads-then c.loop-here.invariant.leads (stays f filter c.args.self.now (past_in f filter c.args.self.now here) (at c.in-Some.sibling.node) (past-sibling f filter c.args.self.now here c.in-Some.sibling.node off on))

pub returns-in_err-here-clause-leads : goal.returns-in_err-here-clause-leads
returns-in_err-here-clause-leads g c =
    let f = c.args.node.tree.forest in
    let filter = c.args.filter.now in
    let here = c.loop-here.here.node in
    let e = c.loop-here.invariant.tree in
    let off : blocks c.args.self.now.limit c.args.self.now.root here ≡ false = sym c.is_over.ensures ∙ c.loop-here-test.true in
    let none = told e (λ (t : Grove g.row.X.Denot). sibling_on c.args.self.now.side t.forest here) c.sibling.ensures.node ∙ ap node_at c.in_default.is in
    let above = told e (λ (t : Grove g.row.X.Denot). parent_of t.forest here) c.parent.ensures.node ∙ ap node_at c.in_err-here.was in
    let ends : c.from_residual.result ≡ None = search rules in
    subst (λ (o : Option (Spot g.row.X.Denot)). LeadsTo f filter c.args.self.now (past_in f filter c.args.self.now c.args.node.node) (at_or (node_at o) (ended None))) (sym ends)
    (Leads-then c.loop-here.invariant.leads (stays f filter c.args.self.now (past_in f filter c.args.self.now here) (ended None) (past-none f filter c.args.self.now here off none above)))

pub returns-then-stops_at-clause-leads : goal.returns-then-stops_at-clause-leads
returns-then-stops_at-clause-leads g c =
    let f = c.args.node.tree.forest in
    let filter = c.args.filter.now in
    let here = c.loop-here.here.node in
    let e = c.loop-here.invariant.tree in
    let off : blocks c.args.self.now.limit c.args.self.now.root here ≡ false = sym c.is_over.ensures ∙ c.loop-here-test.true in
    let none = told e (λ (t : Grove g.row.X.Denot). sibling_on c.args.self.now.side t.forest here) c.sibling.ensures.node ∙ ap node_at c.in_default.is in
    let above = told e (λ (t : Grove g.row.X.Denot). parent_of t.forest here) c.parent.ensures.node ∙ ap node_at c.in_ok-here.was in
    let there = c.parent.ensures.tree c.in_ok-here.here c.in_ok-here.was ∙ e in
    let goes = told there (λ (t : Grove g.row.X.Denot). stops c.args.self.now.limit t.forest filter c.args.self.now.root c.args.self.now.current c.in_ok-here.here.node) c.stops_at.ensures in
    Leads-then c.loop-here.invariant.leads (stays f filter c.args.self.now (past_in f filter c.args.self.now here) (ended None) (past-stop f filter c.args.self.now here c.in_ok-here.here.node off none above (goes ∙ c.if-stops_at.true)))

pub returns-clause-leads : goal.returns-clause-leads
returns-clause-leads g c =
    let f = c.args.node.tree.forest in
    let filter = c.args.filter.now in
    let here = c.loop-here.here.node in
    Leads-then c.loop-here.invariant.leads (stays f filter c.args.self.now (past_in f filter c.args.self.now here) (ended None) (past-over f filter c.args.self.now here (sym c.is_over.ensures ∙ c.loop-here-test.false)))
