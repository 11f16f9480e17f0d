-- One last child further down.
use Rattle.std.proofs.Common.{◌≡◌, false, refl, ap, ◌∙◌, inl, inr}
use Rattle.dom_model.specs.Definitions.{last_of, Grove, children_of, rejects}
use Rattle.dom_model.proofs.Forests.TreeOrder.Ending.{last-down}
use Rattle.dom_tree.specs.Spots.{node_at}
use Rattle.dom_traverse.specs.Ends.{begun, down}
use Rattle.dom_traverse.proofs.SpotLemmas.{told}
use Rattle.dom_traverse.proofs.walker_moves.end_of.Goals as goal

pub loop-here-init : goal.loop-here-init
loop-here-init g c = record { tree = refl; there = c.state_law.ensures.there; descends = begun }

pub loop-here-smaller : goal.loop-here-smaller
loop-here-smaller g c =
    let f = c.args.node.tree.forest in
    let here = c.loop-here.here.node in
    let e = c.loop-here.invariant.tree in
    let last = told e (λ (t : Grove g.row.X.Denot). last_of (children_of t.forest here)) c.last.ensures.node ∙ ap node_at c.in-Some.is in
    let below = last-down c.state_law.ensures.forest here c.in-Some.last.node c.loop-here.invariant.there last in
    below.1.0

pub loop-here-preserved : goal.loop-here-preserved
loop-here-preserved g c =
    let f = c.args.node.tree.forest in
    let here = c.loop-here.here.node in
    let e = c.loop-here.invariant.tree in
    let last = told e (λ (t : Grove g.row.X.Denot). last_of (children_of t.forest here)) c.last.ensures.node ∙ ap node_at c.in-Some.is in
    let below = last-down c.state_law.ensures.forest here c.in-Some.last.node c.loop-here.invariant.there last in
    let n : rejects f c.args.filter.now here ≡ false = told e (λ (t : Grove g.row.X.Denot). rejects t.forest c.args.filter.now here) c.rejects.ensures ∙ c.loop-here-test.true in
    record {
      tree = c.last.ensures.tree c.in-Some.last c.in-Some.is ∙ e;
      there = below.1.1;
      descends = down here c.in-Some.last.node c.loop-here.invariant.descends n last;
    }

pub returns-in-None-clause-end : goal.returns-in-None-clause-end
returns-in-None-clause-end g c =
    let f = c.args.node.tree.forest in
    let here = c.loop-here.here.node in
    let e = c.loop-here.invariant.tree in
    inr (told e (λ (t : Grove g.row.X.Denot). last_of (children_of t.forest here)) c.last.ensures.node ∙ ap node_at c.in-None.is)

pub returns-clause-end : goal.returns-clause-end
returns-clause-end g c =
    let f = c.args.node.tree.forest in
    let here = c.loop-here.here.node in
    let e = c.loop-here.invariant.tree in
    inl (told e (λ (t : Grove g.row.X.Denot). rejects t.forest c.args.filter.now here) c.rejects.ensures ∙ c.loop-here-test.false)
