-- Each step goes on to the next sibling, or up.
use Rattle.std.proofs.Common.{◌==◌, refl, sym, ◌∙◌}
use Rattle.std.proofs.lemmas.Bool.{not-true, not-false, eqb-true, eqb-false}
use Rattle.dom_model.proofs.Forests.{Above.above, ToTheRoot.shorter, ToTheRoot.inside, TreeOrder.Stepping.tree-next, TreeOrder.Stepping.tree-up, TreeOrder.Stepping.tree-top, TreeOrder.Stepping.tree-parent}
use Rattle.dom_traverse.proofs.FollowingNodeLemmas.{following-past}
use Rattle.dom_traverse.proofs.preceding_and_following.past_inside.Goals as goal

pub loop-top-init : goal.loop-top-init
loop-top-init g c = record { there = c.requires.held; within = inside c.state_law.ensures c.args.top c.args.node c.requires.under; same = refl }

pub next-requires : goal.next-requires
next-requires g c = c.loop-top.invariant.there

pub returns-in-Some : goal.returns-in-Some
returns-in-Some g c =
    sym (following-past c.args.tree.now.forest c.state_law.ensures.once c.args.node c.args.top (inside c.state_law.ensures c.args.top c.args.node c.requires.under) ∙ c.loop-top.invariant.same
    ∙ tree-next c.state_law.ensures c.args.top c.loop-top.here c.in-Some.next c.loop-top.invariant.within (eqb-false c.loop-top.here c.args.top (not-true (c.loop-top.here == c.args.top) (sym c.ne.ensures ∙ c.loop-top-test.true))) (sym c.next.ensures ∙ c.in-Some.is))

pub parent-requires : goal.parent-requires
parent-requires g c = c.loop-top.invariant.there

pub unwrap-here-requires : goal.unwrap-here-requires
unwrap-here-requires g c =
    rw c.parent.ensures (tree-parent c.state_law.ensures c.args.top c.loop-top.here c.loop-top.invariant.within (eqb-false c.loop-top.here c.args.top (not-true (c.loop-top.here == c.args.top) (sym c.ne.ensures ∙ c.loop-top-test.true))) (sym c.next.ensures ∙ c.in_default.is))

pub loop-top-smaller : goal.loop-top-smaller
loop-top-smaller g c = shorter c.args.tree.now.forest c.loop-top.here c.unwrap-here.result (above c.state_law.ensures c.loop-top.here c.unwrap-here.result c.loop-top.invariant.there (sym c.parent.ensures ∙ c.unwrap-here.ensures))

pub loop-top-preserved : goal.loop-top-preserved
loop-top-preserved g c =
    let k = tree-up c.state_law.ensures c.args.top c.loop-top.here c.unwrap-here.result c.loop-top.invariant.within (eqb-false c.loop-top.here c.args.top (not-true (c.loop-top.here == c.args.top) (sym c.ne.ensures ∙ c.loop-top-test.true))) (sym c.next.ensures ∙ c.in_default.is) (sym c.parent.ensures ∙ c.unwrap-here.ensures) in
    record {
      there = (above c.state_law.ensures c.loop-top.here c.unwrap-here.result c.loop-top.invariant.there (sym c.parent.ensures ∙ c.unwrap-here.ensures)).there;
      within = k.0;
      same = c.loop-top.invariant.same ∙ k.1;
    }

pub returns : goal.returns
returns g c =
    sym (following-past c.args.tree.now.forest c.state_law.ensures.once c.args.node c.args.top (inside c.state_law.ensures c.args.top c.args.node c.requires.under) ∙ c.loop-top.invariant.same
    ∙ tree-top c.state_law.ensures c.args.top c.loop-top.here c.loop-top.invariant.within (eqb-true c.loop-top.here c.args.top (not-false (c.loop-top.here == c.args.top) (sym c.ne.ensures ∙ c.loop-top-test.false))))
