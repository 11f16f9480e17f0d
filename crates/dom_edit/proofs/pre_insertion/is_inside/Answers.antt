-- Each step goes to the parent, past a node that is not the one.
use Rattle.std.proofs.Common.{is_some, ◌≡◌, ◌==◌, true, false, not, Option, Some, None, refl, ap, sym, ◌∙◌}
use Rattle.std.proofs.lemmas.Bool.{false≢true, not-true, not-false}
use Rattle.dom_model.specs.Definitions.{head_of, Grove, parent_of, children_of, Content}
use Rattle.dom_model.proofs.Forests.{Above.above, ToTheRoot.shorter, ToTheRoot.among-above, ToTheRoot.among-here, ToTheRoot.among-top, ToTheRoot.inside-same}
use Rattle.dom_tree.specs.Spots.{Spot, node_at}
use Rattle.dom_tree.proofs.RefersLemmas.{inside-alone}
use Rattle.dom_traverse.proofs.SpotLemmas.{told}
use Rattle.dom_edit.proofs.pre_insertion.is_inside.Goals as goal

no-spot : (o : Option (Spot Content)) → is_some o ≡ false → node_at o ≡ None
no-spot None e = refl
no-spot (Some s) e = absurd (false≢true (sym e))

pub returns-then-is_none : goal.returns-then-is_none
returns-then-is_none c =
    let f = c.args.top.now.tree.forest in
    let bare : head_of (children_of f c.args.top.now.node) ≡ None = sym c.first.ensures.node ∙ no-spot c.first.result (c.is_none.ensures ∙ ap not c.if-is_none.true) in
    c.eq.ensures
    ∙ ap (λ m. m == c.number-end.result) c.number.ensures
    ∙ ap (λ m. c.args.node.node == m) c.number-end.ensures
    ∙ sym (inside-alone c.state_law.ensures.forest c.args.top.now.node c.state_law.ensures.there bare c.args.node.node)

pub returns-in_default : goal.returns-in_default
returns-in_default c =
    let f = c.args.top.now.tree.forest in
    let top = c.args.top.now.node in
    let here = c.loop-here.here.node in
    let met = ap (λ m. m == top) (sym c.number-in-loop-here.ensures) ∙ ap (λ m. c.number-in-loop-here.result == m) (sym c.number-end.ensures) in
    let off : (here == top) ≡ false = met ∙ not-true (c.number-in-loop-here.result == c.number-end.result) (sym c.ne.ensures ∙ c.loop-here-test.true) in
    let none = told c.loop-here.invariant.tree (λ (t : Grove Content). parent_of t.forest here) c.parent.ensures.node ∙ ap node_at c.in_default.is in
    among-top c.state_law.ensures.forest top here c.loop-here.invariant.there none off ∙ c.loop-here.invariant.same ∙ inside-same c.state_law.ensures.forest top c.args.node.node

pub loop-here-smaller : goal.loop-here-smaller
loop-here-smaller c =
    let f = c.args.top.now.tree.forest in
    let here = c.loop-here.here.node in
    let next = c.in-Some.above.node in
    let up = told c.loop-here.invariant.tree (λ (t : Grove Content). parent_of t.forest here) c.parent.ensures.node ∙ ap node_at c.in-Some.is in
    shorter f here next (above c.state_law.ensures.forest here next c.loop-here.invariant.there up)

pub loop-here-preserved : goal.loop-here-preserved
loop-here-preserved c =
    let f = c.args.top.now.tree.forest in
    let top = c.args.top.now.node in
    let here = c.loop-here.here.node in
    let next = c.in-Some.above.node in
    let met = ap (λ m. m == top) (sym c.number-in-loop-here.ensures) ∙ ap (λ m. c.number-in-loop-here.result == m) (sym c.number-end.ensures) in
    let off : (here == top) ≡ false = met ∙ not-true (c.number-in-loop-here.result == c.number-end.result) (sym c.ne.ensures ∙ c.loop-here-test.true) in
    let up = told c.loop-here.invariant.tree (λ (t : Grove Content). parent_of t.forest here) c.parent.ensures.node ∙ ap node_at c.in-Some.is in
    let a = above c.state_law.ensures.forest here next c.loop-here.invariant.there up in
    record {
      tree = c.parent.ensures.tree c.in-Some.above c.in-Some.is ∙ c.loop-here.invariant.tree;
      there = a.there;
      same = among-above f top here next a off ∙ c.loop-here.invariant.same;
    }

pub returns : goal.returns
returns c =
    let f = c.args.top.now.tree.forest in
    let top = c.args.top.now.node in
    let here = c.loop-here.here.node in
    let met = ap (λ m. m == top) (sym c.number-in-loop-here.ensures) ∙ ap (λ m. c.number-in-loop-here.result == m) (sym c.number-end.ensures) in
    let on : (here == top) ≡ true = met ∙ not-false (c.number-in-loop-here.result == c.number-end.result) (sym c.ne.ensures ∙ c.loop-here-test.false) in
    among-here f top here c.loop-here.invariant.there on ∙ c.loop-here.invariant.same ∙ inside-same c.state_law.ensures.forest top c.args.node.node
