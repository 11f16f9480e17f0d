-- One ancestor after another.
use Rattle.std.proofs.Common.{rules, ◌≡◌, ◌==◌, ◌*◌, true, false, Some, None, ap, sym, ◌∙◌, subst}
use Rattle.std.proofs.lemmas.Bool.{not-true, not-false}
use Rattle.dom_model.specs.Definitions.{Grove, size, parent_of, accepts, leaving, parent_step, parent_by_steps}
use Rattle.dom_model.proofs.Forests.Entries.{occurs-HasNode}
use Rattle.dom_model.proofs.Traversal.WalksEnd.{Walks, Walks-on, parent-walks}
use Rattle.dom_tree.specs.Spots.{node_at}
use Rattle.dom_traverse.proofs.{SpotLemmas.told, WalkerMoveLemmas.parent-top, WalkerMoveLemmas.parent-none, WalkerMoveLemmas.parent-accepted, WalkerMoveLemmas.parent-on}
use Rattle.dom_traverse.proofs.walker_moves.parent_node.Goals as goal

pub at-here-requires : goal.at-here-requires
at-here-requires g c = c.requires

pub loop-here-init : goal.loop-here-init
loop-here-init g c =
    let f = c.args.tree.now.forest in
    record {
      tree = c.at-here.ensures.tree;
      walks =
          subst (λ n. Walks (parent_step f c.args.filter.now c.args.root c.args.current) (4 * size f) (leaving n) (parent_by_steps f c.args.filter.now c.args.root c.args.current)) (sym c.at-here.ensures.node)
          (parent-walks f c.state_law.ensures.once c.args.filter.now c.args.root c.args.current (occurs-HasNode f c.args.current c.requires));
    }

pub returns-in_err-here : goal.returns-in_err-here
returns-in_err-here g c =
    let f = c.args.tree.now.forest in
    let filter = c.args.filter.now in
    let here = c.loop-here.here.node in
    let e = c.loop-here.invariant.tree in
    let off : (here == c.args.root) ≡ false = ap (λ m. m == c.args.root) (sym c.number.ensures) ∙ not-true (c.number.result == c.args.root) (sym c.ne.ensures ∙ c.loop-here-test.true) in
    let above = told e (λ (t : Grove g.row.X.Denot). parent_of t.forest here) c.parent.ensures.node ∙ ap node_at c.in_err-here.was in
    let none : c.from_residual.result ≡ None = search rules in
    none ∙ (Walks-on c.loop-here.invariant.walks (parent-none f filter c.args.root c.args.current (4 * size f) here off above).leads).finds

pub returns-then-accepts : goal.returns-then-accepts
returns-then-accepts g c =
    let f = c.args.tree.now.forest in
    let filter = c.args.filter.now in
    let here = c.loop-here.here.node in
    let e = c.loop-here.invariant.tree in
    let off : (here == c.args.root) ≡ false = ap (λ m. m == c.args.root) (sym c.number.ensures) ∙ not-true (c.number.result == c.args.root) (sym c.ne.ensures ∙ c.loop-here-test.true) in
    let above = told e (λ (t : Grove g.row.X.Denot). parent_of t.forest here) c.parent.ensures.node ∙ ap node_at c.in_ok-here.was in
    let there = c.parent.ensures.tree c.in_ok-here.here c.in_ok-here.was ∙ e in
    let goes = told there (λ (t : Grove g.row.X.Denot). accepts t.forest filter c.in_ok-here.here.node) c.accepts.ensures in
    ap Some c.number-then-accepts.ensures ∙ (Walks-on c.loop-here.invariant.walks (parent-accepted f filter c.args.root c.args.current (4 * size f) here c.in_ok-here.here.node off above (goes ∙ c.if-accepts.true)).leads).finds

pub loop-here-smaller : goal.loop-here-smaller
loop-here-smaller g c =
    let f = c.args.tree.now.forest in
    let filter = c.args.filter.now in
    let here = c.loop-here.here.node in
    let e = c.loop-here.invariant.tree in
    let off : (here == c.args.root) ≡ false = ap (λ m. m == c.args.root) (sym c.number.ensures) ∙ not-true (c.number.result == c.args.root) (sym c.ne.ensures ∙ c.loop-here-test.true) in
    let above = told e (λ (t : Grove g.row.X.Denot). parent_of t.forest here) c.parent.ensures.node ∙ ap node_at c.in_ok-here.was in
    let there = c.parent.ensures.tree c.in_ok-here.here c.in_ok-here.was ∙ e in
    let goes = told there (λ (t : Grove g.row.X.Denot). accepts t.forest filter c.in_ok-here.here.node) c.accepts.ensures in
    (parent-on f filter c.args.root c.args.current (4 * size f) here c.in_ok-here.here.node off above (goes ∙ c.if-accepts.false)).fewer c.loop-here.invariant.walks.ends

pub loop-here-preserved : goal.loop-here-preserved
loop-here-preserved g c =
    let f = c.args.tree.now.forest in
    let filter = c.args.filter.now in
    let here = c.loop-here.here.node in
    let e = c.loop-here.invariant.tree in
    let off : (here == c.args.root) ≡ false = ap (λ m. m == c.args.root) (sym c.number.ensures) ∙ not-true (c.number.result == c.args.root) (sym c.ne.ensures ∙ c.loop-here-test.true) in
    let above = told e (λ (t : Grove g.row.X.Denot). parent_of t.forest here) c.parent.ensures.node ∙ ap node_at c.in_ok-here.was in
    let there = c.parent.ensures.tree c.in_ok-here.here c.in_ok-here.was ∙ e in
    let goes = told there (λ (t : Grove g.row.X.Denot). accepts t.forest filter c.in_ok-here.here.node) c.accepts.ensures in
    record {
      tree = there;
      walks = Walks-on c.loop-here.invariant.walks (parent-on f filter c.args.root c.args.current (4 * size f) here c.in_ok-here.here.node off above (goes ∙ c.if-accepts.false)).leads;
    }

pub returns : goal.returns
returns g c =
    let f = c.args.tree.now.forest in
    let filter = c.args.filter.now in
    let here = c.loop-here.here.node in
    let e = c.loop-here.invariant.tree in
    let over : (here == c.args.root) ≡ true = ap (λ m. m == c.args.root) (sym c.number.ensures) ∙ not-false (c.number.result == c.args.root) (sym c.ne.ensures ∙ c.loop-here-test.false) in
    (Walks-on c.loop-here.invariant.walks (parent-top f filter c.args.root c.args.current (4 * size f) here over).leads).finds
