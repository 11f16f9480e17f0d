-- Back to the end of a sibling, or up.
use Rattle.std.proofs.Common.{rules, ◌≡◌, ◌==◌, ◌*◌, true, false, Some, None, refl, ap, sym, ◌∙◌, subst, tests}
use Rattle.dom_model.specs.Definitions.{Grove, size, parent_of, previous_of, accepts, back_past_node, previous_step, previous_by_steps}
use Rattle.dom_model.proofs.Forests.Entries.{occurs-HasNode}
use Rattle.dom_model.proofs.Traversal.WalksEnd.{Walks, Walks-on, LeadsOn-leaving, previous-walks}
use Rattle.dom_tree.specs.Spots.{node_at}
use Rattle.dom_traverse.specs.Ends.{Descends, IsEnd}
use Rattle.dom_traverse.proofs.{SpotLemmas.told, WalkerMoveLemmas.back-accepted, WalkerMoveLemmas.back-on, WalkerMoveLemmas.back-root, WalkerMoveLemmas.back-none, WalkerMoveLemmas.back-parent, WalkerMoveLemmas.back-parent_root, WalkerMoveLemmas.back-up, WalkerMoveLemmas.end_found}
use Rattle.dom_traverse.proofs.walker_moves.previous_node.Goals as goal

pub returns-then-eq : goal.returns-then-eq
returns-then-eq g c = search (tests, rules)

pub loop-sibling-init : goal.loop-sibling-init
loop-sibling-init g c =
    let f = c.args.tree.now.forest in
    record {
      tree = c.at-here.ensures.tree;
      walks =
          subst (λ n. Walks (previous_step f c.args.filter.now c.args.root c.args.current) (4 * size f) (back_past_node f c.args.filter.now c.args.root c.args.current n) (previous_by_steps f c.args.filter.now c.args.root c.args.current)) (sym c.at-here.ensures.node)
          (Walks-on (previous-walks f c.state_law.ensures.once c.args.filter.now c.args.root c.args.current (occurs-HasNode f c.args.current c.requires) (sym c.eq.ensures ∙ c.if-eq.false))
          (LeadsOn-leaving (previous_step f c.args.filter.now c.args.root c.args.current) (4 * size f) c.args.current (back_past_node f c.args.filter.now c.args.root c.args.current c.args.current) refl).leads);
    }

pub returns-then-accepts : goal.returns-then-accepts
returns-then-accepts g c =
    let f = c.args.tree.now.forest in
    let filter = c.args.filter.now in
    let root = c.args.root in
    let here = c.loop-sibling.here.node in
    let e = c.loop-sibling.invariant.tree in
    let before = told e (λ (t : Grove g.row.X.Denot). previous_of t.forest here) c.prev.ensures.node in
    let there = c.end_of-here.ensures.tree ∙ c.prev.ensures.tree c.in-Some.sibling c.in-Some.is in
    let descends = subst (λ (t : Grove g.row.X.Denot). Descends t.forest filter c.in-Some.sibling.node c.end_of-here.result.node) (c.prev.ensures.tree c.in-Some.sibling c.in-Some.is ∙ e) c.end_of-here.ensures.descends in
    let end = subst (λ (t : Grove g.row.X.Denot). IsEnd t.forest filter c.end_of-here.result.node) (c.prev.ensures.tree c.in-Some.sibling c.in-Some.is ∙ e) c.end_of-here.ensures.end in
    let goes = told (there ∙ e) (λ (t : Grove g.row.X.Denot). accepts t.forest filter c.end_of-here.result.node) c.accepts.ensures in
    ap Some c.number.ensures
    ∙ (Walks-on c.loop-sibling.invariant.walks (back-accepted f filter root c.args.current (4 * size f) here c.in-Some.sibling.node c.end_of-here.result.node (before ∙ ap node_at c.in-Some.is) descends end (goes ∙ c.if-accepts.true))).finds

pub loop-sibling-smaller-else-accepts : goal.loop-sibling-smaller-else-accepts
loop-sibling-smaller-else-accepts g c =
    let f = c.args.tree.now.forest in
    let filter = c.args.filter.now in
    let root = c.args.root in
    let here = c.loop-sibling.here.node in
    let e = c.loop-sibling.invariant.tree in
    let before = told e (λ (t : Grove g.row.X.Denot). previous_of t.forest here) c.prev.ensures.node in
    let there = c.end_of-here.ensures.tree ∙ c.prev.ensures.tree c.in-Some.sibling c.in-Some.is in
    let descends = subst (λ (t : Grove g.row.X.Denot). Descends t.forest filter c.in-Some.sibling.node c.end_of-here.result.node) (c.prev.ensures.tree c.in-Some.sibling c.in-Some.is ∙ e) c.end_of-here.ensures.descends in
    let end = subst (λ (t : Grove g.row.X.Denot). IsEnd t.forest filter c.end_of-here.result.node) (c.prev.ensures.tree c.in-Some.sibling c.in-Some.is ∙ e) c.end_of-here.ensures.end in
    let goes = told (there ∙ e) (λ (t : Grove g.row.X.Denot). accepts t.forest filter c.end_of-here.result.node) c.accepts.ensures in
    (back-on f filter root c.args.current (4 * size f) here c.in-Some.sibling.node c.end_of-here.result.node (before ∙ ap node_at c.in-Some.is) descends end (goes ∙ c.if-accepts.false)).fewer c.loop-sibling.invariant.walks.ends

pub loop-sibling-preserved-else-accepts : goal.loop-sibling-preserved-else-accepts
loop-sibling-preserved-else-accepts g c =
    let f = c.args.tree.now.forest in
    let filter = c.args.filter.now in
    let root = c.args.root in
    let here = c.loop-sibling.here.node in
    let e = c.loop-sibling.invariant.tree in
    let before = told e (λ (t : Grove g.row.X.Denot). previous_of t.forest here) c.prev.ensures.node in
    let there = c.end_of-here.ensures.tree ∙ c.prev.ensures.tree c.in-Some.sibling c.in-Some.is in
    let descends = subst (λ (t : Grove g.row.X.Denot). Descends t.forest filter c.in-Some.sibling.node c.end_of-here.result.node) (c.prev.ensures.tree c.in-Some.sibling c.in-Some.is ∙ e) c.end_of-here.ensures.descends in
    let end = subst (λ (t : Grove g.row.X.Denot). IsEnd t.forest filter c.end_of-here.result.node) (c.prev.ensures.tree c.in-Some.sibling c.in-Some.is ∙ e) c.end_of-here.ensures.end in
    let goes = told (there ∙ e) (λ (t : Grove g.row.X.Denot). accepts t.forest filter c.end_of-here.result.node) c.accepts.ensures in
    record {
      tree = there ∙ e;
      walks = Walks-on c.loop-sibling.invariant.walks (back-on f filter root c.args.current (4 * size f) here c.in-Some.sibling.node c.end_of-here.result.node (before ∙ ap node_at c.in-Some.is) descends end (goes ∙ c.if-accepts.false)).leads;
    }

pub returns-then-eq-2 : goal.returns-then-eq-2
returns-then-eq-2 g c =
    let f = c.args.tree.now.forest in
    let filter = c.args.filter.now in
    let root = c.args.root in
    let here = c.loop-sibling.here.node in
    let e = c.loop-sibling.invariant.tree in
    let before = told e (λ (t : Grove g.row.X.Denot). previous_of t.forest here) c.prev.ensures.node in
    let none = before ∙ ap node_at c.in_default.is in
    let over : (here == root) ≡ true = ap (λ m. m == root) (sym c.number-in_default.ensures) ∙ sym c.eq-in_default.ensures ∙ c.if-eq-2.true in
    end_found f filter root c.args.current (4 * size f) here None c.loop-sibling.invariant.walks (back-root f filter root c.args.current (4 * size f) here none over)

pub returns-in_err-here : goal.returns-in_err-here
returns-in_err-here g c =
    let f = c.args.tree.now.forest in
    let filter = c.args.filter.now in
    let root = c.args.root in
    let here = c.loop-sibling.here.node in
    let e = c.loop-sibling.invariant.tree in
    let before = told e (λ (t : Grove g.row.X.Denot). previous_of t.forest here) c.prev.ensures.node in
    let none = before ∙ ap node_at c.in_default.is in
    let off : (here == root) ≡ false = ap (λ m. m == root) (sym c.number-in_default.ensures) ∙ sym c.eq-in_default.ensures ∙ c.if-eq-2.false in
    let above = told e (λ (t : Grove g.row.X.Denot). parent_of t.forest here) c.parent.ensures.node ∙ ap node_at c.in_err-here.was in
    let nothing : c.from_residual.result ≡ None = search rules in
    nothing ∙ end_found f filter root c.args.current (4 * size f) here None c.loop-sibling.invariant.walks (back-none f filter root c.args.current (4 * size f) here none off above)

pub returns-then-accepts-2 : goal.returns-then-accepts-2
returns-then-accepts-2 g c =
    let f = c.args.tree.now.forest in
    let filter = c.args.filter.now in
    let root = c.args.root in
    let here = c.loop-sibling.here.node in
    let e = c.loop-sibling.invariant.tree in
    let before = told e (λ (t : Grove g.row.X.Denot). previous_of t.forest here) c.prev.ensures.node in
    let none = before ∙ ap node_at c.in_default.is in
    let off : (here == root) ≡ false = ap (λ m. m == root) (sym c.number-in_default.ensures) ∙ sym c.eq-in_default.ensures ∙ c.if-eq-2.false in
    let above = told e (λ (t : Grove g.row.X.Denot). parent_of t.forest here) c.parent.ensures.node ∙ ap node_at c.in_ok-here.was in
    let there = c.parent.ensures.tree c.in_ok-here.here c.in_ok-here.was ∙ e in
    let goes = told there (λ (t : Grove g.row.X.Denot). accepts t.forest filter c.in_ok-here.here.node) c.accepts-in_default.ensures in
    ap Some c.number-then-accepts-2.ensures
    ∙ end_found f filter root c.args.current (4 * size f) here (Some c.in_ok-here.here.node) c.loop-sibling.invariant.walks (back-parent f filter root c.args.current (4 * size f) here c.in_ok-here.here.node none off above (goes ∙ c.if-accepts-2.true))

pub returns-then-eq-3 : goal.returns-then-eq-3
returns-then-eq-3 g c =
    let f = c.args.tree.now.forest in
    let filter = c.args.filter.now in
    let root = c.args.root in
    let here = c.loop-sibling.here.node in
    let e = c.loop-sibling.invariant.tree in
    let before = told e (λ (t : Grove g.row.X.Denot). previous_of t.forest here) c.prev.ensures.node in
    let none = before ∙ ap node_at c.in_default.is in
    let off : (here == root) ≡ false = ap (λ m. m == root) (sym c.number-in_default.ensures) ∙ sym c.eq-in_default.ensures ∙ c.if-eq-2.false in
    let above = told e (λ (t : Grove g.row.X.Denot). parent_of t.forest here) c.parent.ensures.node ∙ ap node_at c.in_ok-here.was in
    let there = c.parent.ensures.tree c.in_ok-here.here c.in_ok-here.was ∙ e in
    let goes = told there (λ (t : Grove g.row.X.Denot). accepts t.forest filter c.in_ok-here.here.node) c.accepts-in_default.ensures in
    let over : (c.in_ok-here.here.node == root) ≡ true = ap (λ m. m == root) (sym c.number-in_default-2.ensures) ∙ sym c.eq-in_default-2.ensures ∙ c.if-eq-3.true in
    end_found f filter root c.args.current (4 * size f) here None c.loop-sibling.invariant.walks (back-parent_root f filter root c.args.current (4 * size f) here c.in_ok-here.here.node none off above (goes ∙ c.if-accepts-2.false) over)

pub loop-sibling-smaller : goal.loop-sibling-smaller
loop-sibling-smaller g c =
    let f = c.args.tree.now.forest in
    let filter = c.args.filter.now in
    let root = c.args.root in
    let here = c.loop-sibling.here.node in
    let e = c.loop-sibling.invariant.tree in
    let before = told e (λ (t : Grove g.row.X.Denot). previous_of t.forest here) c.prev.ensures.node in
    let none = before ∙ ap node_at c.in_default.is in
    let off : (here == root) ≡ false = ap (λ m. m == root) (sym c.number-in_default.ensures) ∙ sym c.eq-in_default.ensures ∙ c.if-eq-2.false in
    let above = told e (λ (t : Grove g.row.X.Denot). parent_of t.forest here) c.parent.ensures.node ∙ ap node_at c.in_ok-here.was in
    let there = c.parent.ensures.tree c.in_ok-here.here c.in_ok-here.was ∙ e in
    let goes = told there (λ (t : Grove g.row.X.Denot). accepts t.forest filter c.in_ok-here.here.node) c.accepts-in_default.ensures in
    let below : (c.in_ok-here.here.node == root) ≡ false = ap (λ m. m == root) (sym c.number-in_default-2.ensures) ∙ sym c.eq-in_default-2.ensures ∙ c.if-eq-3.false in
    (back-up f filter root c.args.current (4 * size f) here c.in_ok-here.here.node none off above (goes ∙ c.if-accepts-2.false) below).fewer c.loop-sibling.invariant.walks.ends

pub loop-sibling-preserved : goal.loop-sibling-preserved
loop-sibling-preserved g c =
    let f = c.args.tree.now.forest in
    let filter = c.args.filter.now in
    let root = c.args.root in
    let here = c.loop-sibling.here.node in
    let e = c.loop-sibling.invariant.tree in
    let before = told e (λ (t : Grove g.row.X.Denot). previous_of t.forest here) c.prev.ensures.node in
    let none = before ∙ ap node_at c.in_default.is in
    let off : (here == root) ≡ false = ap (λ m. m == root) (sym c.number-in_default.ensures) ∙ sym c.eq-in_default.ensures ∙ c.if-eq-2.false in
    let above = told e (λ (t : Grove g.row.X.Denot). parent_of t.forest here) c.parent.ensures.node ∙ ap node_at c.in_ok-here.was in
    let there = c.parent.ensures.tree c.in_ok-here.here c.in_ok-here.was ∙ e in
    let goes = told there (λ (t : Grove g.row.X.Denot). accepts t.forest filter c.in_ok-here.here.node) c.accepts-in_default.ensures in
    let below : (c.in_ok-here.here.node == root) ≡ false = ap (λ m. m == root) (sym c.number-in_default-2.ensures) ∙ sym c.eq-in_default-2.ensures ∙ c.if-eq-3.false in
    record {
      tree = there;
      walks = Walks-on c.loop-sibling.invariant.walks (back-up f filter root c.args.current (4 * size f) here c.in_ok-here.here.node none off above (goes ∙ c.if-accepts-2.false) below).leads;
    }
