-- One node before another.
use Rattle.std.proofs.Common.{◌≡◌, if◌then◌else◌, Some, ap, sym, ◌∙◌}
use Rattle.dom_model.specs.Definitions.{among, before, Grove, ancestors, inclusive_descendants, accepts}
use Rattle.dom_model.proofs.Traversal.IteratorSteps.{preceding_found, preceding-inside, preceding-fewer, preceding-end, preceding-on}
use Rattle.dom_tree.specs.Spots.{node_at}
use Rattle.dom_traverse.proofs.SpotLemmas.{told}
use Rattle.dom_traverse.proofs.iterator.previous_accepted.Goals as goal

pub at-here-requires : goal.at-here-requires
at-here-requires g c = c.requires.held

pub loop-previous-init : goal.loop-previous-init
loop-previous-init g c =
    let f = c.args.tree.now.forest in
    record {
      tree = c.at-here.ensures.tree;
      under = ap (λ n. among c.args.root (ancestors n f)) c.at-here.ensures.node ∙ c.requires.under;
      same = ap (λ n. preceding_found f c.args.filter.now c.args.root n) (sym c.at-here.ensures.node);
    }

pub previous_inside-requires : goal.previous_inside-requires
previous_inside-requires g c =
    ap (λ (t : Grove g.row.X.Denot). among c.args.root (ancestors c.loop-previous.here.node t.forest)) c.loop-previous.invariant.tree ∙ c.loop-previous.invariant.under

pub returns-then-accepts : goal.returns-then-accepts
returns-then-accepts g c =
    let f = c.args.tree.now.forest in
    let filter = c.args.filter.now in
    let root = c.args.root in
    let here = c.loop-previous.here.node in
    let on : before here (inclusive_descendants f root) ≡ Some c.in-Some.previous.node =
    told c.loop-previous.invariant.tree (λ (t : Grove g.row.X.Denot). before here (inclusive_descendants t.forest root)) c.previous_inside.ensures.node ∙ ap node_at c.in-Some.is
    in
    let there = c.previous_inside.ensures.tree c.in-Some.previous c.in-Some.is ∙ c.loop-previous.invariant.tree in
    let v = told there (λ (t : Grove g.row.X.Denot). accepts t.forest filter c.in-Some.previous.node) c.accepts.ensures ∙ c.if-accepts.true in
    ap Some c.number.ensures
    ∙ sym (c.loop-previous.invariant.same
    ∙ preceding-on f c.state_law.ensures.once root filter here c.in-Some.previous.node c.loop-previous.invariant.under on
    ∙ ap (λ b. if b then Some c.in-Some.previous.node else preceding_found f filter root c.in-Some.previous.node) v)

pub loop-previous-smaller : goal.loop-previous-smaller
loop-previous-smaller g c =
    let f = c.args.tree.now.forest in
    let root = c.args.root in
    let here = c.loop-previous.here.node in
    let on : before here (inclusive_descendants f root) ≡ Some c.in-Some.previous.node =
    told c.loop-previous.invariant.tree (λ (t : Grove g.row.X.Denot). before here (inclusive_descendants t.forest root)) c.previous_inside.ensures.node ∙ ap node_at c.in-Some.is
    in
    preceding-fewer f c.state_law.ensures.once root here c.in-Some.previous.node c.loop-previous.invariant.under on

pub loop-previous-preserved : goal.loop-previous-preserved
loop-previous-preserved g c =
    let f = c.args.tree.now.forest in
    let filter = c.args.filter.now in
    let root = c.args.root in
    let here = c.loop-previous.here.node in
    let on : before here (inclusive_descendants f root) ≡ Some c.in-Some.previous.node =
    told c.loop-previous.invariant.tree (λ (t : Grove g.row.X.Denot). before here (inclusive_descendants t.forest root)) c.previous_inside.ensures.node ∙ ap node_at c.in-Some.is
    in
    let there = c.previous_inside.ensures.tree c.in-Some.previous c.in-Some.is ∙ c.loop-previous.invariant.tree in
    let v = told there (λ (t : Grove g.row.X.Denot). accepts t.forest filter c.in-Some.previous.node) c.accepts.ensures ∙ c.if-accepts.false in
    record {
      tree = there;
      under = preceding-inside f c.state_law.ensures.once root here c.in-Some.previous.node on;
      same =
          c.loop-previous.invariant.same
          ∙ preceding-on f c.state_law.ensures.once root filter here c.in-Some.previous.node c.loop-previous.invariant.under on
          ∙ ap (λ b. if b then Some c.in-Some.previous.node else preceding_found f filter root c.in-Some.previous.node) v;
    }

pub returns : goal.returns
returns g c =
    let f = c.args.tree.now.forest in
    let root = c.args.root in
    let here = c.loop-previous.here.node in
    let on = told c.loop-previous.invariant.tree (λ (t : Grove g.row.X.Denot). before here (inclusive_descendants t.forest root)) c.previous_inside.ensures.node ∙ ap node_at c.in_default.is in
    sym (c.loop-previous.invariant.same ∙ preceding-end f c.state_law.ensures.once root c.args.filter.now here c.loop-previous.invariant.under on)
