-- One node after another.
use Rattle.std.proofs.Common.{◌≡◌, if◌then◌else◌, Some, ap, sym, ◌∙◌}
use Rattle.dom_model.specs.Definitions.{among, after, Grove, ancestors, inclusive_descendants, accepts}
use Rattle.dom_model.proofs.Traversal.IteratorSteps.{following_found, following-inside, following-fewer, following-end, following-on}
use Rattle.dom_tree.specs.Spots.{node_at}
use Rattle.dom_traverse.proofs.SpotLemmas.{told}
use Rattle.dom_traverse.proofs.iterator.next_accepted.Goals as goal

pub at-here-requires : goal.at-here-requires
at-here-requires g c = c.requires.held

pub loop-next-init : goal.loop-next-init
loop-next-init g c =
    let f = c.args.tree.now.forest in
    record {
      tree = c.at-here.ensures.tree;
      under = ap (λ n. among c.args.root (ancestors n f)) c.at-here.ensures.node ∙ c.requires.under;
      same = ap (λ n. following_found f c.args.filter.now c.args.root n) (sym c.at-here.ensures.node);
    }

pub next_inside-requires : goal.next_inside-requires
next_inside-requires g c =
    ap (λ (t : Grove g.row.X.Denot). among c.args.root (ancestors c.loop-next.here.node t.forest)) c.loop-next.invariant.tree ∙ c.loop-next.invariant.under

pub returns-then-accepts : goal.returns-then-accepts
returns-then-accepts g c =
    let f = c.args.tree.now.forest in
    let filter = c.args.filter.now in
    let root = c.args.root in
    let here = c.loop-next.here.node in
    let on : after here (inclusive_descendants f root) ≡ Some c.in-Some.next.node =
    told c.loop-next.invariant.tree (λ (t : Grove g.row.X.Denot). after here (inclusive_descendants t.forest root)) c.next_inside.ensures.node ∙ ap node_at c.in-Some.is
    in
    let there = c.next_inside.ensures.tree c.in-Some.next c.in-Some.is ∙ c.loop-next.invariant.tree in
    let v = told there (λ (t : Grove g.row.X.Denot). accepts t.forest filter c.in-Some.next.node) c.accepts.ensures ∙ c.if-accepts.true in
    ap Some c.number.ensures
    ∙ sym (c.loop-next.invariant.same
    ∙ following-on f c.state_law.ensures.once root filter here c.in-Some.next.node on
    ∙ ap (λ b. if b then Some c.in-Some.next.node else following_found f filter root c.in-Some.next.node) v)

pub loop-next-smaller : goal.loop-next-smaller
loop-next-smaller g c =
    let f = c.args.tree.now.forest in
    let root = c.args.root in
    let here = c.loop-next.here.node in
    let on : after here (inclusive_descendants f root) ≡ Some c.in-Some.next.node =
    told c.loop-next.invariant.tree (λ (t : Grove g.row.X.Denot). after here (inclusive_descendants t.forest root)) c.next_inside.ensures.node ∙ ap node_at c.in-Some.is
    in
    following-fewer f c.state_law.ensures.once root here c.in-Some.next.node on

pub loop-next-preserved : goal.loop-next-preserved
loop-next-preserved g c =
    let f = c.args.tree.now.forest in
    let filter = c.args.filter.now in
    let root = c.args.root in
    let here = c.loop-next.here.node in
    let on : after here (inclusive_descendants f root) ≡ Some c.in-Some.next.node =
    told c.loop-next.invariant.tree (λ (t : Grove g.row.X.Denot). after here (inclusive_descendants t.forest root)) c.next_inside.ensures.node ∙ ap node_at c.in-Some.is
    in
    let there = c.next_inside.ensures.tree c.in-Some.next c.in-Some.is ∙ c.loop-next.invariant.tree in
    let v = told there (λ (t : Grove g.row.X.Denot). accepts t.forest filter c.in-Some.next.node) c.accepts.ensures ∙ c.if-accepts.false in
    record {
      tree = there;
      under = following-inside f c.state_law.ensures.once root here c.in-Some.next.node on;
      same =
          c.loop-next.invariant.same
          ∙ following-on f c.state_law.ensures.once root filter here c.in-Some.next.node on
          ∙ ap (λ b. if b then Some c.in-Some.next.node else following_found f filter root c.in-Some.next.node) v;
    }

pub returns : goal.returns
returns g c =
    let f = c.args.tree.now.forest in
    let root = c.args.root in
    let here = c.loop-next.here.node in
    let on = told c.loop-next.invariant.tree (λ (t : Grove g.row.X.Denot). after here (inclusive_descendants t.forest root)) c.next_inside.ensures.node ∙ ap node_at c.in_default.is in
    sym (c.loop-next.invariant.same ∙ following-end f c.state_law.ensures.once root c.args.filter.now here on)
