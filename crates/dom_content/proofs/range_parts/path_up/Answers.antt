-- Each step goes to the parent, up to the ancestor.
use Rattle.std.proofs.Common.{refl, sym, arith}
use Rattle.dom_content.proofs.PathLists.{way-on, way-passed, way-ended}
use Rattle.dom_content.proofs.range_parts.path_up.Goals as goal

pub loop-here-init : goal.loop-here-init
loop-here-init c = record { same = rw c.new-path.ensures.items refl; held = c.requires.held }

pub parent-here-requires : goal.parent-here-requires
parent-here-requires c = rw c.in-Some.is at c.loop-here.invariant.held

pub loop-here-smaller : goal.loop-here-smaller
loop-here-smaller c =
    let i = way-on c.args.tree.now.forest c.state_law.ensures.once c.in-Some.id (rw c.in-Some.is at c.loop-here.invariant.held) c.parent-here.result (sym c.parent-here.ensures) in
    rw (c.in-Some.is, i.0) (omega arith)

pub loop-here-preserved : goal.loop-here-preserved
loop-here-preserved c =
    let f = c.args.tree.now.forest in
    let held = rw c.in-Some.is at c.loop-here.invariant.held in
    let same = rw c.in-Some.is at c.loop-here.invariant.same in
    let e = sym c.parent-here.ensures in
    record {
      same = rw c.in_ok-push.ensures.items (way-passed f c.state_law.ensures.once c.args.ancestor c.in-Some.id held c.parent-here.result e c.loop-here.path.items _ (sym c.if-eq.ensures) same);
      held = (way-on f c.state_law.ensures.once c.in-Some.id held c.parent-here.result e).1;
    }

pub returns-then-eq : goal.returns-then-eq
returns-then-eq c =
    let f = c.args.tree.now.forest in
    let held = rw c.in-Some.is at c.loop-here.invariant.held in
    let same = rw c.in-Some.is at c.loop-here.invariant.same in
    way-ended f c.state_law.ensures.once c.args.ancestor c.in-Some.id held _ refl c.loop-here.path.items _ (sym c.if-eq.ensures) same
