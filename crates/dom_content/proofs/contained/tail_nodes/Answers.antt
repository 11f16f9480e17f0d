-- Each step takes the children behind one node of the path, from the deepest on.
use Rattle.dom_model.specs.Definitions.{tail_nodes}
use Rattle.std.proofs.Common.{◌≡◌, ◌-◌, ◌++◌, drop, length, ap, ◌∙◌, arith}
use Rattle.std.proofs.lemmas.Grind.{common_steps}
use Rattle.dom_edit.specs.Whole.{unwatched}
use Rattle.dom_content.proofs.TopsOfPaths.{on-path, tail-last, tail-more}
use Rattle.dom_content.proofs.contained.tail_nodes.Goals as goal

pub tail_of-requires : goal.tail_of-requires
tail_of-requires c = record { held = on-path c.args.world.now c.args.path.now c.requires.held (length c.args.path.now - 1) c.index-path-left.result c.index-path-left.is (omega arith) }

pub children_past-requires-clause-held : goal.children_past-requires-clause-held
children_past-requires-clause-held c =
    let i = c.loop-left.invariant.within in
    on-path c.args.world.now c.args.path.now c.requires.held (c.loop-left.left - 1 - 1) c.index-path-left-in-loop-left.result c.index-path-left-in-loop-left.is (omega arith)

pub children_past-requires-clause-child_held : goal.children_past-requires-clause-child_held
children_past-requires-clause-child_held c =
    let i = c.loop-left.invariant.within in
    on-path c.args.world.now c.args.path.now c.requires.held (c.loop-left.left - 1) c.index-path-left-in-loop-left-2.result c.index-path-left-in-loop-left-2.is (omega arith)

pub loop-left-init : goal.loop-left-init
loop-left-init c = record {
  some = omega arith;
  within = omega arith;
  listed = c.in_ok-list.ensures ∙ tail-last (unwatched c.args.world.now) c.args.offset c.args.path.now (length c.args.path.now - 1) c.index-path-left.result c.index-path-left.is (omega arith);
}

pub loop-left-preserved : goal.loop-left-preserved
loop-left-preserved c =
    let i = c.loop-left.invariant.within in
    record {
      some = omega arith;
      within = omega arith;
      listed =
          tail-more (unwatched c.args.world.now) c.args.offset c.args.path.now (c.loop-left.left - 1 - 1) (c.loop-left.left - 1) c.index-path-left-in-loop-left.result c.index-path-left-in-loop-left-2.result (omega arith)
          c.index-path-left-in-loop-left.is c.index-path-left-in-loop-left-2.is (omega arith) c.loop-left.list.items c.append.new.self.items c.loop-left.invariant.listed
          (c.in_ok-append.ensures.items ∙ ap (λ ns. c.loop-left.list.items ++ ns) c.in_ok-behind.ensures);
    }

pub returns : goal.returns
returns c =
    let some = c.loop-left.invariant.some in
    let none : c.loop-left.left - 1 ≡ 0 = omega arith in
    c.loop-left.invariant.listed ∙ ap (λ k. tail_nodes (unwatched c.args.world.now) c.args.offset (drop k c.args.path.now)) none

pub returns-then-left-eq0 : goal.returns-then-left-eq0
returns-then-left-eq0 c = grind (arith, common_steps)
