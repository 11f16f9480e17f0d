-- Each step goes to the sibling before.
use Rattle.std.proofs.Common.{refl, sym, subst}
use Rattle.dom_links.specs.Placed.{slot_of, IsPlaced}
use Rattle.dom_tree.proofs.{WrittenIndicesLemmas.ahead-start, WrittenIndicesLemmas.ahead-there, WrittenIndicesLemmas.ahead-next, WrittenIndicesLemmas.ahead-end, PlaceWalkLemmas.led, PlaceWalkLemmas.led-there, PlaceTableLemmas.slot-led}
use Rattle.dom_tree.proofs.index_updates.child_ahead.Goals as goal

pub loop-passed-init : goal.loop-passed-init
loop-passed-init g c = record {
  ahead = ahead-start c.requires.sound (slot_of c.args.links.now c.args.parent) (slot_of c.args.links.now c.args.child) c.args.steps c.requires.child;
  placed = c.requires.placed;
}

pub prev-requires : goal.prev-requires
prev-requires g c = c.loop-passed.invariant.placed

pub unwrap-ahead-requires : goal.unwrap-ahead-requires
unwrap-ahead-requires g c =
    led-there c.prev.result _ c.prev.ensures (ahead-there c.requires.sound (slot_of c.args.links.now c.args.parent) c.loop-passed.invariant.ahead c.loop-passed-test.true c.requires.within)

pub loop-passed-preserved : goal.loop-passed-preserved
loop-passed-preserved g c =
    let l = led c.unwrap-ahead.ensures c.prev.ensures in
    record {
      ahead = ahead-next c.requires.sound (slot_of c.args.links.now c.args.parent) c.loop-passed.invariant.ahead c.loop-passed-test.true (slot_of c.args.links.now c.unwrap-ahead.result) (slot-led l);
      placed = l.placed c.unwrap-ahead.result refl;
    }

pub returns : goal.returns
returns g c = record {
  slot = sym (ahead-end c.requires.sound (slot_of c.args.links.now c.args.parent) c.loop-passed.invariant.ahead c.loop-passed-test.false);
  placed = λ p e. subst (IsPlaced c.args.links.now) (cc e) c.loop-passed.invariant.placed;
}
