-- A leaf is put by place as any root is.
use Rattle.std.proofs.Common.{◌≤◌, None, inl, inr, subst}
use Rattle.dom_links.specs.Placed.{slot_of}
use Rattle.dom_tree.proofs.{LeavesPut.led-nowhere, LeavesPut.leaf-outside, LeavesPut.leaf-may, LeavesPut.leaf-led, LeavesPut.leaf-back, LeavesPut.nowhere-held, PlaceTableLemmas.slot-led, PutCutLemmas.put_at-seated, PutCutLemmas.put_at-shown, PlaceWalkLemmas.led, SlotStepLemmas.parent-none, SlotStepLemmas.no_cycle-slots, SlotStepLemmas.count-read}
use Rattle.dom_tree.proofs.tree.Tree.put_leaf.Goals as goal

pub invariant_of-parent_at : goal.invariant_of-parent_at
invariant_of-parent_at g c = record {
  live = c.self.inside.live;
  strays = c.self.inside.strays;
  blocks = c.self.inside.blocks;
  tallies = c.self.inside.tallies;
  seated = c.self.invariant;
  placed = c.place_at.ensures.placed c.in-Some.above c.in-Some.is;
}

pub invariant_of-leaf_at : goal.invariant_of-leaf_at
invariant_of-leaf_at g c = record {
  live = c.self.inside.live;
  strays = c.self.inside.strays;
  blocks = c.self.inside.blocks;
  tallies = c.self.inside.tallies;
  seated = c.self.invariant;
  placed = c.place_at-2.ensures.placed c.in-Some-place_at.below c.in-Some-place_at.is;
}

pub put_at-requires-clause-no_parent : goal.put_at-requires-clause-no_parent
put_at-requires-clause-no_parent g c =
    let la = led c.in-Some.is c.place_at.ensures in
    let lb = led c.in-Some-place_at.is c.place_at-2.ensures in
    let i = leaf-led c.self.invariant c.self.view_is c.args.parent c.args.leaf la lb (c.is_leaf_for.ensures.is c.if-not-is_leaf_for.false) in
    parent-none c.self.invariant.tree c.self.view_is c.args.leaf (slot_of c.self.inside.links c.in-Some-place_at.below) (slot-led lb) i.root

pub put_at-requires-clause-no_cycle : goal.put_at-requires-clause-no_cycle
put_at-requires-clause-no_cycle g c =
    let la = led c.in-Some.is c.place_at.ensures in
    let lb = led c.in-Some-place_at.is c.place_at-2.ensures in
    let i = leaf-led c.self.invariant c.self.view_is c.args.parent c.args.leaf la lb (c.is_leaf_for.ensures.is c.if-not-is_leaf_for.false) in
    no_cycle-slots c.self.invariant.tree c.self.view_is c.state_law-2.ensures c.args.parent (slot_of c.self.inside.links c.in-Some.above) c.args.leaf (slot_of c.self.inside.links c.in-Some-place_at.below) (slot-led la) (slot-led lb) (leaf-outside c.state_law.ensures i)

pub invariant_of-self : goal.invariant_of-self
invariant_of-self g c =
    let la = led c.in-Some.is c.place_at.ensures in
    let lb = led c.in-Some-place_at.is c.place_at-2.ensures in
    let i = leaf-led c.self.invariant c.self.view_is c.args.parent c.args.leaf la lb (c.is_leaf_for.ensures.is c.if-not-is_leaf_for.false) in
    put_at-seated c.self.invariant c.self.view_is c.state_law-2.ensures c.args.parent c.args.leaf None la lb (led-nowhere c.none.result c.none.ensures) i.parent_there i.leaf_there i.root (leaf-outside c.state_law.ensures i) (λ b e. absurd (cc e)) (leaf-may c.state_law.ensures i) c.put_at.ensures

pub returns-clause-put : goal.returns-clause-put
returns-clause-put g c =
    let la = led c.in-Some.is c.place_at.ensures in
    let lb = led c.in-Some-place_at.is c.place_at-2.ensures in
    let i = leaf-led c.self.invariant c.self.view_is c.args.parent c.args.leaf la lb (c.is_leaf_for.ensures.is c.if-not-is_leaf_for.false) in
    λ e. put_at-shown c.self.invariant c.self.view_is c.state_law-2.ensures c.args.parent c.args.leaf None la lb (led-nowhere c.none.result c.none.ensures) i.parent_there i.leaf_there i.root (leaf-outside c.state_law.ensures i) (λ b e. absurd (cc e)) (leaf-may c.state_law.ensures i) c.put_at.ensures

pub returns-in_default-clause-not : goal.returns-in_default-clause-not
returns-in_default-clause-not g c = λ e. inl (λ i. nowhere-held c.self.invariant c.self.view_is c.args.parent c.place_at.result c.in_default.is c.place_at.ensures i.parent_there)

pub returns-in_default-place_at-clause-not : goal.returns-in_default-place_at-clause-not
returns-in_default-place_at-clause-not g c = λ e. inl (λ i. nowhere-held c.self.invariant c.self.view_is c.args.leaf c.place_at-2.result c.in_default-place_at.is c.place_at-2.ensures i.leaf_there)

pub returns-then-count-ge-LONG-clause-not : goal.returns-then-count-ge-LONG-clause-not
returns-then-count-ge-LONG-clause-not g c = λ e.
    inr (subst (λ n. 128 ≤ n) (count-read c.self.invariant.tree c.self.view_is c.args.parent (slot_of c.self.inside.links c.in-Some.above) c.count.result (slot-led (led c.in-Some.is c.place_at.ensures)) c.count.ensures) c.if-count-ge-LONG.true)

pub returns-then-not-is_leaf_for-clause-not : goal.returns-then-not-is_leaf_for-clause-not
returns-then-not-is_leaf_for-clause-not g c = λ e.
    let la = led c.in-Some.is c.place_at.ensures in
    let lb = led c.in-Some-place_at.is c.place_at-2.ensures in
    inl (λ i. c.is_leaf_for.ensures.not c.if-not-is_leaf_for.true (leaf-back c.self.invariant c.self.view_is c.args.parent c.args.leaf la lb i))
