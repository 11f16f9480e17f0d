use Rattle.std.proofs.Common.{length, ap, sym, ◌∙◌, subst}
use Rattle.dom_edit.specs.{declared.world.World.World, KeptNodes.present, OlderNodes.LeavesAll, Whole.IsWhole, Whole.Follows}
use Rattle.dom_edit.proofs.{LeavesOlderLemmas.placed-left, PlacedWorldLemmas.with_placed, PlacedWorldLemmas.placing, PlacedWorldLemmas.follows-placing, PlacedWorldLemmas.whole-placed, PlacedWorldLemmas.placed-is, InsertLemmas.nodes-placed, KeepsWatchersLemmas.present-room, KeepsWatchersLemmas.watchers-ranged}
use Rattle.dom_edit.proofs.world.World.place.Goals as goal

pub returns-clause-placed : goal.returns-clause-placed
returns-clause-placed c =
    let e = placed-is c.args.parent c.args.child c.args.nodes.now c.args.self.now c.shift_ends.new.self c.put_all.new.tree c.shift_ends.ensures c.put_all.ensures in
    subst (λ (u : World). Follows c.args.self.now u (placing c.args.parent c.args.child c.args.nodes.now)) e (follows-placing c.args.parent c.args.child c.args.nodes.now c.args.self.now)

pub returns-clause-whole : goal.returns-clause-whole
returns-clause-whole c =
    let e = placed-is c.args.parent c.args.child c.args.nodes.now c.args.self.now c.shift_ends.new.self c.put_all.new.tree c.shift_ends.ensures c.put_all.ensures in
    subst IsWhole e (whole-placed c.args.parent c.args.child c.args.nodes.now c.args.self.now c.requires.whole c.requires.ready)

pub returns-clause-kept : goal.returns-clause-kept
returns-clause-kept c =
    let v = c.args.self.now in
    let new : World = record c.shift_ends.new.self { tree = c.put_all.new.tree } in
    let room = c.shift_ends.ensures in
    nodes-placed v new c.args.parent c.args.child c.args.nodes.now c.requires.whole c.requires.ready (returns-clause-placed c)
    (watchers-ranged v new (ap (λ (w : World). present w.ranges.ranges) room ∙ present-room v.tree.forest c.args.parent c.args.child (length c.args.nodes.now) v.ranges.ranges)
    (ap (λ (w : World). w.iterators) room) (ap (λ (w : World). w.observers) room))

pub returns-clause-left : goal.returns-clause-left
returns-clause-left c last a h newer l =
    let v = c.args.self.now in
    let p = c.args.parent in
    let ns = c.args.nodes.now in
    let e = placed-is p c.args.child ns v c.shift_ends.new.self c.put_all.new.tree c.shift_ends.ensures c.put_all.ensures in
    subst (LeavesAll a) (ap (λ b. with_placed p b ns v) (sym last) ∙ e) (placed-left a h p ns newer v l)

pub returns-clause-observers : goal.returns-clause-observers
returns-clause-observers c = ap (λ (w : World). w.observers) c.shift_ends.ensures
