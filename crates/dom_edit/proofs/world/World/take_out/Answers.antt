use Rattle.std.proofs.Common.{ap, ◌∙◌}
use Rattle.dom_model.specs.Definitions.{parent_of, taken_out}
use Rattle.dom_ranges.specs.Tables.{RangeTable}
use Rattle.dom_edit.specs.{declared.world.World.World, KeptNodes.present, Whole.Follows}
use Rattle.dom_edit.proofs.{RemoveLemmas.if_some, RemoveLemmas.it_is, RemoveLemmas.held-covered, RemoveLemmas.parent-held, RemoveLemmas.follows-cut_out, RemoveLemmas.whole-taken, KeepsNodesLemmas.nodes-cut, KeepsWatchersLemmas.present-moved, KeepsWatchersLemmas.watchers-cut}
use Rattle.dom_edit.proofs.world.World.take_out.Goals as goal

pub removing-requires-clause-parent : goal.removing-requires-clause-parent
removing-requires-clause-parent c =
    let v = c.args.self.now in
    let h = c.requires.whole in
    let p = c.args.parent in
    rw c.requires.child (held-covered v h p (parent-held v h c.args.node p c.requires.child))

pub returns-clause-taken : goal.returns-clause-taken
returns-clause-taken c =
    let v = c.args.self.now in
    let n = c.args.node in
    if_some (λ p. Follows v c.cut_out.new.self (taken_out n p)) (parent_of v.tree.forest n)
    (λ p e. follows-cut_out v c.cut_out.new.self n p c.removing.new.self (it_is _ (parent_of v.tree.forest n) p e c.removing.ensures) c.cut_out.ensures)

pub returns-clause-whole : goal.returns-clause-whole
returns-clause-whole c =
    let v = c.args.self.now in
    let n = c.args.node in
    let p = c.args.parent in
    let new = c.cut_out.new.self in
    let moved = it_is _ (parent_of v.tree.forest n) p c.requires.child c.removing.ensures in
    whole-taken v new n p c.requires.whole c.requires.child (follows-cut_out v new n p c.removing.new.self moved c.cut_out.ensures)
    (ap (λ (w : World). w.ranges.covered) c.cut_out.ensures ∙ ap (λ r. r.covered) moved) (ap (λ (w : World). w.observers) c.cut_out.ensures)

pub returns-clause-kept : goal.returns-clause-kept
returns-clause-kept c =
    let v = c.args.self.now in
    let new = c.cut_out.new.self in
    let moved = it_is _ (parent_of v.tree.forest c.args.node) c.args.parent c.requires.child c.removing.ensures in
    nodes-cut v new c.args.node c.requires.whole (ap (λ (w : World). w.tree) c.cut_out.ensures) (ap (λ (w : World). w.statics) c.cut_out.ensures) (ap (λ (w : World). w.walkers) c.cut_out.ensures)
    (watchers-cut v new c.args.node (ap (λ (w : World). present w.ranges.ranges) c.cut_out.ensures ∙ ap (λ (r : RangeTable). present r.ranges) moved ∙ present-moved _ v.ranges.ranges)
    (ap (λ (w : World). w.iterators) c.cut_out.ensures) (ap (λ (w : World). w.observers) c.cut_out.ensures))

pub returns-clause-observers : goal.returns-clause-observers
returns-clause-observers c = ap (λ (w : World). w.observers) c.cut_out.ensures
