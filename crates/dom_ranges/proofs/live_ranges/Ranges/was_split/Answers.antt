use Rattle.std.proofs.Common.{refl, ap, ◌∙◌}
use Rattle.dom_model.specs.Definitions.{after_split}
use Rattle.dom_ranges.specs.{Ends.moved_end, Tables.RangeTable, Tables.covers}
use Rattle.dom_ranges.proofs.{ShiftLemmas.split-node, RangeTableLemmas.can-move, RangeTableLemmas.table-moved}
use Rattle.dom_ranges.proofs.live_ranges.Ranges.was_split.Goals as goal

pub shift_both-requires-clause-within : goal.shift_both-requires-clause-within
shift_both-requires-clause-within c =
    can-move c.state_law.ensures.fit c.self.inside.chains c.self.invariant _ c.self.view_is c.state_law-2.ensures.covered (after_split c.args.node c.args.at c.args.new c.args.parent c.args.index) c.requires.fit
    (λ p. split-node c.args.node c.args.at c.args.new c.args.parent c.args.index _ p (ap (λ (v : RangeTable). covers v.covered c.args.new) c.self.view_is ∙ c.requires.new_covered))

pub returns : goal.returns
returns c =
    let g = after_split c.args.node c.args.at c.args.new c.args.parent c.args.index in
    table-moved c.self.inside.slots.slots c.self.inside.chains _ c.self.view_is g (moved_end g) (λ end. refl) c.shift_both.new.ends c.shift_both.ensures
