use Rattle.std.proofs.Common.{refl, ap, ◌∙◌}
use Rattle.dom_model.specs.Definitions.{after_merge}
use Rattle.dom_ranges.specs.{Ends.moved_end, Tables.RangeTable, Tables.covers}
use Rattle.dom_ranges.proofs.{ShiftLemmas.merge-node, RangeTableLemmas.can-move, RangeTableLemmas.table-moved}
use Rattle.dom_ranges.proofs.live_ranges.Ranges.merged.Goals as goal

pub shift_both-requires-clause-within : goal.shift_both-requires-clause-within
shift_both-requires-clause-within c =
    can-move c.state_law.ensures.fit c.self.inside.chains c.self.invariant _ c.self.view_is c.state_law-2.ensures.covered (after_merge c.args.from c.args.into c.args.base c.args.parent c.args.index) c.requires.fit
    (λ p. merge-node c.args.from c.args.into c.args.base c.args.parent c.args.index _ p (ap (λ (v : RangeTable). covers v.covered c.args.into) c.self.view_is ∙ c.requires.into_covered))

pub shift_both-requires-else-eq-clause-within : goal.shift_both-requires-else-eq-clause-within
shift_both-requires-else-eq-clause-within c =
    can-move c.state_law.ensures.fit c.self.inside.chains c.self.invariant _ c.self.view_is c.state_law-2.ensures.covered (after_merge c.args.from c.args.into c.args.base c.args.parent c.args.index) c.requires.fit
    (λ p. merge-node c.args.from c.args.into c.args.base c.args.parent c.args.index _ p (ap (λ (v : RangeTable). covers v.covered c.args.into) c.self.view_is ∙ c.requires.into_covered))

pub returns-then-eq : goal.returns-then-eq
returns-then-eq c =
    let g = after_merge c.args.from c.args.into c.args.base c.args.parent c.args.index in
    table-moved c.self.inside.slots.slots c.self.inside.chains _ c.self.view_is g (moved_end g) (λ end. refl) c.shift_both.new.ends c.shift_both.ensures

pub returns-else-eq : goal.returns-else-eq
returns-else-eq c =
    let g = after_merge c.args.from c.args.into c.args.base c.args.parent c.args.index in
    table-moved c.self.inside.slots.slots c.self.inside.chains _ c.self.view_is g (moved_end g) (λ end. refl) c.shift_both-else-eq.new.ends c.shift_both-else-eq.ensures
