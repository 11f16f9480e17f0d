use Rattle.std.proofs.Common.{ap, ◌∙◌}
use Rattle.dom_chains.specs.Keyed.{on_key}
use Rattle.dom_ranges.specs.{Ends.moved_end, Tables.RangeTable, Tables.covers, Tables.on_node}
use Rattle.dom_ranges.proofs.{ShiftLemmas.on_key-point, RangeTableLemmas.table-moved}
use Rattle.dom_ranges.proofs.live_ranges.Ranges.gather_at.Goals as goal

pub shift-requires : goal.shift-requires
shift-requires c id end at there = (λ fits. c.requires.fits, ap (λ (v : RangeTable). covers v.covered c.args.to.node) c.self.view_is ∙ c.requires.covered)

pub returns : goal.returns
returns c =
    table-moved c.self.inside.slots.slots c.self.inside.chains _ c.self.view_is (on_node c.args.node (λ _. c.args.to)) (on_key c.args.node (moved_end (λ _. c.args.to)))
    (on_key-point c.args.node (λ _. c.args.to)) c.shift.new.ends c.shift.ensures
