use Rattle.std.proofs.Common.{◌∙◌}
use Rattle.dom_model.specs.Definitions.{after_splice}
use Rattle.dom_model.proofs.TokenText.Contents.ExtractedAsDeleted.{splice-node}
use Rattle.dom_chains.specs.Keyed.{on_key}
use Rattle.dom_ranges.specs.{Ends.moved_end, Ends.point_of}
use Rattle.dom_ranges.proofs.{ShiftLemmas.on_key-point, ShiftLemmas.splice-elsewhere, RangeTableLemmas.can-move, RangeTableLemmas.table-moved}
use Rattle.dom_ranges.proofs.live_ranges.Ranges.spliced.Goals as goal

pub shift-requires : goal.shift-requires
shift-requires c =
    let g = after_splice c.args.node c.args.at c.args.count c.args.added in
    can-move c.state_law.ensures.fit c.self.inside.chains c.self.invariant _ c.self.view_is c.state_law-2.ensures.covered g c.requires (λ p held. rw (splice-node c.args.node c.args.at c.args.count c.args.added p) held) c.args.node

pub returns : goal.returns
returns c =
    let g = after_splice c.args.node c.args.at c.args.count c.args.added in
    table-moved c.self.inside.slots.slots c.self.inside.chains _ c.self.view_is g (on_key c.args.node (moved_end g))
    (λ end. on_key-point c.args.node g end ∙ splice-elsewhere c.args.node c.args.at c.args.count c.args.added (point_of end)) c.shift.new.ends c.shift.ensures
