use Rattle.std.proofs.Common.{refl}
use Rattle.dom_model.specs.Definitions.{inclusive_descendants}
use Rattle.dom_ranges.specs.{Ends.moved_end, Tables.moved_in}
use Rattle.dom_ranges.proofs.RangeTableLemmas.{table-moved}
use Rattle.dom_ranges.proofs.live_ranges.Ranges.gather_ends.Goals as goal

pub returns : goal.returns
returns g c =
    let move = moved_in (inclusive_descendants c.args.tree.now.forest c.args.top) c.args.to in
    table-moved c.self.inside.slots.slots c.self.inside.chains _ c.self.view_is move (moved_end move) (λ end. refl) c.gather.new.ends c.gather.ensures
