-- Ends move by an index that matters where an end asks for it.
use Rattle.std.proofs.Common.{ap, ◌∙◌}
use Rattle.dom_model.specs.Definitions.{index_of, after_split}
use Rattle.dom_ranges.specs.Tables.{RangeTable}
use Rattle.dom_edit.specs.Whole.{unwatched}
use Rattle.dom_data.specs.SplitInTurn.{ends_behind}
use Rattle.dom_data.proofs.{UnneededIndexLemmas.unfelt, SplitSteps.split-apart}
use Rattle.dom_data.proofs.split_text.split_ends.Goals as goal

pub returns-in-Some : goal.returns-in-Some
returns-in-Some c =
    let old = c.args.world.now in
    let n = c.args.node in
    let parent = c.in-Some.parent in
    let index = c.index_if_needed-index.result in
    ap (λ (table : RangeTable). record old { ranges = table })
    (c.was_split.ensures
    ∙ ap (λ rs. record old.ranges { ranges = rs })
    (unfelt (after_split n c.args.offset c.args.new parent) old.ranges parent index (index_of old.tree.forest n) (split-apart n c.args.offset c.args.new parent index (index_of old.tree.forest n)) c.index_if_needed-index.ensures.asked
    ∙ ap (λ p. ends_behind n c.args.offset c.args.new p (unwatched old)) c.in-Some.ensures))
