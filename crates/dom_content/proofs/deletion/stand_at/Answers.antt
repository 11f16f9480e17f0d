-- Both ends are set at once.
use Rattle.std.proofs.Common.{ap, ◌∙◌}
use Rattle.dom_model.specs.Definitions.{collapsed_at}
use Rattle.dom_ranges.specs.Tables.{RangeTable}
use Rattle.dom_edit.specs.KeptNodes.{present}
use Rattle.dom_edit.proofs.{RemoveLemmas.held-covered, KeepsNodesLemmas.nodes-ranged, KeepsWatchersLemmas.present-set}
use Rattle.dom_content.proofs.SetEndsLemmas.{follows-standing, whole-standing}
use Rattle.dom_content.proofs.deletion.stand_at.Goals as goal

pub collapse_at-requires-clause-covered : goal.collapse_at-requires-clause-covered
collapse_at-requires-clause-covered c = held-covered c.args.world.now c.requires.whole c.args.place.node c.requires.within.starts.there

pub returns-clause-stands : goal.returns-clause-stands
returns-clause-stands c = follows-standing c.args.world.now c.args.range c.args.place c.collapse_at.new.self c.collapse_at.ensures.set

pub returns-clause-whole : goal.returns-clause-whole
returns-clause-whole c = whole-standing c.args.world.now c.args.range c.args.place c.collapse_at.new.self c.collapse_at.ensures.set c.requires.whole c.requires.within

pub returns-clause-kept : goal.returns-clause-kept
returns-clause-kept c =
    let v = c.args.world.now in
    let set = ap (λ (t : RangeTable). present t.ranges) c.collapse_at.ensures.set ∙ present-set v.ranges.ranges c.args.range (collapsed_at c.args.place) c.requires.live in
    (nodes-ranged v c.collapse_at.new.self set).labelled
