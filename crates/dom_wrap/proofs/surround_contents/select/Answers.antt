use Rattle.dom_edit.proofs.{RemoveLemmas.held-covered, RemoveLemmas.parent-held, KeepsNodesLemmas.nodes-ranged}
use Rattle.dom_wrap.proofs.SurroundingSteps.{passes-selected, whole-selected, present-selected}
use Rattle.dom_wrap.proofs.surround_contents.select.Goals as goal

pub select_checked-requires-clause-covered : goal.select_checked-requires-clause-covered
select_checked-requires-clause-covered c parent e =
    let v = c.args.world.now in
    held-covered v c.requires.whole parent (parent-held v c.requires.whole c.args.node parent e)

pub returns-clause-selected : goal.returns-clause-selected
returns-clause-selected c = passes-selected c.args.world.now c.requires.whole c.args.range c.args.node c.select_checked.new.self c.requires.allowed c.select_checked.ensures.set

pub returns-clause-whole : goal.returns-clause-whole
returns-clause-whole c = whole-selected c.args.world.now c.requires.whole c.args.range c.args.node c.select_checked.new.self c.requires.allowed c.select_checked.ensures.set

pub returns-clause-kept : goal.returns-clause-kept
returns-clause-kept c =
    let v = c.args.world.now in
    (nodes-ranged v c.select_checked.new.self (present-selected v c.requires.whole c.args.range c.args.node c.select_checked.new.self c.requires.allowed c.select_checked.ensures.set c.requires.held)).labelled
