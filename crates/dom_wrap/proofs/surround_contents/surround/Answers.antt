use Rattle.std.proofs.Common.{tests, rules}
use Rattle.dom_content.proofs.StillHeldLemmas.{labels-none}
use Rattle.dom_wrap.proofs.StandByEditsLemmas.{stand-by_surround}
use Rattle.dom_wrap.proofs.surround_contents.surround.Goals as goal

pub returns-clause-markers : goal.returns-clause-markers
returns-clause-markers c =
    stand-by_surround c.args.world.now c.surround_allowed.new.world c.requires.whole c.surround_allowed.ensures.whole c.args.range c.args.node c.requires.node_held c.requires.held
    c.in_default.ensures c.in_ok-surround_allowed.ensures.surrounded

pub returns-in-Err-clause-allowed : goal.returns-in-Err-clause-allowed
returns-in-Err-clause-allowed c = search (tests, rules)

pub returns-in-Err-clause-surrounded : goal.returns-in-Err-clause-surrounded
returns-in-Err-clause-surrounded c = search (tests, rules)

pub returns-in-Err-clause-markers : goal.returns-in-Err-clause-markers
returns-in-Err-clause-markers c = search (tests, rules)

pub returns-in-Err-clause-refused : goal.returns-in-Err-clause-refused
returns-in-Err-clause-refused c = search (tests, rules)

pub returns-in-Err-clause-whole : goal.returns-in-Err-clause-whole
returns-in-Err-clause-whole c = search (tests, rules)

pub returns-clause-allowed : goal.returns-clause-allowed
returns-clause-allowed c = search (tests, rules)

pub returns-clause-surrounded : goal.returns-clause-surrounded
returns-clause-surrounded c = search (tests, rules)

pub returns-clause-refused : goal.returns-clause-refused
returns-clause-refused c = search (tests, rules)

pub returns-clause-whole : goal.returns-clause-whole
returns-clause-whole c = search (tests, rules)

pub returns-in-Err-clause-kept : goal.returns-in-Err-clause-kept
returns-in-Err-clause-kept c = labels-none c.args.world.now

pub returns-clause-kept : goal.returns-clause-kept
returns-clause-kept c = c.surround_allowed.ensures.kept
