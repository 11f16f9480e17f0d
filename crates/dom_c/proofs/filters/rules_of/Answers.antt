use Rattle.std.proofs.Common.{◌∙◌, arith}
use Rattle.std.proofs.lemmas.Grind.{common_steps}
use Rattle.dom_c.proofs.RulesFromLemmas.{too_few}
use Rattle.dom_c.proofs.filters.rules_of.Goals as goal

pub returns-in_default : goal.returns-in_default
returns-in_default c =
    c.loop-length.invariant ∙ too_few c.loop-length.rules.items c.loop-length.length-index c.args.lengths.now c.loop-length.others.now c.loop-length.bytes.now c.loop-length-test.true c.in_default.len_below

pub returns-in_default-split_at_checked : goal.returns-in_default-split_at_checked
returns-in_default-split_at_checked c = grind (arith, common_steps)

pub returns-in_err-name : goal.returns-in_err-name
returns-in_err-name c = grind (arith, common_steps)

pub returns-in_err-verdict : goal.returns-in_err-verdict
returns-in_err-verdict c = grind (arith, common_steps)

pub loop-length-preserved : goal.loop-length-preserved
loop-length-preserved c = grind (arith, common_steps)

pub returns-in-empty-empty : goal.returns-in-empty-empty
returns-in-empty-empty c = grind (arith, common_steps)

pub returns-in_default-2 : goal.returns-in_default-2
returns-in_default-2 c = grind (arith, common_steps)
