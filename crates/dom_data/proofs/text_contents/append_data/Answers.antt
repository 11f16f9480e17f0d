use Rattle.std.proofs.Common.{tests, rules, arith}
use Rattle.std.proofs.lemmas.Grind.{common_steps}
use Rattle.dom_data.proofs.text_contents.append_data.Goals as goal

pub returns : goal.returns
returns c = grind (arith, common_steps)

pub returns-then-ne : goal.returns-then-ne
returns-then-ne c = search (tests, rules)
