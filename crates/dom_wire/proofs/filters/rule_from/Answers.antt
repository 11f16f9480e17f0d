use Rattle.std.proofs.Common.{refl}
use Rattle.dom_wire.proofs.ReadStepLemmas.{rule_from-none}
use Rattle.dom_wire.proofs.filters.rule_from.Goals as goal

pub returns-then-items-ne2 : goal.returns-then-items-ne2
returns-then-items-ne2 c = (refl, rule_from-none c.args.items.now c.if-items-ne2.true)
