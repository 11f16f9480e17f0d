use Rattle.std.proofs.Common.{tests, rules}
use Rattle.dom_ranges.proofs.SetAsMarkersLemmas.{collapsed-stands}
use Rattle.dom_ranges.proofs.live_ranges.Ranges.collapse.Goals as goal

pub returns-then-to_start-clause-set : goal.returns-then-to_start-clause-set
returns-then-to_start-clause-set c = search (tests, rules)

pub returns-else-to_start-clause-set : goal.returns-else-to_start-clause-set
returns-else-to_start-clause-set c = search (tests, rules)

pub returns-then-to_start-clause-markers : goal.returns-then-to_start-clause-markers
returns-then-to_start-clause-markers c = collapsed-stands _ _ _ c.requires _ (returns-then-to_start-clause-set c)

pub returns-else-to_start-clause-markers : goal.returns-else-to_start-clause-markers
returns-else-to_start-clause-markers c = collapsed-stands _ _ _ c.requires _ (returns-else-to_start-clause-set c)
