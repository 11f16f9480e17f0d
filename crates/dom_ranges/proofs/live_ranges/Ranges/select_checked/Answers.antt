use Rattle.std.proofs.Common.{tests, rules}
use Rattle.dom_ranges.proofs.SetAsMarkersLemmas.{around-stands}
use Rattle.dom_ranges.proofs.live_ranges.Ranges.select_checked.Goals as goal

pub returns-clause-set : goal.returns-clause-set
returns-clause-set g c = search (tests, rules)

pub returns-clause-markers : goal.returns-clause-markers
returns-clause-markers g c = around-stands _ _ _ _ c.requires.held _ c.requires.allowed (returns-clause-set g c)
