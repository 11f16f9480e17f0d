use Rattle.std.proofs.Common.{tests, rules}
use Rattle.dom_ranges.proofs.SetAsMarkersLemmas.{point-stands}
use Rattle.dom_ranges.proofs.live_ranges.Ranges.collapse_at.Goals as goal

pub returns-clause-set : goal.returns-clause-set
returns-clause-set c = search (tests, rules)

pub returns-clause-markers : goal.returns-clause-markers
returns-clause-markers c = point-stands _ _ _ c.requires.held _ (returns-clause-set c)
