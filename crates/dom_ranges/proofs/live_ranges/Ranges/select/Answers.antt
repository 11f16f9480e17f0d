use Rattle.std.proofs.Common.{tests, rules}
use Rattle.dom_ranges.proofs.SetAsMarkersLemmas.{select-stands}
use Rattle.dom_ranges.proofs.live_ranges.Ranges.select.Goals as goal

pub returns-clause-refusal : goal.returns-clause-refusal
returns-clause-refusal g c = search (tests, rules)

pub returns-clause-set : goal.returns-clause-set
returns-clause-set g c = search (tests, rules)

pub returns-clause-markers : goal.returns-clause-markers
returns-clause-markers g c = select-stands _ _ _ _ c.requires.held _ _ (returns-clause-refusal g c) (returns-clause-set g c)
