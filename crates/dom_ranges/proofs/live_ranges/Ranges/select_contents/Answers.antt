use Rattle.std.proofs.Common.{tests, rules}
use Rattle.dom_ranges.proofs.SetAsMarkersLemmas.{contents-stand}
use Rattle.dom_ranges.proofs.live_ranges.Ranges.select_contents.Goals as goal

pub returns-then-is_of_kind-clause-refusal : goal.returns-then-is_of_kind-clause-refusal
returns-then-is_of_kind-clause-refusal g c = search (tests, rules)

pub returns-then-is_of_kind-clause-set : goal.returns-then-is_of_kind-clause-set
returns-then-is_of_kind-clause-set g c = search (tests, rules)

pub returns-then-is_of_kind-clause-unchanged : goal.returns-then-is_of_kind-clause-unchanged
returns-then-is_of_kind-clause-unchanged g c = search (tests, rules)

pub returns-clause-refusal : goal.returns-clause-refusal
returns-clause-refusal g c = search (tests, rules)

pub returns-clause-set : goal.returns-clause-set
returns-clause-set g c = search (tests, rules)

pub returns-clause-unchanged : goal.returns-clause-unchanged
returns-clause-unchanged g c = search (tests, rules)

pub returns-clause-markers : goal.returns-clause-markers
returns-clause-markers g c = contents-stand _ _ _ _ _ c.requires.held _ _ c.requires.node (returns-clause-refusal g c) (returns-clause-set g c)
