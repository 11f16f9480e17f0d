use Rattle.std.proofs.Common.{tests, rules}
use Rattle.dom_data.proofs.normalization.normalize_text.Goals as goal

pub returns-then-data_in-eq0-clause-normalized : goal.returns-then-data_in-eq0-clause-normalized
returns-then-data_in-eq0-clause-normalized c = search (tests, rules)

pub returns-then-data_in-eq0-clause-whole : goal.returns-then-data_in-eq0-clause-whole
returns-then-data_in-eq0-clause-whole c = search (tests, rules)

pub returns-else-data_in-eq0-clause-normalized : goal.returns-else-data_in-eq0-clause-normalized
returns-else-data_in-eq0-clause-normalized c = search (tests, rules)

pub returns-else-data_in-eq0-clause-whole : goal.returns-else-data_in-eq0-clause-whole
returns-else-data_in-eq0-clause-whole c = search (tests, rules)
