use Rattle.std.proofs.Common.{refl}
use Rattle.serde_json.proofs.OnLiterals.{serde_json_on_literals}
use Rattle.dom_serve.proofs.ByLineLemmas.{line-want}
use Rattle.dom_serve.proofs.line_output.out_of_memory_text.Goals as goal

pub returns-clause-text : goal.returns-clause-text
unfolding serde_json_on_literals
returns-clause-text c = refl

pub returns-clause-line : goal.returns-clause-line
unfolding serde_json_on_literals
returns-clause-line c = line-want
