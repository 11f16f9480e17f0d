use Rattle.std.proofs.Common.{ap, ◌∙◌}
use Rattle.dom_model.specs.Definitions.{among}
use Rattle.dom_observe.proofs.InterestedLemmas.{among-list_any}
use Rattle.dom_observe.proofs.queue.is_named.Goals as goal

pub returns : goal.returns
returns c = c.contains.ensures ∙ among-list_any c.number.result c.args.named.now.keys ∙ ap (λ n. among n c.args.named.now.keys) c.number.ensures
