use Rattle.std.proofs.Common.{ap, ◌∙◌}
use Rattle.dom_model.specs.Definitions.{among}
use Rattle.dom_chains.specs.Keyed.{keys_of}
use Rattle.dom_ranges.proofs.RangeTableLemmas.{among-told}
use Rattle.dom_ranges.proofs.live_ranges.Ranges.stands_in.Goals as goal

pub returns : goal.returns
returns c =
    c.has.ensures ∙ ap (λ n. among n (keys_of c.self.inside.chains.items)) c.number.ensures
    ∙ among-told c.state_law.ensures.fit c.self.inside.chains c.self.invariant _ c.self.view_is c.args.node
