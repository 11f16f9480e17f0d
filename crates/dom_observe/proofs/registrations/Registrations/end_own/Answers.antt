-- Of what ends, the observer's own is all.
use Rattle.std.proofs.Common.{ap, ◌∙◌}
use Rattle.dom_model.specs.Definitions.{among}
use Rattle.dom_observe.specs.Registrations.{at}
use Rattle.dom_observe.proofs.EndByNodeLemmas.{all-done}
use Rattle.dom_observe.proofs.registrations.Registrations.end_own.Goals as goal

pub returns-clause-left : goal.returns-clause-left
returns-clause-left c =
    all-done c.args.ending.now (at c.args.self.now) (at c.end_each.new.self) c.args.keys.now.items c.requires c.end_each.ensures.between
    (λ k m. c.end_each.ensures.done k (ap (among k) c.as_slice.ensures.value ∙ m))
