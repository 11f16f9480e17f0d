-- Nothing transient stands, and no observer has a key of it.
use Rattle.std.proofs.Common.{ap, sym, ◌∙◌}
use Rattle.dom_model.specs.Definitions.{among}
use Rattle.dom_observe.specs.Registrations.{at, passes_for}
use Rattle.dom_observe.proofs.LeftByLemmas.{none-passing}
use Rattle.dom_observe.proofs.registrations.Registrations.end_transients.Goals as goal

pub returns-clause-owned : goal.returns-clause-owned
returns-clause-owned c = λ o k.
    ap (among k) (c.forget_all_passing.ensures.none o)
    ∙ sym (ap (passes_for o) (c.end_passing.ensures.left k) ∙ none-passing o (at c.args.self.now k))
