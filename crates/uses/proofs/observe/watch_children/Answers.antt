use Rattle.dom_model.specs.Definitions.{with_observer}
use Rattle.uses.proofs.observe.watch_children.Goals as goal

pub observe-requires : goal.observe-requires
observe-requires c = record { held = c.in_ok-observer.ensures.held }

pub returns : goal.returns
returns c = record { observes = λ x w. c.in_ok-observe.ensures.ok (with_observer x) (c.in_ok-observer.ensures.ok x w) }
