-- Whether it is interested by the nodes from here on is what was asked.
use Rattle.std.proofs.Common.{◌≡◌, length}
use Rattle.dom_model.specs.Definitions.{HasNode, ancestors}
use Rattle.dom_observe.specs.{Names.given_name, Registrations.at, Undoing.hears_at}
use Rattle.dom_observe.proofs.undoing.is_interested.Given as goal

abbrev pub invariant-loop-here : goal.invariant-loop-here
invariant-loop-here g l = record {
  tree : l.here.tree ≡ l.tree;
  there : HasNode l.tree.forest l.here.node;
  rest : hears_at (at l.registrations) l.registrations.lists l.question.what l.question.target (given_name l.question.name) (ancestors l.here.node l.tree.forest) l.observer
      ≡ hears_at (at l.registrations) l.registrations.lists l.question.what l.question.target (given_name l.question.name) (ancestors l.question.target l.tree.forest) l.observer;
}

abbrev pub decreases-loop-here : goal.decreases-loop-here
decreases-loop-here g l = length (ancestors l.here.node l.tree.forest)
