-- Each step so far found a node.
use Rattle.std.proofs.Common.{◌≡◌, true, false, ◌-◌, ◌≤◌, length}
use Rattle.std.specs.Option.{ForSome}
use Rattle.dom_model.specs.Definitions.{Bounds, is_refusal}
use Rattle.dom_model.specs.Worlds.World as model
use Rattle.dom_edit.specs.Whole.{Shows, IsShown}
use Rattle.dom_commands.specs.{Brief.reply_of, Views.reply_view}
use Rattle.dom_session.specs.StepsInTurn.{last_view}
use Rattle.dom_session.proofs.StepsInTurnLemmas.{IsStepping}
use Rattle.dom_session.proofs.steps.make_steps.Given as goal

abbrev pub invariant-loop-count : goal.invariant-loop-count
invariant-loop-count g l = record {
  shown : IsShown l.world;
  held : g.S.Steps.held_in l.steps l.world ≡ true;
  within : l.count ≤ length l.into;
  found : ForSome l.last (λ last. is_refusal (reply_view (reply_of last)) ≡ false);
  stepping : (b : Bounds) (w : model.World) → Shows l.fn.world w → IsStepping b (g.S.Steps.command_of l.steps) w l.fn.into l.world l.into l.count (last_view l.last);
}

abbrev pub decreases-loop-count : goal.decreases-loop-count
decreases-loop-count g l = length l.initial.into - l.count
