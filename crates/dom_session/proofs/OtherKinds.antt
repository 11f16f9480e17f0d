-- A command on a node that is not there, or of another kind than the command is for.
use Rattle.std.proofs.Common.{◌≡◌, ℕ, Bool, List, [], ◌∷◌, Some, sym, ◌∙◌}
use Rattle.dom_model.specs.declared.Kind.{Kind}
use Rattle.dom_model.specs.Definitions.{Command, Bounds, Step, guarded, answer, no_node, wrong_kind}
use Rattle.dom_model.specs.Worlds.World as model
use Rattle.dom_model.specs.Commands.Reply as model_reply
use Rattle.dom_edit.specs.declared.world.World.{World}
use Rattle.dom_commands.specs.{declared.reply.Reply.Reply, Views.reply_view}
use Rattle.dom_session.specs.{Refusals.kind_refusal, SessionViews.IsStep}
use Rattle.dom_session.proofs.GuardedLemmas.{guarded-some, step-stays}

pub step-other_kind : (v : World) (b : Bounds) (c : Command) (test : Kind → Bool) (n : ℕ) (reply : Reply) (cs : List (Bool × model_reply.Reply)) (s : model.World → Step)
    → ((w : model.World) → answer b w c ≡ guarded (no_node n w ∷ wrong_kind test n w ∷ cs) w (s w)) → Some (reply_view reply) ≡ kind_refusal test v n → IsStep v v b c reply
step-other_kind v b c test n reply cs s answered some =
    step-stays b c reply v
    (λ w shown. answered w ∙ guarded-some (no_node n w ∷ wrong_kind test n w ∷ []) cs w (s w) (reply_view reply) (rw shown.keeps.forest (sym some)))
