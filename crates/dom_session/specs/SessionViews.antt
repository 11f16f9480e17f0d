-- What a session holds, and the worlds that it stands for.
use Rattle.std.specs.Prelude.{◌≡◌, Bool, true}
use Rattle.dom_model.specs.Worlds.World as model
use Rattle.dom_model.specs.Commands.Command.{Command}
use Rattle.dom_model.specs.Commands.Answer.{Bounds, Step, answer}
use Rattle.dom_model.specs.Commands.Reply.{is_refusal}
use Rattle.dom_edit.specs.declared.world.World.{World}
use Rattle.dom_edit.specs.Whole.{Shows, unwatched}
use Rattle.dom_commands.specs.declared.reply.Reply.{Reply}
use Rattle.dom_commands.specs.Views.{reply_view}

-- the world of the code, the bounds, and whether memory was wanting once
pub record SessionView : Type 0 where
  pub world : World
  pub bounds : Bounds
  pub ended : Bool

-- the worlds that a session stands for
abbrev pub StandsFor : SessionView → model.World → Type 0
StandsFor s w = Shows s.world w

-- the world that a session holds, also once it has ended: all its parts, but of what is watched it says nothing
abbrev pub held_world : SessionView → model.World
held_world s = unwatched s.world

-- the reply is the one of the world that has the parts of the code's, shown or not
abbrev pub RepliesTo : World → Command → Reply → Type 0
RepliesTo v c reply = (b : Bounds) → reply_view reply ≡ (answer b (unwatched v) c).reply

-- The reply is the world's answer to the command, and the session stands for the next world.
pub record IsAnswered (reply : Reply) (w : model.World) (old new : SessionView) (c : Command) : Type 0 where
  pub reply_is : reply_view reply ≡ (answer old.bounds w c).reply
  pub world_is : StandsFor new (answer old.bounds w c).world

-- The same of worlds of the code, for each world that the old one shows; and a command that is refused leaves the world of the code as it was.
pub record IsStep (old new : World) (b : Bounds) (c : Command) (reply : Reply) : Type 0 where
  pub reply_is : (w : model.World) → Shows old w → reply_view reply ≡ (answer b w c).reply
  pub world_is : (w : model.World) → Shows old w → Shows new (answer b w c).world
  pub refused : is_refusal (reply_view reply) ≡ true → new ≡ old

-- a step for each command that means, in every world shown, what is told
abbrev pub StepsAs : World → World → Reply → (model.World → Step) → Type 0
StepsAs old new reply meaning = (b : Bounds) (c : Command) → ((w : model.World) → Shows old w → answer b w c ≡ meaning w) → IsStep old new b c reply
