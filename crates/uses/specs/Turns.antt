-- Two commands in turn, and their replies.
use Rattle.std.specs.Prelude.{◌≡◌}
use Rattle.dom_model.specs.Worlds.World as model
use Rattle.dom_model.specs.Commands.Command.{Command}
use Rattle.dom_model.specs.Commands.Answer.{Bounds, answer}
use Rattle.dom_commands.specs.declared.reply.Reply.{Reply}
use Rattle.dom_commands.specs.Views.{reply_view}
use Rattle.dom_session.specs.SessionViews.{SessionView, StandsFor}

-- the world after a command
abbrev pub after_command : Bounds → model.World → Command → model.World
after_command b w c = (answer b w c).world

-- each reply is the answer of the world as it is then, and the session stands for the world after both
pub record AreAnswered (first second : Reply) (w : model.World) (old new : SessionView) (c d : Command) : Type 0 where
  pub first_is : reply_view first ≡ (answer old.bounds w c).reply
  pub second_is : reply_view second ≡ (answer old.bounds (after_command old.bounds w c) d).reply
  pub world_is : StandsFor new (after_command old.bounds (after_command old.bounds w c) d)
