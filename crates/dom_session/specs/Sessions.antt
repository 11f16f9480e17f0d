-- What a session stands for, for the crates above: they need name no crate below this one.
pub use Rattle.dom_session.specs.SessionBounds.{bounds_of}
pub use Rattle.dom_session.specs.SessionViews.{SessionView, StandsFor, held_world}
pub use Rattle.dom_session.specs.OutOfMemory.{IsAsBefore}
pub use Rattle.dom_session.specs.GoingOn.{is_question, goes_on, is_unchanged_in}
pub use Rattle.dom_commands.specs.Views.{command_view, reading_view, answer_view, reply_view}
