-- The bounds that limits stand for, for the program.
pub use Rattle.dom_session.specs.Sessions.{bounds_of}
