-- Dialogues on objects that are released. No line has these commands, so each is a list of commands, and not of lines; and that no line has them.
pub mod Replies
pub mod IteratorReleased
pub mod WalkerReleased
pub mod StaticRangeReleased
pub mod ObserverReleased
pub mod LinesOfReleases
pub mod ToldInTurn
