pub mod Clones
pub mod EqualWalks
pub mod WalkStack
