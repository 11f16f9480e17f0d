-- The world: all that a session stands for; lengths in it; a new node.
pub mod World
pub mod Lengths
pub mod Making
