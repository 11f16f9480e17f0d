-- Iterators and walkers, step by step, find what their lists say, inside their trees.
pub mod IteratorsStay
pub mod PreviousInOrder
pub mod IteratorSteps
pub mod Shown
pub mod ListsOfWalks
pub mod WalksForward
pub mod WalksBackward
pub mod WalksFound
pub mod WalksToSiblings
pub mod WalksMirrored
pub mod EndingWalks
pub mod MovesEnough
pub mod WalksEnd
pub mod WalksThere
