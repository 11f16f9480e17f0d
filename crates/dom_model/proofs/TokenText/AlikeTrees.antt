-- Forests that the token texts cannot tell apart, and the trees beside a tree that changes.
pub mod WaysToTrees
pub mod TreesAlike
pub mod TreesAlikeAfter
pub mod TreesPlaced
pub mod TreesWithin
pub mod PartedTrees
pub mod PartedWorld
pub mod MergedTrees
