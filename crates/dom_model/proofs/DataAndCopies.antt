-- Texts that are joined, changes of data, and where copies stand.
pub mod ChangedNodes
pub mod MergesInTurn
pub mod CopiesPlaced
pub mod CopiesBeside
