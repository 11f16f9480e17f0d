-- Filters, iterators and tree walkers. DOM Standard, "Traversal".
pub mod Filters
pub mod Iterators
pub mod WalkSteps
pub mod Walks
pub mod Ending
