-- The flattening in tree order: what a cut and a put leave of it, and how it is walked step by step.
pub mod Flattened
pub mod Ordering
pub mod Stepping
pub mod Ending
pub mod Preceding
pub mod InsideWalks
