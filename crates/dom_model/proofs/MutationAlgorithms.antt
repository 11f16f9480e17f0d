-- What removing and inserting leave of a forest, and where an insertion's check passes again.
pub mod Loosened
pub mod Appended
pub mod Extending
pub mod ChecksKept
pub mod RemovalsLike
pub mod SplitsLike
pub mod Emptied
pub mod PutsAllowed
pub mod OwnersKept
