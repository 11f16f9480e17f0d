pub mod CompletedLemmas
pub mod EqualWalkLemmas
pub mod IsCopyingLemmas
pub mod LeavesAllLemmas
pub mod PositionLemmas
pub mod PutUnderLemmas
