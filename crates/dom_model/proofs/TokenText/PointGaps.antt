-- Each boundary point of a tree has one gap in the token text of its root, and points stand as their gaps do.
pub mod GapWalk
pub mod GapCounts
pub mod GapPlaces
pub mod GapPoints
pub mod GapsInOrder
pub mod MarkedGap
