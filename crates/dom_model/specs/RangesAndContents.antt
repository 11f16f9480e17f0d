-- Live ranges, their contents, and static ranges. DOM Standard, "Ranges".
pub mod Ranges
pub mod Contents
pub mod Wrapping
pub mod StaticRanges
pub mod BesidePaths
