pub mod WholeWorlds
pub mod Rooms
pub mod LiveRanges
