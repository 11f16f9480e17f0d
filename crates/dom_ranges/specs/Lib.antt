pub mod Ends
pub mod Markers
pub mod Shifts
pub mod StaticEnds
pub mod Tables
