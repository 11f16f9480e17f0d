pub mod Chained
pub mod Keyed
pub mod LinkCodes
