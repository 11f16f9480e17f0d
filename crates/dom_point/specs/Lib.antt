pub mod Boundary
pub mod Refusals
