pub mod Outcomes
pub mod SurroundRefusal
