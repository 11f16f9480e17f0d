pub mod Shapes
pub mod Rows
pub mod Reads
pub mod Prints
