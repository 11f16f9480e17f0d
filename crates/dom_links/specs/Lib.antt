pub mod ArenaMemory
pub mod Borrows
pub mod Cells
pub mod LinkSteps
pub mod Ownership
pub mod Placed
pub mod Pointers
