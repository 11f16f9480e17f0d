pub mod Borrows
pub mod Slotted
