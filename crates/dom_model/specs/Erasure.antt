-- What is left of commands and replies without some observers, or without all that watches the tree. Ours.
pub mod Erasing
pub mod DiscardsAlike
