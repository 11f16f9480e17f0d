-- What holds of each world that commands reach.
pub mod Sound
pub mod Owners
