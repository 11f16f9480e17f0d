-- What observers ask for, and what they are told. DOM Standard, "Mutation observers".
pub mod GivenOptions
pub mod Record
pub mod Observing
pub mod Records
