-- Queues, the pending list and registrations after each step; observers are told apart.
pub mod Queues
pub mod NodeRegistrations
pub mod Apart
pub mod InTurn
