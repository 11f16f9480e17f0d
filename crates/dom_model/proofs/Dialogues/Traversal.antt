-- Dialogues on iterators and walkers.
pub mod FiltersByKindAndName
pub mod IteratorFallsBack
pub mod IteratorGivesWay
pub mod WalkerLists
pub mod WalkerMoves
pub mod WalkerOutsideItsRoot
pub mod WalkerPastItsRoot
