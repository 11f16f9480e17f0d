-- Laws of the token text, each subject in a folder of its own; here, the tests that the dialogues run by computing.
pub mod Agreement
pub mod ContentsBetween
pub mod EndsInTheirGaps
pub mod PointGaps
pub mod Pieces
pub mod AlikeTrees
pub mod Marked
pub mod EditsMade
pub mod Contents
pub mod Fragments
