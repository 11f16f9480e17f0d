-- Commands, answers and lines: each command with its refusals in their order, its answer and the next world; the table of commands; from
-- the bytes that are read to the bytes that are written.
pub mod Refusal
pub mod Command
pub mod Counts
pub mod NewNumbers
pub mod AskedFor
pub mod Reply
pub mod Guards
pub mod AnswerMaking
pub mod AnswerTree
pub mod AnswerData
pub mod AnswerRanges
pub mod AnswerTraversal
pub mod AnswerObserving
pub mod AnswerStatic
pub mod AnswerDiscard
pub mod Answer
pub mod Table
pub mod Line
pub mod Printed
pub mod Output
