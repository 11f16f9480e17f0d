-- Over each list of primitive edits that fit, the ends of live ranges stand where their markers stand.
pub mod MarkersMoved
pub mod GapOpened
pub mod GapClosed
pub mod GapSpliced
pub mod GapParted
pub mod GapMerged
pub mod MarkedTexts
pub mod MarkedFirst
pub mod MarkedEnds
pub mod MarkedInsertion
pub mod MarkedRemoval
pub mod MarkedSplice
pub mod MarkedParting
pub mod MarkedMerge
pub mod MarkedDiscard
pub mod MarkedEdits
