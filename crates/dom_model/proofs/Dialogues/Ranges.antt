-- Dialogues on ranges and their contents.
pub mod CommentsAreNoText
pub mod ContentsClonedAndExtracted
pub mod ContentsOfARange
pub mod EmptyEndsExtracted
pub mod EndsAfterInsertion
pub mod EndsAfterNormalizing
pub mod EndsAfterReplacedData
pub mod EndsAfterSplit
pub mod EndsAtJoinedTexts
pub mod EndsCompared
pub mod ExtractAcrossParagraphs
pub mod RangesCompared
pub mod RefusedSurroundLeavesNoTrace
pub mod StaticRangesStay
pub mod SurroundAllOrNothing
pub mod TextsSurrounded
