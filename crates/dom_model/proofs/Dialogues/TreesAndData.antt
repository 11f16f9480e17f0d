-- Dialogues on trees, data, attributes and copies.
pub mod AttributesInOrder
pub mod ChildrenOfADocument
pub mod CopiesAndPositions
pub mod DataCountedInUnits
pub mod DiscardedTrees
pub mod DocumentsOfCopies
pub mod OrderOfInsertRefusals
pub mod SplitPastTheEnd
pub mod TreePrinted
pub mod LoneSurrogate
pub mod MovesBetweenDocuments
pub mod MovesRefused
pub mod OrderOfChildren
