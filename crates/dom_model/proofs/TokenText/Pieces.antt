-- How token texts are walked, what they are made of, and what stands around a gap.
pub mod TokenLists
pub mod TextWalks
pub mod TextParts
pub mod TextPieces
pub mod TextCounts
pub mod TextContexts
pub mod TextPoints
pub mod TextGaps
pub mod TextSiblings
pub mod RootTexts
pub mod TextsClosedUp
pub mod NodeTokens
pub mod PartedTexts
pub mod MergedTexts
