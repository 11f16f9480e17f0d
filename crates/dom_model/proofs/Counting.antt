-- How many numbers each step on a world takes: never more than the command asks for; and that no number is given out twice.
pub mod NumbersGone
pub mod CountsKept
pub mod CountsOfData
pub mod CountsOfContents
pub mod CopiesCounted
pub mod TreesOfChildren
pub mod CopiesGrow
pub mod CopiesOfContents
pub mod CountsOfExtraction
pub mod StepsCounted
pub mod CommandsCounted
pub mod NumbersKept
pub mod NewNumbers
pub mod NumbersStay
