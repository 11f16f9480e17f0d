-- The token text: a second account of where range ends go, by markers in a text. Ours.
pub mod Tokens
pub mod Edits
pub mod CommandEdits
pub mod Gaps
pub mod Between
pub mod Originals
pub mod Fitting
