pub mod NewChildren
pub mod SetAttributes
pub mod Paragraphs
pub mod RemovalLemmas
