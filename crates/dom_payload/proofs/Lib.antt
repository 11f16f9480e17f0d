pub mod NoAttributes
pub mod TailLemmas
