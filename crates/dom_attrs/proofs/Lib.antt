pub mod EntriesLemmas
pub mod TakeLemmas
pub mod AttributeLemmas
