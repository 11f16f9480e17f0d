pub mod FaultsInLemmas
pub mod IsRefusalOfLemmas
pub mod LimitReadLemmas
