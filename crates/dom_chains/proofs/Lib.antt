pub mod AfterBeforeLemmas
pub mod AllItemsLemmas
pub mod ChainWalkLemmas
pub mod CoversLemmas
pub mod HasKeyLemmas
pub mod RechainsLemmas
pub mod TableStepLemmas
