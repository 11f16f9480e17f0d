pub mod FitLemmas
pub mod ListPlaceLemmas
pub mod LiveEntryLemmas
pub mod SlotEntryLemmas
pub mod SlotStepLemmas
