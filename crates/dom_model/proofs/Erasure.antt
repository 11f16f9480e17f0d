-- Observers do not feel one another, and the tree does not feel what only watches it, over whole lists of commands.
pub mod ErasedWorlds
pub mod ErasedData
pub mod ErasedContents
pub mod ErasedWrapping
pub mod ErasedSteps
pub mod ErasedTreeAnswers
pub mod ErasedWatcherAnswers
pub mod ErasedObserving
pub mod ErasedLists
pub mod ErasedObservers
pub mod ErasedWatchers
pub mod ErasedDialogues
pub mod ErasedDiscards
pub mod DiscardsFelt
