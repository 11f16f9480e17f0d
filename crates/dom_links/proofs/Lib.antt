mod ArenaAgainLemmas
mod ArenaMemoryLemmas
pub mod CellsLemmas
mod CellsLentLemmas
pub mod ChangedMemoryLemmas
mod DropLemmas
mod FillSlotLemmas
pub mod LeafLemmas
mod LinkUnlinkLemmas
pub mod ListLengthLemmas
pub mod ListNeighbourLemmas
mod LookLemmas
mod NodeReadLemmas
pub mod PlacedLemmas
mod PoolStepLemmas
mod PoolWalkLemmas
mod SetValueLemmas
pub mod UnlinkLemmas
