pub mod Ends
pub mod FilterRules
pub mod Items
pub mod NamedNodes
pub mod NewReferences
pub mod PositionsByNode
pub mod PreRemoval
pub mod SiblingWalks
