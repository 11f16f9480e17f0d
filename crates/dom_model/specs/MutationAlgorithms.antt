-- Editing the tree, as steps on the world: what may come in, what comes in and leaves, and how iterators give way; discarding a tree.
-- DOM Standard, "Mutation algorithms".
pub mod Checks
pub mod PreRemoval
pub mod Editing
pub mod Discarding
pub mod Insertable
