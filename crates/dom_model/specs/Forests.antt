-- Nodes and forests: kinds, names, texts and attributes of nodes; the one inductive type, and what is read of it; what a store of
-- linked slots shows. DOM Standard, "Trees", "Nodes".
pub mod Kinds
pub mod Names
pub mod Texts
pub mod Attributes
pub mod Arena
pub mod Forest
pub mod Nodes
pub mod EachNode
pub mod Documents
pub mod Lies
pub mod ForestCode
pub mod Ways
