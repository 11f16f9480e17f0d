-- Dialogues as theorems, from bytes to bytes, by computing: each is written by `tools/rows.py` from the folder of its subject under
-- `dialogues`. Those of objects that are released are written by hand, from commands to replies.
pub mod Exchanges
pub mod TreesAndData
pub mod Ranges
pub mod Traversal
pub mod Observers
pub mod LinesAndLimits
pub mod BadInput
pub mod Released
