-- Character data, Texts and attributes as they change, and copies of nodes. DOM Standard, "Interface CharacterData", "Interface Text",
-- "Interface Node".
pub mod Data
pub mod Clones
pub mod Joinable
