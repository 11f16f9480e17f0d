pub mod Numbered
pub mod Paged
