-- Laws of numbers and of lists of numbers.
pub mod Numbers
pub mod Rising
pub mod Places
pub mod Members
pub mod Mapped
pub mod FromFirst
pub mod Heads
pub mod Searches
