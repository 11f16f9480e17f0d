-- Plain words on lists of numbers.
pub mod Lists
pub mod LastOnce
