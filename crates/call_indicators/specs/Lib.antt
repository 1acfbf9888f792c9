pub mod Lists
pub mod Emptied
pub mod Finds
