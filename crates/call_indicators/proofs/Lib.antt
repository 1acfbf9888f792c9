pub mod Cards
pub mod Lists
