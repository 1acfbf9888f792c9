pub mod Paste
pub mod Stores
