pub mod Numbered
pub mod Readers
