pub mod Folding
pub mod Words
