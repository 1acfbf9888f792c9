pub mod Edits
pub mod Returns
